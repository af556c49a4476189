-- `logs::scan::saving` meets its contract. Assumes nothing.
use Prim.Native.Nat.{◌≤◌, ◌<◌}
use native.Mathlib.Omega.{arith}
use mathlib.Core.Path.{sym, ◌∙◌}
use lib.ListN.{length, drop, length-drop}
use borrow.Author.Tests.{le-leb, lt-leb}
use borrow.Author.Rules.{part_to_end}
use Rattle.field.proofs.Test.{pick_true, pick-false}
use Rattle.logs.specs.Scan.{saving_on}
use borrow.Author.Rules.{rules}
use Rattle.logs.proofs.scan.saving.Statement.{statement}
use Rattle.logs.proofs.scan.saving.Tie as tie

sub-saves : tie.Need-slice_bounds-saves-count
sub-saves c = omega (arith, c.before.before.requires.room c.if-w.true)

part-saves-start : tie.Need-slice_bounds-saves-start
part-saves-start c = omega (arith, c.before.before.requires.room c.if-w.true)

part-saves-end : tie.Need-slice_bounds-saves-end
part-saves-end c = search rules

saves-requires : tie.Need-saves-requires
saves-requires c κs = rw (part_to_end, length-drop) (omega (arith, c.before.before.before.requires.room c.before.if-w.true))

returns : tie.Need-returns-then-w
unfolding saving_on
returns c = rw part_to_end at c.saves.ensures ∙ sym (pick_true _ _ _ c.before.before.if-w.true)

sub-if2 : tie.Need-overflow_sub-l
sub-if2 c = omega (arith, c.before.before.requires.inside)

returns-2 : tie.Need-returns-then-l-at-lt-LB_LONG
unfolding saving_on
returns-2 c =
    let a = c.before.before.before.args in
    let h : length (drop a.w.at a.l.now) < 44 = rw length-drop (omega (arith, c.if-l-at-lt-LB_LONG.true)) in
    sym (pick-false _ _ _ c.before.if-w.false ∙ pick-false _ _ _ (lt-leb 44 _ h))

sub-saves-2 : tie.Need-slice_bounds-saves-count-2
sub-saves-2 c = omega (arith, c.before.before.before.requires.inside)

part-saves-start-2 : tie.Need-slice_bounds-saves-start-2
part-saves-start-2 c = omega (arith, c.before.before.before.requires.inside)

part-saves-end-2 : tie.Need-slice_bounds-saves-end-2
part-saves-end-2 c = search rules

saves-requires-2 : tie.Need-saves-requires-2
saves-requires-2 c κs = rw (part_to_end, length-drop) (omega (arith, c.before.if-l-at-lt-LB_LONG.false))

returns-3 : tie.Need-returns
unfolding saving_on
returns-3 c =
    let o = c.before.before in
    let a = o.before.before.before.args in
    let h : 44 ≤ length (drop a.w.at a.l.now) = rw length-drop (omega (arith, o.if-l-at-lt-LB_LONG.false)) in
    rw part_to_end at c.saves-2.ensures ∙ sym (pick-false _ _ _ o.before.if-w.false ∙ pick_true _ _ _ (le-leb 44 _ h))

pub saving_spec : {M : Type 1} → statement M
saving_spec =
    tie.close
    (tie.spec
    sub-saves
    part-saves-start
    part-saves-end
    saves-requires
    returns
    sub-if2
    returns-2
    sub-saves-2
    part-saves-start-2
    part-saves-end-2
    saves-requires-2
    returns-3)
