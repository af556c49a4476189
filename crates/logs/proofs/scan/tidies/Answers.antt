-- `logs::scan::tidies` meets its contract. Assumes nothing.
use Prim.Native.Nat.{◌≤◌, ◌<◌}
use native.Mathlib.Omega.{arith}
use mathlib.Core.Path.{◌≡◌, sym, ap, ◌∙◌}
use mathlib.Core.Bool.{true, not}
use lib.ListN.{length, drop, length-drop}
use borrow.Author.Tests.{le-leb, lt-leb}
use borrow.Author.Rules.{part_to_end}
use Rattle.field.proofs.Test.{both_true, both_false, pick_true, pick-false}
use Rattle.logs.specs.Scan.{live, tidies_on}
use Rattle.logs.proofs.scan.tidies.Goals as goal
use Rattle.logs.proofs.scan.tidies.Goals.{Else-not-live}

-- a record comes
goes : (c : Else-not-live) → let a = c.args in live a.l.now a.w ≡ true
goes c = sym c.live.ensures ∙ c.if-not-live.false

pub returns-then-not-live : goal.returns-then-not-live
unfolding tidies_on
returns-then-not-live c = sym (both_false _ _ (sym c.live.ensures ∙ c.if-not-live.true))

pub returns-then-w : goal.returns-then-w
unfolding tidies_on
returns-then-w c = sym (both_true _ _ (goes (goal.at.returns-then-w c).Else-not-live) ∙ pick_true _ _ _ c.if-w.true)

pub overflow_sub-l : goal.overflow_sub-l
overflow_sub-l c = omega (arith, c.requires)

pub returns-then-l-at-lt-LB_LONG : goal.returns-then-l-at-lt-LB_LONG
unfolding tidies_on
returns-then-l-at-lt-LB_LONG c =
    let o = c in
    let a = o.args in
    let h : length (drop a.w.at a.l.now) < 44 = rw length-drop (omega (arith, c.if-l-at-lt-LB_LONG.true)) in
    sym (both_true _ _ (goes (goal.at.returns-then-l-at-lt-LB_LONG c).Else-not-live) ∙ pick-false _ _ _ o.if-w.false ∙ pick-false _ _ _ (lt-leb 44 _ h))

pub slice_bounds-saves-count : goal.slice_bounds-saves-count
slice_bounds-saves-count c = omega (arith, c.requires)

pub slice_bounds-saves-start : goal.slice_bounds-saves-start
slice_bounds-saves-start c = omega (arith, c.requires)

pub saves-requires : goal.saves-requires
saves-requires c = rw (part_to_end, length-drop) (omega (arith, c.if-l-at-lt-LB_LONG.false))

pub returns : goal.returns
unfolding tidies_on
returns c =
    let r = c in
    let o = r in
    let a = o.args in
    let h : 44 ≤ length (drop a.w.at a.l.now) = rw length-drop (omega (arith, r.if-l-at-lt-LB_LONG.false)) in
    ap not (rw part_to_end at c.saves.ensures)
    ∙ sym (both_true _ _ (goes (goal.at.returns c).Else-not-live) ∙ pick-false _ _ _ o.if-w.false ∙ pick_true _ _ _ (le-leb 44 _ h))
