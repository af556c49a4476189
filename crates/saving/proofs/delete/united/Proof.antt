-- `saving::delete::united` meets its contract. Assumes nothing.
use mathlib.Core.Path.{◌∙◌, sym}
use Rattle.saving.proofs.Deletes.{left-draws, only-draws, right-draws}
use borrow.Author.Rules.{rules}
use Rattle.saving.proofs.delete.united.Statement.{statement}
use Rattle.saving.proofs.delete.united.Tie as tie

add-patched : tie.Need-overflow_add-i
add-patched c = search rules

patched-requires : tie.Need-patched-requires
patched-requires c κs = search rules

returns : tie.Need-returns-then-i-gt0
returns c =
    let a = c.before.before.before in
    left-draws a.args.w.now _ _ _ _ c.before.if-i-gt0.true a.requires.2 c.patched.ensures

cast-count-at : tie.Need-overflow_cast-p
cast-count-at c = search rules

count-at-requires : tie.Need-count_at-requires
count-at-requires c κs = search rules

patched-requires-2 : tie.Need-patched-requires-then-count_at-eq1
patched-requires-2 c κs = search rules

returns-2 : tie.Need-returns-then-count_at-eq1
returns-2 c =
    let n = c.before.before in
    let e = n.before.before in
    let a = e.before.before in
    only-draws a.args.w.now _ _ _ _ e.if-i-gt0.false (sym n.count_at.ensures ∙ c.before.if-count_at-eq1.true) c.patched-then-count_at-eq1.ensures

key-at-requires : tie.Need-key_at-requires
key-at-requires c κs = search rules

lowered-requires : tie.Need-lowered-requires
lowered-requires c κs = search rules

returns-3 : tie.Need-returns
returns-3 c =
    let e = c.before.before.before.before.before in
    let a = e.before.before in
    right-draws a.args.w.now _ _ _ _ _ e.if-i-gt0.false c.before.key_at.ensures c.lowered.ensures

pub united_spec : {M : Type 1} → statement M
united_spec =
    tie.close
    (tie.spec
    add-patched
    patched-requires
    returns
    cast-count-at
    count-at-requires
    patched-requires-2
    returns-2
    key-at-requires
    lowered-requires
    returns-3)
