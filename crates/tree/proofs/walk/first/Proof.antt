-- `tree::walk::first` meets its contract. Assumes nothing.
use native.Mathlib.Omega.{arith}
use mathlib.Core.Path.{sym, ◌∙◌}
use Rattle.tree.proofs.Onward.{end-stands, come-end, all_from, from-done}
use borrow.Author.Rules.{rules}
use Rattle.tree.proofs.walk.first.Statement.{statement}
use Rattle.tree.proofs.walk.first.Tie as tie

count-at-requires : tie.Need-count_at-requires
count-at-requires c κs = search rules

end-requires : tie.Need-end-requires
end-requires c κs = search rules

returns : tie.Need-returns-then-count_at-eq0
returns c =
    let a = c.before.before.before.before in
    let w = a.args.w.now in
    let k = c.before.before.count_at in
    let none = from-done w 0 (omega (arith, k.ensures, c.before.if-count_at-eq0.true)) in
    (end-stands w c.end.result c.end.ensures.0, come-end w c.end.result c.end.ensures.0 ∙ sym (sym (all_from w) ∙ none), c.end.ensures.1)

below-root-requires : tie.Need-below_root-requires
below-root-requires c κs = search rules

returns-2 : tie.Need-returns
returns-2 c = let x = c.below_root.ensures in (x.0, x.1 ∙ all_from c.before.before.before.before.args.w.now, x.2)

pub first_spec : {M : Type 1} → statement M
first_spec =
    tie.close (tie.spec count-at-requires end-requires returns below-root-requires returns-2)
