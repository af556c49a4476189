-- `tree::find::in_leaf` meets its contract. Assumes nothing.
use Rattle.page.proofs.Pages.{lent-page}
use Rattle.tree.proofs.Descent.{leaf-page}
use borrow.Author.Rules.{rules}
use Rattle.tree.proofs.find.in_leaf.Statement.{statement}
use Rattle.tree.proofs.find.in_leaf.Tie as tie

mul_at : tie.Need-overflow_mul-at
mul_at c = search rules

add-leaf-on : tie.Need-overflow_add-at
add-leaf-on c = search rules

sub-leaf-on : tie.Need-slice_bounds-leaf_on-count
sub-leaf-on c = search rules

part-leaf-on-start : tie.Need-slice_bounds-leaf_on-start
part-leaf-on-start c = search rules

part-leaf-on-end : tie.Need-slice_bounds-leaf_on-end
part-leaf-on-end c = search rules

leaf-on-requires : tie.Need-leaf_on-requires
leaf-on-requires c κs = search rules

returns : tie.Need-returns
returns c =
    let a = c.before.before.before in
    let lends = lent-page a.args.p a.args.w.now in
    let on = leaf-page a.args.key a.args.p a.args.w.now in
    (cc (lends, on), cc (lends, on))

pub in_leaf_spec : {M : Type 1} → statement M
in_leaf_spec =
    tie.close
    (tie.spec
    mul_at
    add-leaf-on
    sub-leaf-on
    part-leaf-on-start
    part-leaf-on-end
    leaf-on-requires
    returns)
