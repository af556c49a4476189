-- `saving::delete::delete_leaf` meets its contract. Assumes nothing.
use Rattle.saving.proofs.Plans.{listed-as}
use Rattle.saving.proofs.Deletes.{two-of, under-inside, out-leaf}
use borrow.Author.Rules.{rules}
use Rattle.saving.proofs.delete.delete_leaf.Statement.{statement}
use Rattle.saving.proofs.delete.delete_leaf.Tie as tie

cast-count-at : tie.Need-overflow_cast-x
cast-count-at c = search rules

count-at-requires : tie.Need-count_at-requires
count-at-requires c κs = search rules

delete-base-requires : tie.Need-delete_base-requires
delete-base-requires c κs = search rules

returns : tie.Need-returns-then-count_at-eq1
returns c = search rules

united-requires : tie.Need-united-base-requires
united-requires c κs =
    let a = c.before.before.before.before in
    (a.requires.0.whole, a.requires.2.base, under-inside a.args.w.now _ a.requires.2)

emptied-requires : tie.Need-emptied-leaf-requires
emptied-requires c κs = search rules

listed-requires : tie.Need-listed-requires
listed-requires c κs = search rules

returns-2 : tie.Need-returns
returns-2 c = λ r.
    let l = c.before in
    let u = l.before in
    let n = u.before.before in
    let a = n.before.before.before in
    let w = a.args.w.now in
    listed-as w r _ _ 2 _ _ _ _ _ _ _ _ u.united-base.ensures (l.emptied-leaf.ensures w) (l.emptied-leaf.ensures w) (l.emptied-leaf.ensures w) c.listed.ensures
    (out-leaf w _ a.requires.2 (two-of _ _ n.count_at.ensures a.requires.2.base.full u.before.if-count_at-eq1.false))

pub delete_leaf_spec : {M : Type 1} → statement M
delete_leaf_spec =
    tie.close
    (tie.spec
    cast-count-at
    count-at-requires
    delete-base-requires
    returns
    united-requires
    emptied-requires
    listed-requires
    returns-2)
