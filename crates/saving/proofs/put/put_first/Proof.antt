-- `saving::put::put_first` meets its contract: root, base page and leaf with one row each. Assumes nothing.
use Rattle.field.specs.Test.{pick}
use Rattle.saving.specs.Draft.{inserted, spare_of}
use Rattle.saving.proofs.Plans.{plans-as, listed-as}
use Rattle.saving.proofs.Puts.{first-none, first_some}
use borrow.Author.Rules.{rules}
use Rattle.saving.proofs.put.put_first.Statement.{statement}
use Rattle.saving.proofs.put.put_first.Tie as tie

free-leaf-requires : tie.Need-free_leaf-p-requires
free-leaf-requires c κs = search rules

refused-requires : tie.Need-refused-requires
refused-requires c κs = search rules

returns : tie.Need-returns-then-p-gt-LAST_LEAF
returns c = λ r.
    let f = c.before.before.before in
    let w = f.before.before.args.w.now in
    plans-as w r _ _ _ (c.refused.ensures w r) (first-none r _ _ f.free_leaf-p.ensures c.before.if-p-gt-LAST_LEAF.true)

sole-requires : tie.Need-sole-root-requires
sole-requires c κs = search rules

sole-requires-2 : tie.Need-sole-base-requires
sole-requires-2 c κs = search rules

sole-requires-3 : tie.Need-sole-leaf-requires
sole-requires-3 c κs = search rules

listed-requires : tie.Need-listed-requires
listed-requires c κs = search rules

returns-2 : tie.Need-returns
unfolding inserted spare_of pick
returns-2 c = λ r.
    let l = c.before in
    let b = l.before in
    let z = b.before in
    let f = z.before.before.before in
    let w = f.before.before.args.w.now in
    listed-as w r _ _ 3 _ _ _ _ _ _ _ _ (z.sole-root.ensures w) (b.sole-base.ensures w) (l.sole-leaf.ensures w) (l.sole-leaf.ensures w) c.listed.ensures
    (first_some r _ _ f.free_leaf-p.ensures z.before.if-p-gt-LAST_LEAF.false)

pub put_first_spec : {M : Type 1} → statement M
put_first_spec =
    tie.close
    (tie.spec
    free-leaf-requires
    refused-requires
    returns
    sole-requires
    sole-requires-2
    sole-requires-3
    listed-requires
    returns-2)
