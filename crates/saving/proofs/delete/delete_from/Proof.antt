-- `saving::delete::delete_from` meets its contract. Assumes nothing.
use mathlib.Core.Path.{◌∙◌, sym}
use Rattle.saving.specs.Draft.{inserted}
use Rattle.saving.proofs.Plans.{plans-as, listed-as}
use Rattle.saving.proofs.Deletes.{from-none, from-leaf, from_empty}
use borrow.Author.Rules.{rules}
use Rattle.saving.proofs.delete.delete_from.Statement.{statement}
use Rattle.saving.proofs.delete.delete_from.Tie as tie

refused-requires : tie.Need-refused-requires
refused-requires c κs = search rules

returns : tie.Need-returns-then-x
returns c = λ r.
    let a = c.before.before.before.before in
    let w = a.args.w.now in
    let t = a.requires.2 in
    plans-as w r _ _ _ (c.refused.ensures w r) (from-none w _ _ _ _ _ t.stands t.leaf.inside c.before.if-x.true)

cast-count-at : tie.Need-overflow_cast-x
cast-count-at c = search rules

count-at-requires : tie.Need-count_at-requires
count-at-requires c κs = search rules

delete-leaf-requires : tie.Need-delete_leaf-requires
delete-leaf-requires c κs = search rules

returns-2 : tie.Need-returns-then-count_at-eq1
returns-2 c = λ r.
    let n = c.before.before in
    let e = n.before.before in
    let a = e.before.before.before in
    let w = a.args.w.now in
    let t = a.requires.2 in
    plans-as w r _ _ _ (c.delete_leaf.ensures r)
    (from_empty w _ _ _ _ _ t.stands t.leaf.inside e.if-x.false (sym n.count_at.ensures ∙ c.before.if-count_at-eq1.true))

patched-requires : tie.Need-patched-leaf-requires
patched-requires c κs = search rules

listed-requires : tie.Need-listed-requires
listed-requires c κs = search rules

returns-3 : tie.Need-returns
unfolding inserted
returns-3 c = λ r.
    let d = c.before in
    let n = d.before.before in
    let e = n.before.before in
    let a = e.before.before.before in
    let w = a.args.w.now in
    let t = a.requires.2 in
    listed-as w r _ _ 1 _ _ _ _ _ _ _ _ d.patched-leaf.ensures d.patched-leaf.ensures d.patched-leaf.ensures d.patched-leaf.ensures c.listed.ensures
    (from-leaf w _ _ _ _ _ t.stands t.leaf.inside e.if-x.false (λ z. d.before.if-count_at-eq1.false (n.count_at.ensures ∙ z)))

pub delete_from_spec : {M : Type 1} → statement M
delete_from_spec =
    tie.close
    (tie.spec
    refused-requires
    returns
    cast-count-at
    count-at-requires
    delete-leaf-requires
    returns-2
    patched-requires
    listed-requires
    returns-3)
