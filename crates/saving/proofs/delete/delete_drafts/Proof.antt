-- `saving::delete::delete_drafts` meets its contract. Assumes nothing.
use mathlib.Core.Path.{◌∙◌, sym}
use Rattle.saving.proofs.Plans.{plans-as}
use Rattle.saving.proofs.Deletes.{delete-none, delete-below}
use borrow.Author.Rules.{rules}
use Rattle.saving.proofs.delete.delete_drafts.Statement.{statement}
use Rattle.saving.proofs.delete.delete_drafts.Tie as tie

count-at-requires : tie.Need-count_at-requires
count-at-requires c κs = search rules

refused-requires : tie.Need-refused-requires
refused-requires c κs = search rules

returns : tie.Need-returns-then-count_at-eq0
returns c = λ r.
    let n = c.before.before in
    let w = n.before.before.args.w.now in
    plans-as w r _ _ _ (c.refused.ensures w r) (delete-none _ w (sym n.count_at.ensures ∙ c.before.if-count_at-eq0.true))

route-to-requires : tie.Need-route_to-x-requires
route-to-requires c κs = search rules

delete-from-requires : tie.Need-delete_from-requires
delete-from-requires c κs = search rules

returns-2 : tie.Need-returns
returns-2 c = λ r.
    let x = c.before in
    let n = x.before.before in
    let w = n.before.before.args.w.now in
    let t = x.route_to-x.ensures.1 in
    plans-as w r _ _ _ (c.delete_from.ensures r) (rw (← x.route_to-x.ensures.0) (delete-below _ w _ _ t.base-is t.leaf-is t.root.full))

pub delete_drafts_spec : {M : Type 1} → statement M
delete_drafts_spec =
    tie.close
    (tie.spec
    count-at-requires
    refused-requires
    returns
    route-to-requires
    delete-from-requires
    returns-2)
