-- `saving::put::put_drafts` meets its contract. Assumes nothing.
use mathlib.Core.Path.{◌∙◌, sym}
use Rattle.page.specs.Page.{key_of}
use Rattle.saving.proofs.Plans.{plans-as}
use Rattle.saving.proofs.Puts.{put_first_lem, put-below}
use borrow.Author.Rules.{rules}
use Rattle.saving.proofs.put.put_drafts.Statement.{statement}
use Rattle.saving.proofs.put.put_drafts.Tie as tie

count-at-requires : tie.Need-count_at-requires
count-at-requires c κs = search rules

put-first-requires : tie.Need-put_first-requires
put-first-requires c κs = search rules

returns : tie.Need-returns-then-count_at-eq0
returns c =
    let n = c.before.before in
    let a = n.before.before.before in
    let w = a.args.w.now in
    plans-as w a.args.r.now _ _ _ (c.put_first.ensures a.args.r.now) (put_first_lem a.args.r.now w (sym n.count_at.ensures ∙ c.before.if-count_at-eq0.true))

get4-requires : tie.Need-get4-requires
get4-requires c κs = search rules

route-to-requires : tie.Need-route_to-x-requires
route-to-requires c κs = search rules

put-into-requires : tie.Need-put_into-requires
put-into-requires c κs = search rules

returns-2 : tie.Need-returns
unfolding key_of
returns-2 c =
    let x = c.before in
    let k = x.before in
    let n = k.before.before in
    let a = n.before.before.before in
    let w = a.args.w.now in
    let t = x.route_to-x.ensures.1 in
    let same = x.route_to-x.ensures.0 ∙ k.get4.ensures in
    plans-as w a.args.r.now _ _ _ (c.put_into.ensures a.args.r.now same)
    (put-below a.args.r.now w _ _ _ same t.base-is t.leaf-is (λ z. k.before.if-count_at-eq0.false (n.count_at.ensures ∙ z)))

pub put_drafts_spec : {M : Type 1} → statement M
put_drafts_spec =
    tie.close
    (tie.spec
    count-at-requires
    put-first-requires
    returns
    get4-requires
    route-to-requires
    put-into-requires
    returns-2)
