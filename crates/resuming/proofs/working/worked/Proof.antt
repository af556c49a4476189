-- `resuming::working::worked` meets its contract. Assumes nothing.
use mathlib.Core.Path.{sym}
use Rattle.resuming.proofs.Stages.{readied-holds, worked-put, worked-delete, plans-of}
use borrow.Author.Rules.{rules}
use Rattle.resuming.proofs.working.worked.Statement.{statement}
use Rattle.resuming.proofs.working.worked.Tie as tie

put-drafts-requires : tie.Need-put_drafts-requires
put-drafts-requires c κs =
    let a = c.before.before.before in
    (record { whole = a.requires.0; forms = (readied-holds _ a.requires.2).0 }, (readied-holds _ a.requires.2).1, a.requires.1)

returns : tie.Need-returns-then-kind-eq4
returns c =
    let a = c.before.before.before.before in
    plans-of _ _ _ _ _ c.put_drafts.ensures (sym (worked-put _ a.args.r.now _ a.requires.2 c.before.if-kind-eq4.true))

get4-requires : tie.Need-get4-requires
get4-requires c κs = search rules

delete-drafts-requires : tie.Need-delete_drafts-requires
delete-drafts-requires c κs =
    let a = c.before.before.before.before in
    (record { whole = a.requires.0; forms = (readied-holds _ a.requires.2).0 }, (readied-holds _ a.requires.2).1)

returns-2 : tie.Need-returns
returns-2 c =
    let k = c.before in
    let a = k.before.before.before.before in
    plans-of _ _ _ _ _ (c.delete_drafts.ensures a.args.r.now) (sym (worked-delete _ a.args.r.now _ a.requires.2 k.before.if-kind-eq4.false _ k.get4.ensures))

pub worked_spec : {M : Type 1} → statement M
worked_spec =
    tie.close
    (tie.spec
    put-drafts-requires
    returns
    get4-requires
    delete-drafts-requires
    returns-2)
