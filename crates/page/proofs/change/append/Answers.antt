-- `page::change::append` meets its contract: the records stand behind those that were there. Assumes nothing.
use native.Mathlib.Omega.{arith}
use Rattle.page.proofs.Changes.{pick_takes, appended-is}
use Rattle.page.proofs.change.append.Goals as goal

pub count-old-requires : goal.count-old-requires
count-old-requires c =
    let a = c in
    (pick_takes a.args.pg.now a.requires.pg_value).whole

pub set_head-requires : goal.set_head-requires
set_head-requires c =
    let a = c in
    (pick_takes a.args.pg.now a.requires.pg_value).whole

pub copy-requires : goal.copy-requires
copy-requires c =
    let a = c in
    omega (arith, c.set_head.auto.pg, (pick_takes a.args.pg.now a.requires.pg_value).whole)

pub returns : goal.returns
returns c =
    let a = c in
    cc (appended-is a.args.n.0 a.args.k a.args.rs.now a.args.pg.now a.requires.pg_value a.requires.rs_len.0)
