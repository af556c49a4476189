-- `page::change::remove` meets its contract: the entries behind the removed one move over it, and zeros follow. Assumes nothing.
use native.Mathlib.Omega.{arith}
use Rattle.page.proofs.Region.{base-whole}
use Rattle.page.proofs.Changes.{base-room, removed-is}
use Rattle.page.proofs.change.remove.Goals as goal

pub count-rows-requires : goal.count-rows-requires
count-rows-requires c =
    let a = c in
    base-whole a.args.pg.now a.requires.0

pub set_head-requires : goal.set_head-requires
set_head-requires c =
    let a = c in
    base-whole a.args.pg.now a.requires.0

pub shift-requires : goal.shift-requires
shift-requires c =
    let a = c in
    omega (arith, c.set_head.auto.pg, base-whole a.args.pg.now a.requires.0, base-room a.args.pg.now a.requires.0)

pub clear-requires : goal.clear-requires
clear-requires c =
    let h = c in
    let a = h in
    let pg = a.args.pg.now in
    omega (arith, c.shift.auto.s, h.set_head.auto.pg, base-whole pg a.requires.0, base-room pg a.requires.0)

pub returns : goal.returns
returns c =
    let a = c in
    cc (removed-is a.args.n.0 a.args.i a.args.pg.now a.requires.0 a.requires.1)
