-- `page::change::redirect` meets its contract: the entry is the only one with its key, and its page stands behind that. Assumes nothing.
use native.Mathlib.Omega.{arith}
use Rattle.page.proofs.Region.{base-whole}
use Rattle.page.proofs.Changes.{base-room, redirected-is}
use Rattle.page.proofs.change.redirect.Goals as goal

pub count-rows-requires : goal.count-rows-requires
count-rows-requires c =
    let a = c in
    base-whole a.args.pg.now a.requires.0

pub set_head-requires : goal.set_head-requires
set_head-requires c =
    let a = c in
    base-whole a.args.pg.now a.requires.0

pub put2-requires : goal.put2-requires
put2-requires c =
    let a = c in
    omega (arith, c.set_head.auto.pg, base-whole a.args.pg.now a.requires.0, base-room a.args.pg.now a.requires.0)

pub returns : goal.returns
returns c =
    let a = c in
    cc (redirected-is a.args.n.0 a.args.i a.args.pg.now a.requires.0 a.requires.1 a.args.new.0)
