-- `page::change::make_empty` meets its contract: a header and a body of zeros are the empty page. Assumes nothing.
use native.Mathlib.Omega.{arith}
use Rattle.page.proofs.Changes.{leaf-takes, emptied-is}
use Rattle.page.proofs.change.make_empty.Goals as goal

pub set_head-requires : goal.set_head-requires
set_head-requires c =
    let a = c in
    (leaf-takes a.args.pg.now a.requires).whole

pub clear-requires : goal.clear-requires
clear-requires c =
    let a = c in
    omega (arith, c.set_head.auto.pg, (leaf-takes a.args.pg.now a.requires).whole)

pub returns : goal.returns
returns c =
    let a = c in
    cc (emptied-is a.args.n.0 a.args.pg.now a.requires)
