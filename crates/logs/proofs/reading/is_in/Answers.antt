-- `logs::reading::is_in` meets its contract. Assumes nothing.
use Prim.Native.Nat.{◌≤◌}
use native.Mathlib.Omega.{arith}
use Rattle.logs.specs.Record.{length_of}
use Rattle.logs.specs.Table.{kinds, kind_at}
use Rattle.logs.proofs.Stand.{in-short, in-rest! }
use Rattle.logs.proofs.reading.is_in.Goals as goal

pub returns-then-l-at : goal.returns-then-l-at
returns-then-l-at c = let a = c in in-short _ _ _ _ _ a.args.l.now a.args.at _ c.size_of-long.ensures c.if-l-at.true

pub same_at-requires : goal.same_at-requires
unfolding length_of kind_at kinds
same_at-requires c = omega arith

pub returns : goal.returns
returns c =
    let room = c in
    let a = room.args in
    let k : a.n.0 ≤ 4294967295 = omega arith in
    search (in-rest! a.n.0 a.org.0 a.dest.0 a.back a.rows a.l.now a.at _ room.size_of-long.ensures k room.if-l-at.false)
