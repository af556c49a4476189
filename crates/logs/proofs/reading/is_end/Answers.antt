-- `logs::reading::is_end` meets its contract. Assumes nothing.
use Prim.Native.Nat.{◌≤◌}
use native.Mathlib.Omega.{arith}
use mathlib.Core.List.{[]}
use mathlib.Core.Path.{◌∙◌}
use Rattle.logs.specs.Record.{length_of}
use Rattle.logs.specs.Table.{kinds, kind_at}
use Rattle.logs.proofs.Stand.{stand-short, stand-rest!, end-long}
use Rattle.page.specs.Each.{Each}
use Rattle.logs.specs.Record.{LE, carried}
use Rattle.logs.proofs.reading.is_end.Goals as goal

pub returns-then-l-at : goal.returns-then-l-at
returns-then-l-at c =
    let a = c in
    stand-short a.args.n.0 (LE a.args.unit.0 []) a.args.l.now a.args.at c.size_of-long.result (c.size_of-long.ensures ∙ end-long _) c.if-l-at.true

pub same_at-requires : goal.same_at-requires
unfolding length_of kind_at kinds
same_at-requires c = omega arith

pub returns : goal.returns
unfolding carried
returns c =
    let room = c in
    let a = room.args in
    let k : a.n.0 ≤ 4294967295 = omega arith in
    search (stand-rest! a.n.0 (LE a.unit.0 []) a.l.now a.at _ (room.size_of-long.ensures ∙ end-long _) Each.nil k room.if-l-at.false)
