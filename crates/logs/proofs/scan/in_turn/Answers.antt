-- `logs::scan::in_turn` meets its contract. Assumes nothing.
use mathlib.Core.Bool.{not}
use mathlib.Core.Path.{ap}
use Prim.Native.Nat.{◌+◌, ◌<◌}
use native.Mathlib.Omega.{arith}
use Rattle.logs.specs.Scan.{stepped}
use Rattle.logs.specs.Source.{source_rows}
use Rattle.logs.proofs.Ways.{lost-pick, on-pick, in-room}
use Rattle.logs.proofs.scan.in_turn.Goals as goal

pub returns-then-not-is_in : goal.returns-then-not-is_in
unfolding stepped source_rows
returns-then-not-is_in c = rw (← c.source_rows-rows.ensures) (lost-pick _ _ _ _ c.lost.ensures c.is_in.ensures (ap not c.if-not-is_in.true))

pub brought_in-requires : goal.brought_in-requires
brought_in-requires c =
    let a = c in
    let r = in-room _ a.args.m.now _ (ap not c.if-not-is_in.false) _ _ _ _ c.is_in.ensures in
    let k : a.args.w.at + 24 < 18446744073709551616 = omega (arith, r) in
    (a.requires.0, k, a.requires.2)

pub returns : goal.returns
unfolding stepped source_rows
returns c = rw (← c.source_rows-rows.ensures) (on-pick _ _ _ _ c.brought_in.ensures c.is_in.ensures (ap not c.if-not-is_in.false))
