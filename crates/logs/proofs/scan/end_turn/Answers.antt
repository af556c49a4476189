-- `logs::scan::end_turn` meets its contract. Assumes nothing.
use mathlib.Core.Bool.{not}
use mathlib.Core.Path.{ap}
use Prim.Native.Nat.{◌+◌, ◌<◌}
use native.Mathlib.Omega.{arith}
use Rattle.logs.specs.Scan.{stepped}
use Rattle.logs.proofs.Ways.{lost-pick, on-pick, end-room}
use Rattle.logs.proofs.scan.end_turn.Goals as goal

pub returns-then-not-is_end : goal.returns-then-not-is_end
unfolding stepped
returns-then-not-is_end c = lost-pick _ _ _ _ c.lost.ensures c.is_end.ensures (ap not c.if-not-is_end.true)

pub ended-requires : goal.ended-requires
ended-requires c =
    let a = c in
    let r = end-room _ a.args.m.now _ (ap not c.if-not-is_end.false) _ c.is_end.ensures in
    let k : a.args.w.at + 16 < 18446744073709551616 = omega (arith, r) in
    (a.requires.0, k)

pub returns : goal.returns
unfolding stepped
returns c = on-pick _ _ _ _ c.ended.ensures c.is_end.ensures (ap not c.if-not-is_end.false)
