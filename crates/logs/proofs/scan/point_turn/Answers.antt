-- `logs::scan::point_turn` meets its contract. Assumes nothing.
use mathlib.Core.Bool.{not}
use mathlib.Core.Path.{ap}
use Prim.Native.Nat.{◌+◌, ◌<◌}
use native.Mathlib.Omega.{arith}
use Rattle.logs.specs.Scan.{stepped}
use Rattle.logs.proofs.Ways.{lost-pick, on-pick, modify-room}
use Rattle.logs.proofs.scan.point_turn.Goals as goal

pub returns-then-not-is_modify : goal.returns-then-not-is_modify
unfolding stepped
returns-then-not-is_modify c = lost-pick _ _ _ _ c.lost.ensures c.is_modify.ensures (ap not c.if-not-is_modify.true)

pub pointed-requires : goal.pointed-requires
pointed-requires c =
    let a = c in
    let r = modify-room _ a.args.m.now _ (ap not c.if-not-is_modify.false) _ _ _ c.is_modify.ensures in
    let k : a.args.w.at + 28 < 18446744073709551616 = omega (arith, r) in
    (a.requires.0, k, a.requires.2, r)

pub returns : goal.returns
unfolding stepped
returns c = on-pick _ _ _ _ c.pointed.ensures c.is_modify.ensures (ap not c.if-not-is_modify.false)
