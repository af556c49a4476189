-- `logs::scan::save_begun` meets its contract. Assumes nothing.
use Prim.Native.Nat.{ℕ, ◌<◌}
use native.Mathlib.Omega.{arith}
use mathlib.Core.Path.{◌≡◌, ap}
use mathlib.Core.Bool.{true, not}
use Rattle.field.proofs.Test.{pick_true}
use Rattle.logs.specs.Log.{saves_at}
use Rattle.logs.proofs.Signs.{begin-room-fixed}
use Rattle.logs.proofs.Ways.{lost-pick, on-pick, begin-room, begin-last}
use Rattle.logs.proofs.scan.save_begun.Goals as goal
use Rattle.logs.proofs.scan.save_begun.Goals.{Else-not-is_save}

-- an LB that stands there is a put's or a delete's
saves-so : (c : Else-not-is_save) → saves_at c.args.m.now ≡ true
saves-so c =
    let a = c in
    a.requires.2 (begin-room-fixed _ _ (begin-room _ a.args.m.now _ (ap not c.if-not-is_save.false) _ c.is_save.ensures))

pub returns-then-w-eq4294967295 : goal.returns-then-w-eq4294967295
returns-then-w-eq4294967295 c = begin-last _ c.args.m.now _ c.lost.ensures c.if-w-eq4294967295.true

pub is_save-requires : goal.is_save-requires
is_save-requires c = c.requires.2

pub returns-then-not-is_save : goal.returns-then-not-is_save
returns-then-not-is_save c = lost-pick _ _ _ _ c.lost-then-not-is_save.ensures c.is_save.ensures (ap not c.if-not-is_save.true)

pub begun-requires : goal.begun-requires
begun-requires c =
    let a = c in
    let r = rw (pick_true {A = ℕ} _ 1 0 (saves-so (goal.at.begun-requires c).Else-not-is_save)) at (begin-room _ a.args.m.now _ (ap not c.if-not-is_save.false) _ c.is_save.ensures) in
    let u : a.args.w.unit.0 < 4294967295 = omega (arith, c.if-w-eq4294967295.false) in
    (omega arith, a.requires.0, u, omega (arith, a.requires.1, r))

pub returns : goal.returns
returns c = rw (pick_true {A = ℕ} _ 1 0 (saves-so (goal.at.returns c).Else-not-is_save)) (on-pick _ _ _ _ c.begun.ensures c.is_save.ensures (ap not c.if-not-is_save.false))
