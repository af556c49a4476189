-- `logs::scan::begin_turn` meets its contract. Assumes nothing.
use mathlib.Core.Bool.{not}
use mathlib.Core.Path.{ap}
use Prim.Native.Nat.{ℕ, ◌<◌}
use native.Mathlib.Omega.{arith}
use Rattle.field.proofs.Test.{pick-false}
use Rattle.logs.specs.Record.{length_of}
use Rattle.logs.proofs.Ways.{lost-pick, on-pick, begin-last}
use Rattle.logs.proofs.scan.begin_turn.Goals as goal

pub returns-then-w-eq4294967295 : goal.returns-then-w-eq4294967295
returns-then-w-eq4294967295 c = begin-last _ c.args.m.now _ c.lost.ensures c.if-w-eq4294967295.true

pub is_begin-requires : goal.is_begin-requires
is_begin-requires c = let a = c in (a.requires.2, a.requires.3)

pub returns-then-not-is_begin : goal.returns-then-not-is_begin
returns-then-not-is_begin c = lost-pick _ _ _ _ c.lost-then-not-is_begin.ensures c.is_begin.ensures (ap not c.if-not-is_begin.true)

pub begun-requires : goal.begun-requires
unfolding length_of
begun-requires c =
    let a = c in
    let u : a.args.w.unit.0 < 4294967295 = omega (arith, c.if-w-eq4294967295.false) in
    (omega arith, a.requires.0, u, omega (arith, a.requires.1, a.requires.2))

pub returns : goal.returns
returns c =
    let a = c in
    rw (pick-false {A = ℕ} _ 1 0 a.requires.3) (on-pick _ _ _ _ c.begun.ensures c.is_begin.ensures (ap not c.if-not-is_begin.false))
