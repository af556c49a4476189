-- `logs::opening::carries_ok` meets its contract: each test that fails ends it. Assumes nothing.
use mathlib.Core.Bool.{not}
use mathlib.Core.Path.{ap}
use native.Mathlib.Omega.{arith}
use Rattle.logs.specs.Record.{length_of}
use Rattle.logs.proofs.Typed.{carries-mark!, carries-put!, carries-rest! }
use Rattle.logs.proofs.opening.carries_ok.Goals as goal

pub records_ascend-requires : goal.records_ascend-requires
unfolding length_of
records_ascend-requires c = omega (arith, c.requires.0.record-too c.requires.1)

pub returns-then-not-records_ascend : goal.returns-then-not-records_ascend
unfolding length_of
returns-then-not-records_ascend c =
    let a = c in
    search (carries-mark! a.args.m.now (a.requires.0.record-too a.requires.1))

pub byte_at-requires : goal.byte_at-requires
byte_at-requires c = omega (arith, c.requires.0.fields)

pub returns-then-byte_at-ne5 : goal.returns-then-byte_at-ne5
unfolding length_of
returns-then-byte_at-ne5 c =
    let k = c in
    let a = k in
    carries-put! a.args.m.now (a.requires.0.record-too a.requires.1) _ k.records_ascend.ensures (ap not k.if-not-records_ascend.false) _ c.byte_at.ensures.0 c.if-byte_at-ne5.true

pub slice_bounds-zeros-end : goal.slice_bounds-zeros-end
unfolding length_of
slice_bounds-zeros-end c =
    let a = c in
    omega (arith, a.requires.0.record-too a.requires.1)

pub returns : goal.returns
unfolding length_of
returns c =
    let k = c in
    let j = k in
    let a = j in
    carries-rest! a.args.m.now (a.requires.0.record-too a.requires.1) _ j.records_ascend.ensures (ap not j.if-not-records_ascend.false) _ k.byte_at.ensures.0 k.if-byte_at-ne5.false _ c.zeros.ensures
