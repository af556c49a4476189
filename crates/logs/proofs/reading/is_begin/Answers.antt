-- `logs::reading::is_begin` meets its contract: each test that fails ends it. Assumes nothing.
use mathlib.Core.Bool.{not}
use Prim.Native.Nat.{ℕ, ◌≤◌}
use native.Mathlib.Omega.{arith}
use mathlib.Core.Path.{sym, ap}
use Rattle.field.specs.Bytes.{Bytes}
use Rattle.field.proofs.Test.{pick-false}
use Rattle.logs.specs.Record.{length_of}
use Rattle.logs.specs.Table.{kinds, kind_at}
use Rattle.logs.specs.Stand.{Whole}
use Rattle.logs.proofs.Begun.{begin-counts, whole-tidies, begin-bad!, begin-spare!, begin-whole! }
use Rattle.logs.proofs.reading.is_begin.Goals as goal
use Rattle.logs.proofs.reading.is_begin.Goals.{After-shared_slice_known-1, Start}

-- the bytes have room for the record
room : (c : Start) → Whole c.args.m.now
room c = whole-tidies c.args.m.now c.requires.0 c.requires.1

bytes : (c : After-shared_slice_known-1) → Bytes c.args.m.now
bytes c i = omega (arith, c.shared_slice_known-1.given i)

pub begin_ok-requires : goal.begin_ok-requires
begin_ok-requires c = c.requires

pub returns-then-not-begin_ok : goal.returns-then-not-begin_ok
returns-then-not-begin_ok c =
    let a = c in
    let u : a.args.unit.0 ≤ 4294967295 = omega arith in
    search (begin-bad! a.args.m.now a.args.n.0 a.args.unit.0 u)

pub spare_zero-requires : goal.spare_zero-requires
spare_zero-requires c =
    let k = begin-counts _ _ c.begin_ok.ensures (ap not c.if-not-begin_ok.false) in
    (c.requires.0, k.0, k.1)

pub returns-then-not-spare_zero : goal.returns-then-not-spare_zero
returns-then-not-spare_zero c =
    let known = c in
    let a = known in
    let u : a.args.unit.0 ≤ 4294967295 = omega arith in
    let k : a.args.n.0 ≤ 4294967295 = omega arith in
    search (begin-spare! a.args.m.now a.args.n.0 a.args.unit.0 u k (bytes (goal.at.returns-then-not-spare_zero c).After-shared_slice_known-1) (room (goal.at.returns-then-not-spare_zero c).Start))

pub same_at-requires : goal.same_at-requires
unfolding length_of kind_at kinds
same_at-requires c = omega (arith, c.requires.0)

pub returns : goal.returns
unfolding length_of kind_at kinds
returns c =
    let known = c in
    let a = known in
    let u : a.args.unit.0 ≤ 4294967295 = omega arith in
    let k : a.args.n.0 ≤ 4294967295 = omega arith in
    search (begin-whole! a.args.m.now a.args.n.0 a.args.unit.0 u k (bytes (goal.at.returns c).After-shared_slice_known-1) (room (goal.at.returns c).Start), sym (pick-false {A = ℕ} _ 1 0 a.requires.1))
