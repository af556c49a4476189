-- `logs::reading::is_save` meets its contract: each test that fails ends it. Assumes nothing.
use Prim.Native.Nat.{ℕ, ◌≤◌, ◌<◌}
use native.Mathlib.Omega.{arith}
use mathlib.Core.Path.{◌≡◌, sym, ap}
use mathlib.Core.Bool.{true, not}
use lib.ListN.{length}
use Rattle.field.specs.Bytes.{Bytes}
use Rattle.field.proofs.Test.{pick_true}
use Rattle.logs.specs.Record.{length_of}
use Rattle.logs.specs.Log.{saves_at, begin_ok, read_begin}
use Rattle.logs.specs.Table.{kinds, kind_at}
use Rattle.logs.specs.Stand.{Whole}
use Rattle.logs.proofs.Begun.{begin-counts, whole-saves, save-cut!, begin-bad!, begin-spare!, begin-whole! }
use Rattle.logs.proofs.Typed.{save-begin! }
use Rattle.logs.proofs.reading.is_save.Goals as goal
use Rattle.logs.proofs.reading.is_save.Goals.{After-save_ok, After-shared_slice_known-1, Else-m-size_of}

-- there is room for the record, which is a put's or a delete's
long : (c : Else-m-size_of) → 60 ≤ length c.args.m.now
unfolding length_of kind_at kinds
long c = omega (arith, c.if-m-size_of.false, c.size_of.ensures)

saves-so : (c : Else-m-size_of) → saves_at c.args.m.now ≡ true
saves-so c = c.requires (omega (arith, long c))

room : (c : Else-m-size_of) → Whole c.args.m.now
room c = whole-saves c.args.m.now (long c)

bytes : (c : After-shared_slice_known-1) → Bytes c.args.m.now
bytes c i = omega (arith, c.shared_slice_known-1.given i)

-- what was tested is the whole begin record
tested : (c : After-save_ok) → c.save_ok.result ≡ begin_ok (read_begin 0 c.args.m.now)
tested c = save-begin! c.args.m.now (saves-so (goal.at.After-save_ok c).Else-m-size_of) _ c.save_ok.ensures

pub returns-then-m-size_of : goal.returns-then-m-size_of
unfolding length_of kind_at kinds
returns-then-m-size_of c =
    let a = c in
    let h : length a.args.m.now < 60 = omega (arith, c.if-m-size_of.true, c.size_of.ensures) in
    save-cut! a.args.m.now a.args.n.0 a.args.unit.0 a.requires h

pub save_ok-requires : goal.save_ok-requires
save_ok-requires c = (room (goal.at.save_ok-requires c).Else-m-size_of, saves-so (goal.at.save_ok-requires c).Else-m-size_of)

pub returns-then-not-save_ok : goal.returns-then-not-save_ok
returns-then-not-save_ok c =
    let a = c in
    let u : a.args.unit.0 ≤ 4294967295 = omega arith in
    begin-bad! a.args.m.now a.args.n.0 a.args.unit.0 u _ (tested (goal.at.returns-then-not-save_ok c).After-save_ok) (ap not c.if-not-save_ok.true)

pub spare_zero-requires : goal.spare_zero-requires
spare_zero-requires c =
    let k = begin-counts _ _ (tested (goal.at.spare_zero-requires c).After-save_ok) (ap not c.if-not-save_ok.false) in
    ((room (goal.at.spare_zero-requires c).Else-m-size_of).fields, k.0, k.1)

pub returns-then-not-spare_zero : goal.returns-then-not-spare_zero
returns-then-not-spare_zero c =
    let s = c in
    let known = s in
    let a = known in
    let u : a.args.unit.0 ≤ 4294967295 = omega arith in
    let k : a.args.n.0 ≤ 4294967295 = omega arith in
    begin-spare! a.args.m.now a.args.n.0 a.args.unit.0 u k (bytes (goal.at.returns-then-not-spare_zero c).After-shared_slice_known-1) (room (goal.at.returns-then-not-spare_zero c).Else-m-size_of) _ (tested (goal.at.returns-then-not-spare_zero c).After-save_ok) (ap not s.if-not-save_ok.false) _
    c.spare_zero.ensures (ap not c.if-not-spare_zero.true)

pub same_at-requires : goal.same_at-requires
unfolding length_of kind_at kinds
same_at-requires c = omega (arith, long (goal.at.same_at-requires c).Else-m-size_of)

pub returns : goal.returns
unfolding length_of kind_at kinds
returns c =
    let s = c in
    let known = s in
    let a = known in
    let u : a.args.unit.0 ≤ 4294967295 = omega arith in
    let k : a.args.n.0 ≤ 4294967295 = omega arith in
    search (
      begin-whole! a.args.m.now a.args.n.0 a.args.unit.0 u k (bytes (goal.at.returns c).After-shared_slice_known-1) (room (goal.at.returns c).Else-m-size_of) _ (tested (goal.at.returns c).After-save_ok) (ap not s.if-not-save_ok.false),
      sym (pick_true {A = ℕ} _ 1 0 (saves-so (goal.at.returns c).Else-m-size_of)),
    )
