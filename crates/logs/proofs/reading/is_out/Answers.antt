-- `logs::reading::is_out` meets its contract: each test that fails ends it. Assumes nothing.
use Prim.Native.Nat.{◌+◌, ◌*◌, ◌≤◌}
use native.Mathlib.Omega.{arith}
use lib.ListN.{length}
use Rattle.logs.specs.Record.{length_of}
use Rattle.logs.specs.Table.{kinds, kind_at}
use Rattle.logs.proofs.Rowed.{out-short!, out-few!, out-many!, out-long!, out-rows!, out-whole! }
use Rattle.logs.proofs.reading.is_out.Goals as goal

pub returns-then-m-fixed : goal.returns-then-m-fixed
returns-then-m-fixed c = search out-short!

pub get2-k-requires : goal.get2-k-requires
unfolding length_of kind_at kinds
get2-k-requires c = omega arith

pub returns-then-k-lt1 : goal.returns-then-k-lt1
returns-then-k-lt1 c = search out-few!

pub returns-then-k-gt15 : goal.returns-then-k-gt15
returns-then-k-gt15 c = search out-many!

pub returns-then-m-size_of : goal.returns-then-m-size_of
returns-then-m-size_of c = search out-long!

pub records_ascend-requires : goal.records_ascend-requires
unfolding length_of kind_at kinds
records_ascend-requires c = omega arith

pub returns-then-not-records_ascend : goal.returns-then-not-records_ascend
returns-then-not-records_ascend c = search out-rows!

pub same_at-requires : goal.same_at-requires
unfolding length_of kind_at kinds
same_at-requires c = omega arith

pub returns : goal.returns
unfolding length_of kind_at kinds
returns c =
    let rows = c in
    let count = rows in
    let fixed = count in
    let a = fixed.args in
    let k : a.n.0 ≤ 4294967295 = omega arith in
    let h : 20 + 16 * count.get2-k.result ≤ length a.m.now = omega arith in
    search (out-whole! a.m.now a.n.0 a.org.0 a.dest.0 count.get2-k.result count.get2-k.ensures fixed.size_of-fixed.result fixed.size_of-fixed.ensures
    rows.records_ascend.result rows.records_ascend.ensures k h)
