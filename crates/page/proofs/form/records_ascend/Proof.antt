-- `page::form::records_ascend` meets its contract. The invariant: all records ascend where those behind record i do, from its key on. Assumes
-- nothing.
use Prim.Native.Nat.{◌≤◌, ◌+◌, ◌-◌, ◌*◌}
use mathlib.Core.Path.{◌≡◌}
use native.Mathlib.Omega.{arith}
use lib.ListN.{drop}
use Rattle.field.specs.Bytes.{Bytes}
use Rattle.page.specs.Page.{rows_of, ascend}
use Rattle.page.proofs.Neighbours.{behind, record-none!, record-bad!, record-first, record-mark!, record-low, record-more, record-end! }
use Rattle.page.proofs.form.records_ascend.Statement.{statement}
use Rattle.page.proofs.form.records_ascend.Tie as tie

abbrev invariant-loop : tie.invariant-loop-i
invariant-loop s start n last i₀ i = (i ≤ last) × (ascend 114 99 0 (rows_of 16 n (drop start s)) ≡ behind 16 114 99 s (start + 16 * i) (n - 1 - i))

abbrev decreases-loop : tie.decreases-loop-i
decreases-loop s start n last i₀ i = last - i

-- what is lent are bytes
bytes : (c : tie.In-loop-i invariant-loop decreases-loop) → Bytes c.before.before.before.before.before.before.args.s.now
bytes c i = omega (arith, c.before.before.before.before.before.shared_slice_known-1.given i)

returns : tie.Need-returns-then-n-eq0 invariant-loop decreases-loop
returns c = search record-none!

get2-requires : tie.Need-get2-requires invariant-loop decreases-loop
get2-requires c κs = omega arith

returns-2 : tie.Need-returns-then-get2-ne-RC invariant-loop decreases-loop
returns-2 c = search record-bad!

sub-last : tie.Need-overflow_sub-last invariant-loop decreases-loop
sub-last c = omega arith

loop-holds : tie.Need-loop-i-init invariant-loop decreases-loop
loop-holds c =
    let a = c.before.before.before.before in
    let y : Bytes a.args.s.now = λ i. omega (arith, c.before.before.before.shared_slice_known-1.given i) in
    (omega arith, record-first a.args.s.now a.args.start a.args.n c.before.before.if-n-eq0.false _ c.before.get2.ensures y c.if-get2-ne-RC.false)

mul_at : tie.Need-overflow_mul-at invariant-loop decreases-loop
mul_at c = omega arith

add_at : tie.Need-overflow_add-at invariant-loop decreases-loop
add_at c = omega arith

add-get2 : tie.Need-overflow_add-at-in-loop-i invariant-loop decreases-loop
add-get2 c = omega arith

get2-requires-2 : tie.Need-get2-requires-in-loop-i invariant-loop decreases-loop
get2-requires-2 c κs = omega arith

returns-3 : tie.Need-returns-then-get2-ne-RC-2 invariant-loop decreases-loop
returns-3 c = search record-mark!

add-get4 : tie.Need-overflow_add-at-in-loop-i-2 invariant-loop decreases-loop
add-get4 c = omega arith

get4-requires : tie.Need-get4-requires invariant-loop decreases-loop
get4-requires c κs = omega arith

add-get4-2 : tie.Need-overflow_add-at-in-loop-i-3 invariant-loop decreases-loop
add-get4-2 c = omega arith

get4-requires-2 : tie.Need-get4-requires-in-loop-i invariant-loop decreases-loop
get4-requires-2 c κs = omega arith

returns-4 : tie.Need-returns-then-get4 invariant-loop decreases-loop
returns-4 c = search (record-low, bytes c.before.before.before.before.before)

add-i : tie.Need-overflow_add-i invariant-loop decreases-loop
add-i c = omega arith

loop-less : tie.Need-loop-i-smaller invariant-loop decreases-loop
loop-less c = omega arith

loop-again : tie.Need-loop-i-preserved invariant-loop decreases-loop
loop-again c = (omega arith, search (record-more, bytes c.before.before.before.before.before))

returns-5 : tie.Need-returns invariant-loop decreases-loop
returns-5 c = search record-end!

pub records_ascend_spec : {M : Type 1} → statement M
records_ascend_spec =
    tie.close
    (tie.spec
    invariant-loop
    decreases-loop
    returns
    get2-requires
    returns-2
    sub-last
    loop-holds
    mul_at
    add_at
    add-get2
    get2-requires-2
    returns-3
    add-get4
    get4-requires
    add-get4-2
    get4-requires-2
    returns-4
    add-i
    loop-less
    loop-again
    returns-5)
