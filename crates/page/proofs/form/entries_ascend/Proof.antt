-- `page::form::entries_ascend` meets its contract. The invariant: all tests hold where those of the entries passed did, and those of the
-- entries from entry i on do. Assumes nothing.
use Prim.Native.Nat.{◌≤◌, ◌-◌}
use mathlib.Core.Path.{◌≡◌}
use native.Mathlib.Omega.{arith}
use lib.ListN.{drop}
use Rattle.field.specs.Test.{both}
use Rattle.field.specs.Bytes.{Bytes}
use Rattle.page.specs.Page.{rows_of, ascend, pointing}
use Rattle.page.proofs.Neighbours.{among, entry-none!, entry-bad!, entry_first, entry_more, entry-end}
use Rattle.page.proofs.form.entries_ascend.Statement.{statement}
use Rattle.page.proofs.form.entries_ascend.Tie as tie

abbrev invariant-loop : tie.invariant-loop-i
invariant-loop pg n from to low high last ok₀ i₀ ok i = (i ≤ last) × (both (ascend 101 110 0 (rows_of 8 n (drop 16 pg))) (pointing from to (rows_of 8 n (drop 16 pg))) ≡ both ok (among from to pg (n - 1) i))

abbrev decreases-loop : tie.decreases-loop-i
decreases-loop pg n from to low high last ok₀ i₀ ok i = last - i

returns : tie.Need-returns-then-n-eq0 invariant-loop decreases-loop
returns c = search entry-none!

add_low : tie.Need-overflow_add-low invariant-loop decreases-loop
add_low c = omega arith

add-high : tie.Need-overflow_add-high invariant-loop decreases-loop
add-high c = omega arith

get2-requires : tie.Need-get2-requires invariant-loop decreases-loop
get2-requires c κs = omega arith

returns-2 : tie.Need-returns-then-get2-ne-EN invariant-loop decreases-loop
returns-2 c = search entry-bad!

sub-last : tie.Need-overflow_sub-last invariant-loop decreases-loop
sub-last c = omega arith

loop-holds : tie.Need-loop-i-init invariant-loop decreases-loop
loop-holds c =
    let a = c.before.before.before.before in
    let y : Bytes a.args.pg.now = λ i. omega (arith, c.before.before.before.shared_slice_known-1.given i) in
    (omega arith, entry_first a.args.from a.args.to a.args.pg.now a.args.n c.before.before.if-n-eq0.false _ c.before.get2.ensures y c.if-get2-ne-EN.false)

mul-get4 : tie.Need-overflow_mul-i invariant-loop decreases-loop
mul-get4 c = omega arith

add-get4 : tie.Need-overflow_add-i invariant-loop decreases-loop
add-get4 c = omega arith

get4-requires : tie.Need-get4-x-requires invariant-loop decreases-loop
get4-requires c κs = omega arith

mul-get4-2 : tie.Need-overflow_mul-i-in-loop-i invariant-loop decreases-loop
mul-get4-2 c = omega arith

add-get4-2 : tie.Need-overflow_add-i-in-loop-i invariant-loop decreases-loop
add-get4-2 c = omega arith

get4-requires-2 : tie.Need-get4-requires invariant-loop decreases-loop
get4-requires-2 c κs = omega arith

mul-get4-3 : tie.Need-overflow_mul-i-in-loop-i-2 invariant-loop decreases-loop
mul-get4-3 c = omega arith

add-get4-3 : tie.Need-overflow_add-i-in-loop-i-2 invariant-loop decreases-loop
add-get4-3 c = omega arith

get4-requires-3 : tie.Need-get4-requires-in-loop-i invariant-loop decreases-loop
get4-requires-3 c κs = omega arith

add-i : tie.Need-overflow_add-i-in-loop-i-3 invariant-loop decreases-loop
add-i c = omega arith

loop-less : tie.Need-loop-i-smaller invariant-loop decreases-loop
loop-less c = omega arith

loop-again : tie.Need-loop-i-preserved invariant-loop decreases-loop
loop-again c =
    let turn = c.before.before.before in
    let a = turn.before.before.before.before.before.before in
    let y : Bytes a.args.pg.now = λ i. omega (arith, turn.before.before.before.before.before.shared_slice_known-1.given i) in (
      omega arith,
      entry_more a.args.from a.args.to a.args.pg.now a.args.n _ _ turn.before.loop-i.invariant.1 turn.loop-i-test.true y a.requires.1
          _ _ _ c.before.before.get4-x.ensures c.before.get4.ensures c.get4-in-loop-i.ensures,
    )

mul-get2 : tie.Need-overflow_mul-last invariant-loop decreases-loop
mul-get2 c = omega arith

add-get2 : tie.Need-overflow_add-last invariant-loop decreases-loop
add-get2 c = omega arith

get2-requires-2 : tie.Need-get2-p-requires invariant-loop decreases-loop
get2-requires-2 c κs = omega arith

cast-p : tie.Need-overflow_cast-p invariant-loop decreases-loop
cast-p c = omega arith

returns-3 : tie.Need-returns invariant-loop decreases-loop
returns-3 c =
    let a = c.before.before.before.before.before.before.before in
    entry-end a.args.from a.args.to a.args.pg.now a.args.n _ _ c.before.before.loop-i.invariant.1 c.before.before.loop-i.invariant.0 c.before.loop-i-test.false _ c.get2-p.ensures

pub entries_ascend_spec : {M : Type 1} → statement M
entries_ascend_spec =
    tie.close
    (tie.spec
    invariant-loop
    decreases-loop
    returns
    add_low
    add-high
    get2-requires
    returns-2
    sub-last
    loop-holds
    mul-get4
    add-get4
    get4-requires
    mul-get4-2
    add-get4-2
    get4-requires-2
    mul-get4-3
    add-get4-3
    get4-requires-3
    add-i
    loop-less
    loop-again
    mul-get2
    add-get2
    get2-requires-2
    cast-p
    returns-3)
