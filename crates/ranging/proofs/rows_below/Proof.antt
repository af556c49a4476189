-- `ranging::rows_below` meets its contract. The invariant: all rows passed are those passed so far and those still to be passed of the
-- rows left. Assumes nothing.
use Prim.Native.Nat.{◌≤◌, ◌+◌, ◌-◌, ◌*◌}
use mathlib.Core.Path.{◌≡◌}
use native.Mathlib.Omega.{arith}
use lib.ListN.{length, drop}
use Rattle.page.specs.Page.{rows_of, rows}
use Rattle.page.proofs.Turns.{room_next}
use Rattle.ranging.specs.Reading.{rows_below}
use Rattle.ranging.proofs.Passed.{passed_none, passed-end!, passed-stop!, passed-more! }
use Rattle.ranging.proofs.rows_below.Statement.{statement}
use Rattle.ranging.proofs.rows_below.Tie as tie

abbrev invariant-loop : tie.invariant-loop-left
invariant-loop pg sz k passed₀ at₀ left₀ passed at left =
    (passed + left ≤ 65535) × (at + sz * left ≤ length pg) × (rows_below k (rows sz pg) ≡ passed + rows_below k (rows_of sz left (drop at pg)))

abbrev decreases-loop : tie.decreases-loop-left
decreases-loop pg sz k passed₀ at₀ left₀ passed at left = left

-- the row at `at`, and those behind it, are in the page, for every need of the turn
room : (c : tie.In-loop-left invariant-loop decreases-loop)
    → c.before.loop-left.at + c.before.before.before.before.args.sz + c.before.before.before.before.args.sz * (c.before.loop-left.left - 1)
    ≤ length c.before.before.before.before.args.pg.now
room c = room_next _ _ _ _ c.loop-left-test.true c.before.loop-left.invariant.1

count-requires : tie.Need-count-left-requires invariant-loop decreases-loop
count-requires c κs = omega arith

loop-holds : tie.Need-loop-left-init invariant-loop decreases-loop
loop-holds c = (omega arith, rw c.count-left.ensures (omega arith), passed_none _ _ _ _ c.count-left.ensures)

add-get4 : tie.Need-overflow_add-at invariant-loop decreases-loop
add-get4 c = omega (arith, room c)

get4-requires : tie.Need-get4-requires invariant-loop decreases-loop
get4-requires c κs = omega (arith, room c)

cast-if1 : tie.Need-overflow_cast-get4 invariant-loop decreases-loop
cast-if1 c = omega arith

returns : tie.Need-returns-then-k-get4 invariant-loop decreases-loop
returns c = search passed-stop!

add-passed : tie.Need-overflow_add-passed invariant-loop decreases-loop
add-passed c = omega arith

add_at : tie.Need-overflow_add-at-in-loop-left invariant-loop decreases-loop
add_at c = omega (arith, room c.before.before)

sub-left : tie.Need-overflow_sub-left invariant-loop decreases-loop
sub-left c = omega arith

loop-less : tie.Need-loop-left-smaller invariant-loop decreases-loop
loop-less c = omega arith

loop-again : tie.Need-loop-left-preserved invariant-loop decreases-loop
loop-again c =
    let c6 = c.before.before.before.before.before.before in (
      omega arith,
      room c.before.before,
      passed-more! _ _ _ _ _ _ _ c.before.before.before.loop-left.invariant.2 c.before.before.loop-left-test.true
          c6.requires.1 _ c.before.get4.ensures c.if-k-get4.false,
    )

returns-2 : tie.Need-returns invariant-loop decreases-loop
returns-2 c = search passed-end!

pub rows_below_spec : {M : Type 1} → statement M
rows_below_spec =
    tie.close
    (tie.spec
    invariant-loop
    decreases-loop
    count-requires
    loop-holds
    add-get4
    get4-requires
    cast-if1
    returns
    add-passed
    add_at
    sub-left
    loop-less
    loop-again
    returns-2)
