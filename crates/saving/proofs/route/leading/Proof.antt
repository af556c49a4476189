-- `saving::route::leading` meets its contract. Assumes nothing.
use Prim.Native.Nat.{◌≤◌, ◌+◌, ◌-◌, ◌*◌}
use mathlib.Core.Path.{◌≡◌}
use lib.ListN.{length, drop}
use native.Mathlib.Omega.{arith}
use Rattle.page.specs.Page.{rows_of}
use Rattle.page.proofs.Turns.{room_next}
use Rattle.saving.specs.Route.{leading}
use Rattle.saving.proofs.Found.{leading-end!, leading-here!, leading-on! }
use Rattle.saving.proofs.route.leading.Statement.{statement}
use Rattle.saving.proofs.route.leading.Tie as tie

abbrev invariant-loop : tie.invariant-loop-left
invariant-loop pg sz start n bound at₀ left₀ at left =
    (left ≤ n) × (at + sz * left ≤ length pg) × (leading bound (rows_of sz n (drop start pg)) ≡ n - left + leading bound (rows_of sz left (drop at pg)))

abbrev decreases-loop : tie.decreases-loop-left
decreases-loop pg sz start n bound at₀ left₀ at left = left

-- the row in front is in the page
room : (c : tie.In-loop-left invariant-loop decreases-loop) → c.before.loop-left.at + c.before.before.before.args.sz + c.before.before.before.args.sz * (c.before.loop-left.left - 1) ≤ length c.before.before.before.args.pg.now
room c = let l = c.before.loop-left in room_next c.before.before.before.args.sz l.left l.at _ c.loop-left-test.true l.invariant.1

loop-holds : tie.Need-loop-left-init invariant-loop decreases-loop
loop-holds c = (omega arith, omega arith, omega arith)

add-get4 : tie.Need-overflow_add-at invariant-loop decreases-loop
add-get4 c = omega (arith, room c)

get4-requires : tie.Need-get4-key-requires invariant-loop decreases-loop
get4-requires c κs = omega (arith, room c)

cast-key : tie.Need-overflow_cast-key invariant-loop decreases-loop
cast-key c = omega arith

sub-result : tie.Need-overflow_sub-result invariant-loop decreases-loop
sub-result c = omega arith

returns : tie.Need-returns-then-bound-key invariant-loop decreases-loop
returns c = search leading-here!

add_at : tie.Need-overflow_add-at-in-loop-left invariant-loop decreases-loop
add_at c = omega (arith, room c.before.before)

sub-left : tie.Need-overflow_sub-left invariant-loop decreases-loop
sub-left c = omega arith

loop-less : tie.Need-loop-left-smaller invariant-loop decreases-loop
loop-less c = omega arith

loop-again : tie.Need-loop-left-preserved invariant-loop decreases-loop
loop-again c = (omega arith, omega (arith, room c.before.before), search leading-on!)

returns-2 : tie.Need-returns invariant-loop decreases-loop
returns-2 c = search leading-end!

pub leading_spec : {M : Type 1} → statement M
leading_spec =
    tie.close
    (tie.spec
    invariant-loop
    decreases-loop
    loop-holds
    add-get4
    get4-requires
    cast-key
    sub-result
    returns
    add_at
    sub-left
    loop-less
    loop-again
    returns-2)
