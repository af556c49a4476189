-- `unit::order::points_to` meets its contract. Assumes nothing.
use Prim.Native.Nat.{◌≤◌, ◌+◌, ◌*◌}
use mathlib.Core.Path.{◌≡◌, refl}
use lib.ListN.{length, drop}
use Rattle.page.specs.Page.{rows_of}
use Rattle.unit.specs.Chosen.{points_to}
use Rattle.unit.proofs.Strays.{points-end!, points-stop!, points-more! }
use native.Mathlib.Omega.{arith}
use Rattle.unit.proofs.order.points_to.Statement.{statement}
use Rattle.unit.proofs.order.points_to.Tie as tie

abbrev invariant-loop : tie.invariant-loop-left
invariant-loop pg n p at₀ left₀ at left =
    (left ≤ n) × (at + 8 * left ≤ length pg) × (points_to p.0 (rows_of 8 n (drop 16 pg)) ≡ points_to p.0 (rows_of 8 left (drop at pg)))

abbrev decreases-loop : tie.decreases-loop-left
decreases-loop pg n p at₀ left₀ at left = left

loop-holds : tie.Need-loop-left-init invariant-loop decreases-loop
loop-holds c = (omega arith, omega arith, refl)

add-get2 : tie.Need-overflow_add-at invariant-loop decreases-loop
add-get2 c = omega arith

get2-requires : tie.Need-get2-requires invariant-loop decreases-loop
get2-requires c κs = omega arith

returns : tie.Need-returns-then-get2-p invariant-loop decreases-loop
returns c = search points-stop!

add_at : tie.Need-overflow_add-at-in-loop-left invariant-loop decreases-loop
add_at c = omega arith

sub-left : tie.Need-overflow_sub-left invariant-loop decreases-loop
sub-left c = omega arith

loop-less : tie.Need-loop-left-smaller invariant-loop decreases-loop
loop-less c = omega arith

loop-again : tie.Need-loop-left-preserved invariant-loop decreases-loop
loop-again c = (omega arith, omega arith, search points-more!)

returns-2 : tie.Need-returns invariant-loop decreases-loop
returns-2 c = search points-end!

pub points_to_spec : {M : Type 1} → statement M
points_to_spec =
    tie.close
    (tie.spec
    invariant-loop
    decreases-loop
    loop-holds
    add-get2
    get2-requires
    returns
    add_at
    sub-left
    loop-less
    loop-again
    returns-2)
