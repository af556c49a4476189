-- `tree::find::last_not_above` meets its contract. Assumes nothing.
use Prim.Native.Nat.{◌≤◌}
use mathlib.Core.Path.{◌≡◌, refl}
use lib.ListN.{drop}
use Rattle.page.specs.Page.{rows_of}
use Rattle.tree.specs.Way.{last_to}
use Rattle.tree.proofs.Descent.{last-here!, last-more!, last-end! }
use native.Mathlib.Omega.{arith}
use Rattle.tree.proofs.find.last_not_above.Statement.{statement}
use Rattle.tree.proofs.find.last_not_above.Tie as tie

abbrev invariant-loop : tie.invariant-loop-left
invariant-loop pg n key left₀ left = (left ≤ n) × (last_to key (rows_of 8 n (drop 16 pg)) ≡ last_to key (rows_of 8 left (drop 16 pg)))

abbrev decreases-loop : tie.decreases-loop-left
decreases-loop pg n key left₀ left = left

loop-holds : tie.Need-loop-left-init invariant-loop decreases-loop
loop-holds c = (omega arith, refl)

sub-left : tie.Need-overflow_sub-left invariant-loop decreases-loop
sub-left c = omega arith

mul_at : tie.Need-overflow_mul-at invariant-loop decreases-loop
mul_at c = omega arith

add_at : tie.Need-overflow_add-at invariant-loop decreases-loop
add_at c = omega arith

add-get4 : tie.Need-overflow_add-at-in-loop-left invariant-loop decreases-loop
add-get4 c = omega arith

get4-requires : tie.Need-get4-requires invariant-loop decreases-loop
get4-requires c κs = omega arith

add-get2 : tie.Need-overflow_add-at-then-get4-key invariant-loop decreases-loop
add-get2 c = omega arith

get2-requires : tie.Need-get2-requires invariant-loop decreases-loop
get2-requires c κs = omega arith

cast-t11 : tie.Need-overflow_cast-result invariant-loop decreases-loop
cast-t11 c = omega arith

returns : tie.Need-returns-then-get4-key invariant-loop decreases-loop
returns c = search last-here!

loop-less : tie.Need-loop-left-smaller invariant-loop decreases-loop
loop-less c = omega arith

loop-again : tie.Need-loop-left-preserved invariant-loop decreases-loop
loop-again c = (omega arith, search last-more!)

returns-2 : tie.Need-returns invariant-loop decreases-loop
returns-2 c = search last-end!

pub last_not_above_spec : {M : Type 1} → statement M
last_not_above_spec =
    tie.close
    (tie.spec
    invariant-loop
    decreases-loop
    loop-holds
    sub-left
    mul_at
    add_at
    add-get4
    get4-requires
    add-get2
    get2-requires
    cast-t11
    returns
    loop-less
    loop-again
    returns-2)
