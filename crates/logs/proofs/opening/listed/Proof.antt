-- `logs::opening::listed` meets its contract. The invariant: the page is listed where it is among those that are left. Assumes nothing.
use Prim.Native.Nat.{◌+◌, ◌*◌, ◌≤◌}
use mathlib.Core.Path.{◌≡◌, refl}
use native.Mathlib.Omega.{arith}
use lib.ListN.{length, drop}
use Rattle.logs.specs.Log.{listed, read_fields}
use Rattle.logs.proofs.Fields.{listed-hit!, listed-more!, listed-end! }
use Rattle.logs.proofs.opening.listed.Statement.{statement}
use Rattle.logs.proofs.opening.listed.Tie as tie

abbrev invariant-loop : tie.invariant-loop-left
invariant-loop m p start n at₀ left₀ at left = (left ≤ n) × (at + 2 * left ≤ length m) × (listed p.0 (read_fields n (drop start m)) ≡ listed p.0 (read_fields left (drop at m)))

abbrev decreases-loop : tie.decreases-loop-left
decreases-loop m p start n at₀ left₀ at left = left

loop-holds : tie.Need-loop-left-init invariant-loop decreases-loop
loop-holds c = (omega arith, omega arith, refl)

get2-requires : tie.Need-get2-requires invariant-loop decreases-loop
get2-requires c κs = omega arith

returns : tie.Need-returns-then-p-get2 invariant-loop decreases-loop
returns c = search listed-hit!

add_at : tie.Need-overflow_add-at invariant-loop decreases-loop
add_at c = omega arith

sub-left : tie.Need-overflow_sub-left invariant-loop decreases-loop
sub-left c = omega arith

loop-less : tie.Need-loop-left-smaller invariant-loop decreases-loop
loop-less c = omega arith

loop-again : tie.Need-loop-left-preserved invariant-loop decreases-loop
loop-again c = (omega arith, omega arith, search listed-more!)

returns-2 : tie.Need-returns invariant-loop decreases-loop
returns-2 c = search listed-end!

pub listed_spec : {M : Type 1} → statement M
listed_spec =
    tie.close
    (tie.spec
    invariant-loop
    decreases-loop
    loop-holds
    get2-requires
    returns
    add_at
    sub-left
    loop-less
    loop-again
    returns-2)
