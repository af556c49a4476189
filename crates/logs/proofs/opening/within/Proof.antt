-- `logs::opening::within` meets its contract. The invariant: all pages lie there where those that are left do. Assumes nothing.
use Prim.Native.Nat.{◌+◌, ◌*◌, ◌≤◌}
use mathlib.Core.Path.{◌≡◌, refl}
use native.Mathlib.Omega.{arith}
use lib.ListN.{length, drop}
use Rattle.logs.specs.Log.{within, read_fields}
use Rattle.logs.proofs.Fields.{within-low!, within-high!, within-more!, within-end! }
use Rattle.logs.proofs.opening.within.Statement.{statement}
use Rattle.logs.proofs.opening.within.Tie as tie

abbrev invariant-loop : tie.invariant-loop-left
invariant-loop m from to start n at₀ left₀ at left =
    (left ≤ n) × (at + 2 * left ≤ length m)
    × (within from.0 to.0 (read_fields n (drop start m)) ≡ within from.0 to.0 (read_fields left (drop at m)))

abbrev decreases-loop : tie.decreases-loop-left
decreases-loop m from to start n at₀ left₀ at left = left

loop-holds : tie.Need-loop-left-init invariant-loop decreases-loop
loop-holds c = (omega arith, omega arith, refl)

get2-requires : tie.Need-get2-p-requires invariant-loop decreases-loop
get2-requires c κs = omega arith

returns : tie.Need-returns-then-p-from invariant-loop decreases-loop
returns c = search within-low!

returns-2 : tie.Need-returns-then-to-p invariant-loop decreases-loop
returns-2 c = search within-high!

add_at : tie.Need-overflow_add-at invariant-loop decreases-loop
add_at c = omega arith

sub-left : tie.Need-overflow_sub-left invariant-loop decreases-loop
sub-left c = omega arith

loop-less : tie.Need-loop-left-smaller invariant-loop decreases-loop
loop-less c = omega arith

loop-again : tie.Need-loop-left-preserved invariant-loop decreases-loop
loop-again c = (omega arith, omega arith, search within-more!)

returns-3 : tie.Need-returns invariant-loop decreases-loop
returns-3 c = search within-end!

pub within_spec : {M : Type 1} → statement M
within_spec =
    tie.close
    (tie.spec
    invariant-loop
    decreases-loop
    loop-holds
    get2-requires
    returns
    returns-2
    add_at
    sub-left
    loop-less
    loop-again
    returns-3)
