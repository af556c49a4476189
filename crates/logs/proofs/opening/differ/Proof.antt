-- `logs::opening::differ` meets its contract. The invariant: all pages differ where those that are left do. Assumes nothing.
use Prim.Native.Nat.{◌+◌, ◌*◌, ◌≤◌}
use mathlib.Core.Path.{◌≡◌, refl}
use native.Mathlib.Omega.{arith}
use lib.ListN.{length, drop}
use Rattle.logs.specs.Log.{differ, read_fields}
use Rattle.logs.proofs.Fields.{differ-hit!, differ-more!, differ-end! }
use Rattle.logs.proofs.opening.differ.Statement.{statement}
use Rattle.logs.proofs.opening.differ.Tie as tie

abbrev invariant-loop : tie.invariant-loop-left
invariant-loop m start n at₀ left₀ at left = (left ≤ n) × (at + 2 * left ≤ length m) × (differ (read_fields n (drop start m)) ≡ differ (read_fields left (drop at m)))

abbrev decreases-loop : tie.decreases-loop-left
decreases-loop m start n at₀ left₀ at left = left

loop-holds : tie.Need-loop-left-init invariant-loop decreases-loop
loop-holds c = (omega arith, omega arith, refl)

get2-requires : tie.Need-get2-requires invariant-loop decreases-loop
get2-requires c κs = omega arith

add-listed : tie.Need-overflow_add-at invariant-loop decreases-loop
add-listed c = omega arith

sub-listed : tie.Need-overflow_sub-left invariant-loop decreases-loop
sub-listed c = omega arith

listed-requires : tie.Need-listed-requires invariant-loop decreases-loop
listed-requires c κs = omega arith

returns : tie.Need-returns-then-listed invariant-loop decreases-loop
returns c = search differ-hit!

add_at : tie.Need-overflow_add-at-in-loop-left invariant-loop decreases-loop
add_at c = omega arith

sub-left : tie.Need-overflow_sub-left-in-loop-left invariant-loop decreases-loop
sub-left c = omega arith

loop-less : tie.Need-loop-left-smaller invariant-loop decreases-loop
loop-less c = omega arith

loop-again : tie.Need-loop-left-preserved invariant-loop decreases-loop
loop-again c = (omega arith, omega arith, search differ-more!)

returns-2 : tie.Need-returns invariant-loop decreases-loop
returns-2 c = search differ-end!

pub differ_spec : {M : Type 1} → statement M
differ_spec =
    tie.close
    (tie.spec
    invariant-loop
    decreases-loop
    loop-holds
    get2-requires
    add-listed
    sub-listed
    listed-requires
    returns
    add_at
    sub-left
    loop-less
    loop-again
    returns-2)
