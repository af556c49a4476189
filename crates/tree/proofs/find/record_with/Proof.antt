-- `tree::find::record_with` meets its contract. Assumes nothing.
use Prim.Native.Nat.{◌≤◌, ◌+◌, ◌*◌}
use mathlib.Core.Path.{◌≡◌, refl}
use lib.ListN.{length, drop}
use Rattle.page.specs.Page.{rows_of}
use Rattle.tree.specs.Way.{record_in}
use Rattle.tree.proofs.Descent.{here-reply!, here-bytes!, record-more!, none-reply!, none-bytes! }
use native.Mathlib.Omega.{arith}
use Rattle.tree.proofs.find.record_with.Statement.{statement}
use Rattle.tree.proofs.find.record_with.Tie as tie

abbrev invariant-loop : tie.invariant-loop-left
invariant-loop pg n key at₀ left₀ at left =
    (left ≤ n) × (at + 16 * left ≤ length pg) × (record_in key (rows_of 16 n (drop 16 pg)) ≡ record_in key (rows_of 16 left (drop at pg)))

abbrev decreases-loop : tie.decreases-loop-left
decreases-loop pg n key at₀ left₀ at left = left

loop-holds : tie.Need-loop-left-init invariant-loop decreases-loop
loop-holds c = (omega arith, omega arith, refl)

add-get4 : tie.Need-overflow_add-at invariant-loop decreases-loop
add-get4 c = omega arith

get4-requires : tie.Need-get4-requires invariant-loop decreases-loop
get4-requires c κs = omega arith

add-ten : tie.Need-overflow_add-at-then-get4-key invariant-loop decreases-loop
add-ten c = omega arith

ten-requires : tie.Need-ten-value-requires invariant-loop decreases-loop
ten-requires c κs = omega arith

returns : tie.Need-returns-then-get4-key invariant-loop decreases-loop
returns c = (search here-reply!, search here-bytes!)

add_at : tie.Need-overflow_add-at-in-loop-left invariant-loop decreases-loop
add_at c = omega arith

sub-left : tie.Need-overflow_sub-left invariant-loop decreases-loop
sub-left c = omega arith

loop-less : tie.Need-loop-left-smaller invariant-loop decreases-loop
loop-less c = omega arith

loop-again : tie.Need-loop-left-preserved invariant-loop decreases-loop
loop-again c = (omega arith, omega arith, search record-more!)

missing-requires : tie.Need-missing-requires invariant-loop decreases-loop
missing-requires c κs = omega arith

returns-2 : tie.Need-returns invariant-loop decreases-loop
returns-2 c = (search none-reply!, search none-bytes!)

pub record_with_spec : {M : Type 1} → statement M
record_with_spec =
    tie.close
    (tie.spec
    invariant-loop
    decreases-loop
    loop-holds
    add-get4
    get4-requires
    add-ten
    ten-requires
    returns
    add_at
    sub-left
    loop-less
    loop-again
    missing-requires
    returns-2)
