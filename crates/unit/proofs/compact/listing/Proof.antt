-- `unit::compact::listing` meets its contract. Assumes nothing.
use Prim.Native.Nat.{◌≤◌, ◌-◌}
use mathlib.Core.Path.{◌≡◌, refl}
use lib.ListN.{drop}
use mathlib.Core.List.{◌++◌}
use Rattle.field.specs.Bytes.{zeroes}
use Rattle.page.specs.Page.{rows_of}
use Rattle.unit.specs.Chosen.{to_pages}
use Rattle.unit.proofs.Groups.{list-more!, list-end! }
use native.Mathlib.Omega.{arith}
use Rattle.unit.proofs.compact.listing.Statement.{statement}
use Rattle.unit.proofs.compact.listing.Tie as tie

abbrev invariant-loop : tie.invariant-loop-i
invariant-loop pg start k list₀ i₀ list i =
    (i ≤ k) × (list ≡ to_pages (rows_of 8 i (drop start pg)) ++ zeroes (8 - i))

abbrev decreases-loop : tie.decreases-loop-i
decreases-loop pg start k list₀ i₀ list i = k - i

loop-holds : tie.Need-loop-i-init invariant-loop decreases-loop
unfolding to_pages rows_of zeroes
loop-holds c = (omega arith, refl)

mul-get2 : tie.Need-overflow_mul-i invariant-loop decreases-loop
mul-get2 c = omega arith

add-get2 : tie.Need-overflow_add-start invariant-loop decreases-loop
add-get2 c = omega arith

add-get2-2 : tie.Need-overflow_add-start-in-loop-i invariant-loop decreases-loop
add-get2-2 c = omega arith

get2-requires : tie.Need-get2-requires invariant-loop decreases-loop
get2-requires c κs = omega arith

mul-list : tie.Need-offset_bounds-list-i invariant-loop decreases-loop
mul-list c = omega arith

array-write-list : tie.Need-bounds-list-i invariant-loop decreases-loop
array-write-list c = omega arith

add-i : tie.Need-overflow_add-i invariant-loop decreases-loop
add-i c = omega arith

loop-less : tie.Need-loop-i-smaller invariant-loop decreases-loop
loop-less c = omega arith

loop-again : tie.Need-loop-i-preserved invariant-loop decreases-loop
loop-again c = (omega arith, search list-more!)

returns : tie.Need-returns invariant-loop decreases-loop
returns c = search list-end!

pub listing_spec : {M : Type 1} → statement M
listing_spec =
    tie.close
    (tie.spec
    invariant-loop
    decreases-loop
    loop-holds
    mul-get2
    add-get2
    add-get2-2
    get2-requires
    mul-list
    array-write-list
    add-i
    loop-less
    loop-again
    returns)
