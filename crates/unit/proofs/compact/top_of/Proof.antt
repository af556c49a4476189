-- `unit::compact::top_of` meets its contract. Assumes nothing.
use Prim.Native.Nat.{◌≤◌, ◌+◌, ◌*◌}
use mathlib.Core.Path.{◌≡◌, refl}
use lib.ListN.{length, drop}
use Rattle.page.specs.Page.{rows_of}
use Rattle.unit.specs.Chosen.{top_of}
use Rattle.unit.proofs.Groups.{top-end!, top-more! }
use borrow.Author.Rules.{rules}
use native.Mathlib.Omega.{arith}
use Rattle.unit.proofs.compact.top_of.Statement.{statement}
use Rattle.unit.proofs.compact.top_of.Tie as tie

abbrev invariant-loop : tie.invariant-loop-left
invariant-loop pg n from at₀ left₀ low at left =
    (left ≤ n) × (at + 8 * left ≤ length pg) × (top_of from.0 (rows_of 8 n (drop 16 pg)) ≡ top_of low.0 (rows_of 8 left (drop at pg)))

abbrev decreases-loop : tie.decreases-loop-left
decreases-loop pg n from at₀ left₀ low at left = left

loop-holds : tie.Need-loop-left-init invariant-loop decreases-loop
loop-holds c = (omega arith, omega arith, refl)

add-get2 : tie.Need-overflow_add-at invariant-loop decreases-loop
add-get2 c = omega arith

get2-requires : tie.Need-get2-requires invariant-loop decreases-loop
get2-requires c κs = omega arith

larger-requires : tie.Need-larger-low-requires invariant-loop decreases-loop
larger-requires c κs = search rules

add_at : tie.Need-overflow_add-at-in-loop-left invariant-loop decreases-loop
add_at c = omega arith

sub-left : tie.Need-overflow_sub-left invariant-loop decreases-loop
sub-left c = omega arith

loop-less : tie.Need-loop-left-smaller invariant-loop decreases-loop
loop-less c = omega arith

loop-again : tie.Need-loop-left-preserved invariant-loop decreases-loop
loop-again c = (omega arith, omega arith, search top-more!)

returns : tie.Need-returns invariant-loop decreases-loop
returns c = search top-end!

pub top_of_spec : {M : Type 1} → statement M
top_of_spec =
    tie.close
    (tie.spec
    invariant-loop
    decreases-loop
    loop-holds
    add-get2
    get2-requires
    larger-requires
    add_at
    sub-left
    loop-less
    loop-again
    returns)
