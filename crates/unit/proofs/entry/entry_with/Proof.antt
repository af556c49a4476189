-- `unit::entry::entry_with` meets its contract. Assumes nothing.
use Rattle.unit.specs.Made.{place_of}
use Rattle.unit.proofs.Entries.{place-end!, place-stop!, place-more! }
use Prim.Native.Nat.{◌≤◌, ◌+◌, ◌-◌, ◌*◌}
use mathlib.Core.Path.{◌≡◌}
use lib.ListN.{length, drop}
use Rattle.page.specs.Page.{rows_of}
use borrow.Author.Rules.{rules}
use native.Mathlib.Omega.{arith}
use Rattle.unit.proofs.entry.entry_with.Statement.{statement}
use Rattle.unit.proofs.entry.entry_with.Tie as tie

abbrev invariant-loop : tie.invariant-loop-left
invariant-loop pg n key p at₀ left₀ at left =
    (left ≤ n) × (at + 8 * left ≤ length pg)
    × (place_of key p.0 (rows_of 8 n (drop 16 pg)) ≡ n - left + place_of key p.0 (rows_of 8 left (drop at pg)))

abbrev decreases-loop : tie.decreases-loop-left
decreases-loop pg n key p at₀ left₀ at left = left

loop-holds : tie.Need-loop-left-init invariant-loop decreases-loop
loop-holds c = (omega arith, omega arith, omega arith)

add-get2 : tie.Need-overflow_add-at invariant-loop decreases-loop
add-get2 c = omega arith

get2-requires : tie.Need-get2-requires invariant-loop decreases-loop
get2-requires c κs = omega arith

add-get4 : tie.Need-overflow_add-at-in-loop-left invariant-loop decreases-loop
add-get4 c = omega arith

get4-requires : tie.Need-get4-requires invariant-loop decreases-loop
get4-requires c κs = omega arith

is-entry-requires : tie.Need-is_entry-requires invariant-loop decreases-loop
is-entry-requires c κs = search rules

sub-result : tie.Need-overflow_sub-result invariant-loop decreases-loop
sub-result c = omega arith

returns : tie.Need-returns-then-is_entry invariant-loop decreases-loop
returns c = (search place-stop!, omega arith)

add_at : tie.Need-overflow_add-at-in-loop-left-2 invariant-loop decreases-loop
add_at c = omega arith

sub-left : tie.Need-overflow_sub-left invariant-loop decreases-loop
sub-left c = omega arith

loop-less : tie.Need-loop-left-smaller invariant-loop decreases-loop
loop-less c = omega arith

loop-again : tie.Need-loop-left-preserved invariant-loop decreases-loop
loop-again c = (omega arith, omega arith, search place-more!)

returns-2 : tie.Need-returns invariant-loop decreases-loop
returns-2 c = (search place-end!, omega arith)

pub entry_with_spec : {M : Type 1} → statement M
entry_with_spec =
    tie.close
    (tie.spec
    invariant-loop
    decreases-loop
    loop-holds
    add-get2
    get2-requires
    add-get4
    get4-requires
    is-entry-requires
    sub-result
    returns
    add_at
    sub-left
    loop-less
    loop-again
    returns-2)
