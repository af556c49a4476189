-- `unit::entry::lowest_to` meets its contract. Assumes nothing.
use Rattle.field.specs.Test.{when}
use Rattle.unit.specs.Next.{lowest_to}
use Rattle.unit.proofs.Entries.{lowest-end!, lowest-stop!, lowest-more! }
use Prim.Native.Nat.{◌≤◌, ◌+◌, ◌*◌}
use mathlib.Core.Path.{◌≡◌, refl}
use lib.ListN.{length, drop}
use Rattle.page.specs.Page.{rows_of}
use borrow.Author.Rules.{rules}
use native.Mathlib.Omega.{arith}
use Rattle.unit.proofs.entry.lowest_to.Statement.{statement}
use Rattle.unit.proofs.entry.lowest_to.Tie as tie

abbrev invariant-loop : tie.invariant-loop-left
invariant-loop pg n p skip skipped at₀ left₀ at left =
    (left ≤ n) × (at + 8 * left ≤ length pg)
    × (lowest_to (when skip skipped) p.0 (rows_of 8 n (drop 16 pg)) ≡ lowest_to (when skip skipped) p.0 (rows_of 8 left (drop at pg)))

abbrev decreases-loop : tie.decreases-loop-left
decreases-loop pg n p skip skipped at₀ left₀ at left = left

loop-holds : tie.Need-loop-left-init invariant-loop decreases-loop
loop-holds c = (omega arith, omega arith, refl)

add-get4 : tie.Need-overflow_add-at invariant-loop decreases-loop
add-get4 c = omega arith

get4-requires : tie.Need-get4-k-requires invariant-loop decreases-loop
get4-requires c κs = omega arith

add-get2 : tie.Need-overflow_add-at-in-loop-left invariant-loop decreases-loop
add-get2 c = omega arith

get2-requires : tie.Need-get2-requires invariant-loop decreases-loop
get2-requires c κs = omega arith

may-take-requires : tie.Need-may_take-requires invariant-loop decreases-loop
may-take-requires c κs = search rules

returns : tie.Need-returns-then-may_take invariant-loop decreases-loop
returns c = search lowest-stop!

add_at : tie.Need-overflow_add-at-in-loop-left-2 invariant-loop decreases-loop
add_at c = omega arith

sub-left : tie.Need-overflow_sub-left invariant-loop decreases-loop
sub-left c = omega arith

loop-less : tie.Need-loop-left-smaller invariant-loop decreases-loop
loop-less c = omega arith

loop-again : tie.Need-loop-left-preserved invariant-loop decreases-loop
loop-again c = (omega arith, omega arith, search lowest-more!)

returns-2 : tie.Need-returns invariant-loop decreases-loop
returns-2 c = search lowest-end!

pub lowest_to_spec : {M : Type 1} → statement M
lowest_to_spec =
    tie.close
    (tie.spec
    invariant-loop
    decreases-loop
    loop-holds
    add-get4
    get4-requires
    add-get2
    get2-requires
    may-take-requires
    returns
    add_at
    sub-left
    loop-less
    loop-again
    returns-2)
