-- `unit::compact::lowest_empty` meets its contract. Assumes nothing.
use Prim.Native.Nat.{◌≤◌, ◌<◌, ◌-◌}
use mathlib.Core.Path.{◌≡◌}
use lib.ListN.{drop}
use Rattle.page.specs.Pages.{pages}
use Rattle.unit.specs.Choice.{lowest_empty}
use Rattle.unit.proofs.Groups.{low-start!, low-end!, low-stop!, low-more! }
use borrow.Author.Rules.{rules}
use native.Mathlib.Omega.{arith}
use Rattle.unit.proofs.compact.lowest_empty.Statement.{statement}
use Rattle.unit.proofs.compact.lowest_empty.Tie as tie

abbrev invariant-loop : tie.invariant-loop-p
invariant-loop w c above p₀ p =
    (above < p) × (p ≤ 64) × (lowest_empty above c.0 0 (pages w) ≡ lowest_empty above c.0 p (drop p (pages w)))

abbrev decreases-loop : tie.decreases-loop-p
decreases-loop w c above p₀ p = c.0 - p

add-p : tie.Need-overflow_add-p invariant-loop decreases-loop
add-p c = omega arith

loop-holds : tie.Need-loop-p-init invariant-loop decreases-loop
loop-holds c = (omega arith, omega arith, search low-start!)

empty-at-requires : tie.Need-empty_at-requires invariant-loop decreases-loop
empty-at-requires c κs = search rules

returns : tie.Need-returns-then-empty_at invariant-loop decreases-loop
returns c = search low-stop!

add-p-2 : tie.Need-overflow_add-p-in-loop-p invariant-loop decreases-loop
add-p-2 c = omega arith

loop-less : tie.Need-loop-p-smaller invariant-loop decreases-loop
loop-less c = omega arith

loop-again : tie.Need-loop-p-preserved invariant-loop decreases-loop
loop-again c = (omega arith, omega arith, search low-more!)

returns-2 : tie.Need-returns invariant-loop decreases-loop
returns-2 c = search low-end!

pub lowest_empty_spec : {M : Type 1} → statement M
lowest_empty_spec =
    tie.close
    (tie.spec
    invariant-loop
    decreases-loop
    add-p
    loop-holds
    empty-at-requires
    returns
    add-p-2
    loop-less
    loop-again
    returns-2)
