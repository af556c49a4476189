-- `tree::well::counts_right` meets its contract. Assumes nothing.
use Prim.Native.Nat.{◌≤◌, ◌-◌}
use mathlib.Core.Path.{◌≡◌, refl}
use lib.ListN.{drop}
use borrow.Author.Rules.{rules}
use Rattle.page.specs.Pages.{pages}
use Rattle.tree.specs.Walk.{rightly}
use Rattle.tree.proofs.Tally.{right-stop!, right-more!, right-end! }
use native.Mathlib.Omega.{arith}
use Rattle.tree.proofs.well.counts_right.Statement.{statement}
use Rattle.tree.proofs.well.counts_right.Tie as tie

abbrev invariant-loop : tie.invariant-loop-p
invariant-loop w counts p₀ p = (p ≤ 64) × (rightly counts 1 (drop 1 (pages w)) ≡ rightly counts p (drop p (pages w)))

abbrev decreases-loop : tie.decreases-loop-p
decreases-loop w counts p₀ p = 64 - p

loop-holds : tie.Need-loop-p-init invariant-loop decreases-loop
loop-holds c = (omega arith, refl)

mul_right : tie.Need-overflow_mul-p invariant-loop decreases-loop
mul_right c = omega arith

add_right : tie.Need-overflow_add-p invariant-loop decreases-loop
add_right c = omega arith

shared-slice-read-right : tie.Need-bounds-w-p invariant-loop decreases-loop
shared-slice-read-right c = omega arith

mul-right-2 : tie.Need-offset_bounds-counts-p invariant-loop decreases-loop
mul-right-2 c = omega arith

array-read-right : tie.Need-bounds-counts-p invariant-loop decreases-loop
array-read-right c = omega arith

right-requires : tie.Need-right-requires invariant-loop decreases-loop
right-requires c κs = search rules

returns : tie.Need-returns-then-not-right invariant-loop decreases-loop
returns c = search right-stop!

add-p : tie.Need-overflow_add-p-in-loop-p invariant-loop decreases-loop
add-p c = omega arith

loop-less : tie.Need-loop-p-smaller invariant-loop decreases-loop
loop-less c = omega arith

loop-again : tie.Need-loop-p-preserved invariant-loop decreases-loop
loop-again c = (omega arith, search right-more!)

returns-2 : tie.Need-returns invariant-loop decreases-loop
returns-2 c = search right-end!

pub counts_right_spec : {M : Type 1} → statement M
counts_right_spec =
    tie.close
    (tie.spec
    invariant-loop
    decreases-loop
    loop-holds
    mul_right
    add_right
    shared-slice-read-right
    mul-right-2
    array-read-right
    right-requires
    returns
    add-p
    loop-less
    loop-again
    returns-2)
