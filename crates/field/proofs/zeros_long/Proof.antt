-- `field::zeros_long` meets its contract. The invariant: all bytes are zero where the gathered number is, and all that are left; and where
-- that number is zero, so is the last block. Assumes nothing.
use Prim.Native.Nat.{◌-◌}
use mathlib.Core.Path.{◌≡◌, sym, ◌∙◌}
use mathlib.Core.Bool.{true}
use native.Mathlib.Omega.{arith}
use lib.ListN.{drop}
use lib.Dec.{eqb}
use Rattle.field.specs.Test.{both}
use Rattle.field.specs.Bytes.{part, all_zero}
use Rattle.field.proofs.Gather.{long-none!, long-more!, long-keeps!, long-all! }
use borrow.Author.Rules.{rules}
use Rattle.field.proofs.zeros_long.Statement.{statement}
use Rattle.field.proofs.zeros_long.Tie as tie

abbrev invariant-loop : tie.invariant-loop-at
invariant-loop s last seen₀ at₀ seen at =
    (all_zero s ≡ both (eqb seen 0) (all_zero (drop at s))) × (eqb seen 0 ≡ true → all_zero (part last 1024 s) ≡ true)

abbrev decreases-loop : tie.decreases-loop-at
decreases-loop s last seen₀ at₀ seen at = last - at

zeros-requires : tie.Need-zeros-requires invariant-loop decreases-loop
zeros-requires c κs = search rules

returns : tie.Need-returns-then-s-lt1024 invariant-loop decreases-loop
returns c = search

sub-last : tie.Need-overflow_sub-last invariant-loop decreases-loop
sub-last c = omega arith

block-requires : tie.Need-block-seen-requires invariant-loop decreases-loop
block-requires c κs = omega arith

loop-holds : tie.Need-loop-at-init invariant-loop decreases-loop
loop-holds c = (search long-none!, λ z. sym c.block-seen.ensures ∙ z)

block-requires-2 : tie.Need-block-seen-requires-in-loop-at invariant-loop decreases-loop
block-requires-2 c κs = omega arith

add_at : tie.Need-overflow_add-at invariant-loop decreases-loop
add_at c = omega arith

loop-less : tie.Need-loop-at-smaller invariant-loop decreases-loop
loop-less c = omega arith

loop-again : tie.Need-loop-at-preserved invariant-loop decreases-loop
loop-again c = (search long-more!, search long-keeps!)

returns-2 : tie.Need-returns invariant-loop decreases-loop
returns-2 c = search long-all!

pub zeros_long_spec : {M : Type 1} → statement M
zeros_long_spec =
    tie.close
    (tie.spec
    invariant-loop
    decreases-loop
    zeros-requires
    returns
    sub-last
    block-requires
    loop-holds
    block-requires-2
    add_at
    loop-less
    loop-again
    returns-2)
