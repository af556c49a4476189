-- `field::block` meets its contract. The invariant: the bytes passed are zero where the gathered number is. Assumes nothing.
use Prim.Native.Nat.{◌≤◌, ◌-◌, ◌*◌}
use mathlib.Core.Path.{◌≡◌}
use native.Mathlib.Omega.{arith}
use lib.Dec.{eqb}
use Rattle.field.specs.Bytes.{part, all_zero}
use Rattle.field.proofs.Gather.{block-none!, block-more!, block-all! }
use Rattle.field.proofs.block.Statement.{statement}
use Rattle.field.proofs.block.Tie as tie

abbrev invariant-loop : tie.invariant-loop-k
invariant-loop s at seen₀ k₀ seen k = (k ≤ 128) × (eqb seen 0 ≡ all_zero (part at (8 * k) s))

abbrev decreases-loop : tie.decreases-loop-k
decreases-loop s at seen₀ k₀ seen k = 128 - k

loop-holds : tie.Need-loop-k-init invariant-loop decreases-loop
loop-holds c = (omega arith, search block-none!)

mul-word : tie.Need-overflow_mul-k invariant-loop decreases-loop
mul-word c = omega arith

add-word : tie.Need-overflow_add-at invariant-loop decreases-loop
add-word c = omega arith

word-requires : tie.Need-word-seen-requires invariant-loop decreases-loop
word-requires c κs = omega arith

add-k : tie.Need-overflow_add-k invariant-loop decreases-loop
add-k c = omega arith

loop-less : tie.Need-loop-k-smaller invariant-loop decreases-loop
loop-less c = omega arith

loop-again : tie.Need-loop-k-preserved invariant-loop decreases-loop
loop-again c = (omega arith, search block-more!)

returns : tie.Need-returns invariant-loop decreases-loop
returns c = search block-all!

pub block_spec : {M : Type 1} → statement M
block_spec =
    tie.close
    (tie.spec invariant-loop decreases-loop loop-holds mul-word add-word word-requires add-k loop-less loop-again returns)
