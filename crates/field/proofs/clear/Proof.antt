-- `field::clear` meets its contract. The invariant: the first i zeros are written. The measure is what is left of them. Assumes nothing.
use Prim.Native.Nat.{◌≤◌, ◌-◌}
use mathlib.Core.Path.{◌≡◌, refl}
use native.Mathlib.Omega.{arith}
use lib.ListN.{length}
use lib.Seq.{paste}
use Rattle.field.specs.Bytes.{zeroes}
use Rattle.field.proofs.Part.{length-set-of! }
use Rattle.field.proofs.Zero.{clear-none!, clear-more!, clear-all! }
use Rattle.field.proofs.clear.Statement.{statement}
use Rattle.field.proofs.clear.Tie as tie

abbrev invariant-loop : tie.invariant-loop-i
invariant-loop s₀ at n i₀ s i = (i ≤ n) × (length s ≡ length s₀) × (s ≡ paste s₀ at (zeroes n) i)

abbrev decreases-loop : tie.decreases-loop-i
decreases-loop s₀ at n i₀ s i = n - i

loop-holds : tie.Need-loop-i-init invariant-loop decreases-loop
loop-holds c = (omega arith, refl, search clear-none!)

add-s : tie.Need-overflow_add-s invariant-loop decreases-loop
add-s c = omega arith

slice-write-s : tie.Need-bounds-s-at invariant-loop decreases-loop
slice-write-s c = omega arith

add-i : tie.Need-overflow_add-i invariant-loop decreases-loop
add-i c = omega arith

loop-less : tie.Need-loop-i-smaller invariant-loop decreases-loop
loop-less c = omega arith

loop-again : tie.Need-loop-i-preserved invariant-loop decreases-loop
loop-again c = (omega arith, search length-set-of!, search clear-more!)

same_length : tie.Need-shape_of-s invariant-loop decreases-loop
same_length c = search

returns : tie.Need-returns invariant-loop decreases-loop
returns c = search clear-all!

pub clear_spec : {M : Type 1} → statement M
clear_spec =
    tie.close
    (tie.spec
    invariant-loop
    decreases-loop
    loop-holds
    add-s
    slice-write-s
    add-i
    loop-less
    loop-again
    same_length
    returns)
