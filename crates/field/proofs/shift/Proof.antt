-- `field::shift` meets its contract. The invariant: the first i bytes are written, each read before it was. Assumes nothing.
use Prim.Native.Nat.{◌≤◌, ◌-◌}
use mathlib.Core.Path.{◌≡◌, refl}
use native.Mathlib.Omega.{arith}
use lib.ListN.{length}
use lib.Seq.{paste}
use Rattle.field.specs.Bytes.{part}
use Rattle.field.proofs.Part.{copy-none!, shift-more!, shift-all!, length-set-of! }
use Rattle.field.proofs.shift.Statement.{statement}
use Rattle.field.proofs.shift.Tie as tie

abbrev invariant-loop : tie.invariant-loop-i
invariant-loop s₀ at from n i₀ s i = (i ≤ n) × (length s ≡ length s₀) × (s ≡ paste s₀ at (part from n s₀) i)

abbrev decreases-loop : tie.decreases-loop-i
decreases-loop s₀ at from n i₀ s i = n - i

loop-holds : tie.Need-loop-i-init invariant-loop decreases-loop
loop-holds c = (omega arith, refl, search copy-none!)

add-s : tie.Need-overflow_add-s invariant-loop decreases-loop
add-s c = omega arith

slice-read-s : tie.Need-bounds-s-from invariant-loop decreases-loop
slice-read-s c = omega arith

add-s-2 : tie.Need-overflow_add-s-in-loop-i invariant-loop decreases-loop
add-s-2 c = omega arith

slice-write-s : tie.Need-bounds-s-at invariant-loop decreases-loop
slice-write-s c = omega arith

add-i : tie.Need-overflow_add-i invariant-loop decreases-loop
add-i c = omega arith

loop-less : tie.Need-loop-i-smaller invariant-loop decreases-loop
loop-less c = omega arith

loop-again : tie.Need-loop-i-preserved invariant-loop decreases-loop
loop-again c = (omega arith, search length-set-of!, search shift-more!)

same_length : tie.Need-shape_of-s invariant-loop decreases-loop
same_length c = search

returns : tie.Need-returns invariant-loop decreases-loop
returns c = search shift-all!

pub shift_spec : {M : Type 1} → statement M
shift_spec =
    tie.close
    (tie.spec
    invariant-loop
    decreases-loop
    loop-holds
    add-s
    slice-read-s
    add-s-2
    slice-write-s
    add-i
    loop-less
    loop-again
    same_length
    returns)
