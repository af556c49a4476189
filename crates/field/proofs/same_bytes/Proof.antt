-- `field::same_bytes` meets its contract. The invariant: the two are the same where the bytes passed are and what is left of them is. Assumes nothing.
use Prim.Native.Nat.{◌≤◌, ◌-◌}
use mathlib.Core.Path.{◌≡◌}
use native.Mathlib.Omega.{arith}
use lib.ListN.{length, drop}
use Rattle.field.specs.Test.{both}
use Rattle.field.specs.Bytes.{same}
use Rattle.field.proofs.Same.{same-long!, same-none!, same-more!, same-end! }
use Rattle.field.proofs.same_bytes.Statement.{statement}
use Rattle.field.proofs.same_bytes.Tie as tie

abbrev invariant-loop : tie.invariant-loop-i
invariant-loop a b ok₀ i₀ ok i = (i ≤ length a) × (same a b ≡ both ok (same (drop i a) (drop i b)))

abbrev decreases-loop : tie.decreases-loop-i
decreases-loop a b ok₀ i₀ ok i = length a - i

returns : tie.Need-returns-then-a-b invariant-loop decreases-loop
returns c = search same-long!

loop-holds : tie.Need-loop-i-init invariant-loop decreases-loop
loop-holds c = (omega arith, search same-none!)

shared-slice-read-ok : tie.Need-bounds-a-i invariant-loop decreases-loop
shared-slice-read-ok c = omega arith

shared-slice-read-ok-2 : tie.Need-bounds-b-i invariant-loop decreases-loop
shared-slice-read-ok-2 c = omega arith

add-i : tie.Need-overflow_add-i invariant-loop decreases-loop
add-i c = omega arith

loop-less : tie.Need-loop-i-smaller invariant-loop decreases-loop
loop-less c = omega arith

loop-again : tie.Need-loop-i-preserved invariant-loop decreases-loop
loop-again c = (omega arith, search same-more!)

returns-2 : tie.Need-returns invariant-loop decreases-loop
returns-2 c = search same-end!

pub same_bytes_spec : {M : Type 1} → statement M
same_bytes_spec =
    tie.close
    (tie.spec
    invariant-loop
    decreases-loop
    returns
    loop-holds
    shared-slice-read-ok
    shared-slice-read-ok-2
    add-i
    loop-less
    loop-again
    returns-2)
