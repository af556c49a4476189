-- `field::zeros` meets its contract. The invariant: all bytes are zero where the gathered one is, and all that are left. Assumes nothing.
use Prim.Native.Nat.{◌≤◌, ◌-◌}
use mathlib.Core.Path.{◌≡◌}
use native.Mathlib.Omega.{arith}
use lib.ListN.{length, drop}
use lib.Dec.{eqb}
use Rattle.field.specs.Test.{both}
use Rattle.field.specs.Bytes.{all_zero}
use Rattle.field.proofs.Zero.{seen-none!, seen-more!, seen-all! }
use Rattle.field.proofs.zeros.Statement.{statement}
use Rattle.field.proofs.zeros.Tie as tie

abbrev invariant-loop : tie.invariant-loop-i
invariant-loop s seen₀ i₀ seen i = (i ≤ length s) × (all_zero s ≡ both (eqb seen 0) (all_zero (drop i s)))

abbrev decreases-loop : tie.decreases-loop-i
decreases-loop s seen₀ i₀ seen i = length s - i

loop-holds : tie.Need-loop-i-init invariant-loop decreases-loop
loop-holds c = (omega arith, search seen-none!)

shared-slice-read-seen : tie.Need-bounds-s-i invariant-loop decreases-loop
shared-slice-read-seen c = omega arith

add-i : tie.Need-overflow_add-i invariant-loop decreases-loop
add-i c = omega arith

loop-less : tie.Need-loop-i-smaller invariant-loop decreases-loop
loop-less c = omega arith

loop-again : tie.Need-loop-i-preserved invariant-loop decreases-loop
loop-again c = (omega arith, search seen-more!)

returns : tie.Need-returns invariant-loop decreases-loop
returns c = search seen-all!

pub zeros_spec : {M : Type 1} → statement M
zeros_spec =
    tie.close
    (tie.spec invariant-loop decreases-loop loop-holds shared-slice-read-seen add-i loop-less loop-again returns)
