-- `logs::opening::unused` meets its contract. The invariant: all fields are zero where those that are left are. Assumes nothing.
use Prim.Native.Nat.{◌≤◌, ◌+◌, ◌-◌, ◌*◌}
use mathlib.Core.Path.{◌≡◌}
use native.Mathlib.Omega.{arith}
use Rattle.field.specs.Bytes.{part, all_zero}
use Rattle.logs.proofs.Begun.{unused-none!, unused-stop!, unused-more!, unused-end! }
use Rattle.logs.proofs.opening.unused.Statement.{statement}
use Rattle.logs.proofs.opening.unused.Tie as tie

abbrev invariant-loop : tie.invariant-loop-i
invariant-loop m start n i₀ i = (i ≤ n) × (all_zero (part start (2 * n) m) ≡ all_zero (part (start + 2 * i) (2 * (n - i)) m))

abbrev decreases-loop : tie.decreases-loop-i
decreases-loop m start n i₀ i = n - i

loop-holds : tie.Need-loop-i-init invariant-loop decreases-loop
loop-holds c = (omega arith, search unused-none!)

mul-get2 : tie.Need-overflow_mul-i invariant-loop decreases-loop
mul-get2 c = omega arith

add-get2 : tie.Need-overflow_add-start invariant-loop decreases-loop
add-get2 c = omega arith

get2-requires : tie.Need-get2-requires invariant-loop decreases-loop
get2-requires c κs = omega arith

returns : tie.Need-returns-then-get2-ne0 invariant-loop decreases-loop
returns c = search unused-stop!

add-i : tie.Need-overflow_add-i invariant-loop decreases-loop
add-i c = omega arith

loop-less : tie.Need-loop-i-smaller invariant-loop decreases-loop
loop-less c = omega arith

loop-again : tie.Need-loop-i-preserved invariant-loop decreases-loop
loop-again c = (omega arith, search unused-more!)

returns-2 : tie.Need-returns invariant-loop decreases-loop
returns-2 c = search unused-end!

pub unused_spec : {M : Type 1} → statement M
unused_spec =
    tie.close
    (tie.spec
    invariant-loop
    decreases-loop
    loop-holds
    mul-get2
    add-get2
    get2-requires
    returns
    add-i
    loop-less
    loop-again
    returns-2)
