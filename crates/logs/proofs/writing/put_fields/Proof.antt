-- `logs::writing::put_fields` meets its contract. The invariant: the first i fields are written. Assumes nothing.
use Prim.Native.Nat.{◌-◌, ◌≤◌}
use mathlib.Core.Path.{◌≡◌, refl}
use native.Mathlib.Omega.{arith}
use lib.ListN.{length}
use Rattle.field.specs.Bytes.{put}
use Rattle.logs.specs.Record.{fields}
use borrow.Author.Rules.{rules}
use Rattle.logs.proofs.Puts.{fields-none!, fields-turn!, fields-all! }
use borrow.Author.Rules.{rules}
use Rattle.logs.proofs.writing.put_fields.Statement.{statement}
use Rattle.logs.proofs.writing.put_fields.Tie as tie

abbrev invariant-loop : tie.invariant-loop-i
invariant-loop s₀ at ps n i₀ s i = (i ≤ n) × (length s ≡ length s₀) × (s ≡ put at (fields i ps) s₀)

abbrev decreases-loop : tie.decreases-loop-i
decreases-loop s₀ at ps n i₀ s i = n - i

loop-holds : tie.Need-loop-i-init invariant-loop decreases-loop
loop-holds c = (omega arith, refl, search fields-none!)

mul-put2 : tie.Need-overflow_mul-i invariant-loop decreases-loop
mul-put2 c = search rules

add-put2 : tie.Need-overflow_add-at invariant-loop decreases-loop
add-put2 c = search rules

listed-at-requires : tie.Need-listed_at-requires invariant-loop decreases-loop
listed-at-requires c κs = search rules

put2-requires : tie.Need-put2-requires invariant-loop decreases-loop
put2-requires c κs = search rules

add-i : tie.Need-overflow_add-i invariant-loop decreases-loop
add-i c = search rules

loop-less : tie.Need-loop-i-smaller invariant-loop decreases-loop
loop-less c = omega arith

loop-again : tie.Need-loop-i-preserved invariant-loop decreases-loop
loop-again c = (omega arith, search rules, search fields-turn!)

same_length : tie.Need-shape_of-s invariant-loop decreases-loop
same_length c = search rules

returns : tie.Need-returns invariant-loop decreases-loop
returns c = search fields-all!

pub put_fields_spec : {M : Type 1} → statement M
put_fields_spec =
    tie.close
    (tie.spec
    invariant-loop
    decreases-loop
    loop-holds
    mul-put2
    add-put2
    listed-at-requires
    put2-requires
    add-i
    loop-less
    loop-again
    same_length
    returns)
