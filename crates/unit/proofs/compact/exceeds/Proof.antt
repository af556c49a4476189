-- `unit::compact::exceeds` meets its contract. Assumes nothing.
use native.Mathlib.Omega.{arith}
use Rattle.unit.proofs.Groups.{exceeds-any!, exceeds-some! }
use Rattle.unit.proofs.compact.exceeds.Statement.{statement}
use Rattle.unit.proofs.compact.exceeds.Tie as tie

returns : tie.Need-returns-then-not-there
returns c = search exceeds-any!

cast-get4 : tie.Need-overflow_cast-p
cast-get4 c = omega arith

mul-get4 : tie.Need-overflow_mul-p
mul-get4 c = omega arith

add-get4 : tie.Need-overflow_add-p
add-get4 c = omega arith

get4-requires : tie.Need-get4-requires
get4-requires c κs = omega arith

returns-2 : tie.Need-returns
returns-2 c = search exceeds-some!

pub exceeds_spec : {M : Type 1} → statement M
exceeds_spec = tie.close (tie.spec returns cast-get4 mul-get4 add-get4 get4-requires returns-2)
