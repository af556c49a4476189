-- `logs::opening::byte_at` meets its contract. Assumes nothing.
use native.Mathlib.Omega.{arith}
use mathlib.Core.Path.{refl}
use borrow.Author.Rules.{rules}
use Rattle.logs.proofs.opening.byte_at.Statement.{statement}
use Rattle.logs.proofs.opening.byte_at.Tie as tie

shared-slice-read-result : tie.Need-bounds-m-i
shared-slice-read-result c = search rules

cast-result : tie.Need-overflow_cast-result
cast-result c = omega (arith, c.shared_slice_known-1.given c.before.args.i)

returns : tie.Need-returns
returns c = (refl, omega (arith, c.shared_slice_known-1.given c.before.args.i))

pub byte_at_spec : {M : Type 1} → statement M
byte_at_spec = tie.close (tie.spec shared-slice-read-result cast-result returns)
