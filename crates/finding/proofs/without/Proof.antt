-- `finding::without` meets its contract. Assumes nothing.
use mathlib.Core.Path.{refl}
use Rattle.field.specs.Bytes.{zeroes}
use Rattle.finding.proofs.without.Statement.{statement}
use Rattle.finding.proofs.without.Tie as tie

returns : tie.Need-returns
unfolding zeroes
returns c = (refl, refl, refl, refl)

pub without_spec : {M : Type 1} → statement M
without_spec = tie.close (tie.spec returns)
