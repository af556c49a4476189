-- `saving::plan::listed` meets its contract. Assumes nothing.
use mathlib.Core.Path.{refl}
use Rattle.field.specs.Test.{pick}
use Rattle.saving.specs.Draft.{planned}
use Rattle.saving.proofs.plan.listed.Statement.{statement}
use Rattle.saving.proofs.plan.listed.Tie as tie

returns : tie.Need-returns
unfolding planned pick
returns c = λ w r one two three four. record { same = refl; few = c.requires; one = one; two = two; three = three; four = four }

pub listed_spec : {M : Type 1} → statement M
listed_spec = tie.close (tie.spec returns)
