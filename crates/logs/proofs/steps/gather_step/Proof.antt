-- `logs::steps::gather_step` meets its contract. Assumes nothing.
use borrow.Author.Tests.{eq-eqb, ne_eqb}
use Rattle.field.specs.Test.{pick}
use Rattle.logs.specs.Steps.{step_of}
use Rattle.logs.proofs.steps.gather_step.Statement.{statement}
use Rattle.logs.proofs.steps.gather_step.Tie as tie

returns : tie.Need-returns-then-i-eq0
unfolding pick step_of
returns c = rw (eq-eqb _ _ c.if-i-eq0.true)

returns-2 : tie.Need-returns
unfolding pick step_of
returns-2 c = rw (ne_eqb _ _ c.if-i-eq0.false)

pub gather_step_spec : {M : Type 1} → statement M
gather_step_spec = tie.close (tie.spec returns returns-2)
