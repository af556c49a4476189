-- `logs::steps::move_step` meets its contract. Assumes nothing.
use Rattle.logs.specs.Steps.{step_of}
use Rattle.logs.specs.Plan.{move_plan}
use Rattle.logs.proofs.Placed.{move-close! }
use Rattle.logs.proofs.steps.move_step.Statement.{statement}
use Rattle.logs.proofs.steps.move_step.Tie as tie

returns : tie.Need-returns-then-i-eq0
unfolding step_of move_plan
returns c = rw c.if-i-eq0.true

returns-2 : tie.Need-returns-then-i-eq1
unfolding step_of move_plan
returns-2 c = rw c.if-i-eq1.true

returns-3 : tie.Need-returns-then-i-eq2
unfolding step_of move_plan
returns-3 c = rw c.if-i-eq2.true

returns-4 : tie.Need-returns
unfolding step_of
returns-4 c = search move-close!

pub move_step_spec : {M : Type 1} → statement M
move_step_spec = tie.close (tie.spec returns returns-2 returns-3 returns-4)
