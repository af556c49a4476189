-- `logs::steps::swap_step` meets its contract. Assumes nothing.
use Rattle.logs.specs.Steps.{step_of}
use Rattle.logs.specs.Plan.{swap_plan}
use Rattle.logs.proofs.Placed.{swap-close! }
use Rattle.logs.proofs.steps.swap_step.Statement.{statement}
use Rattle.logs.proofs.steps.swap_step.Tie as tie

returns : tie.Need-returns-then-i-eq0
unfolding step_of swap_plan
returns c = rw c.if-i-eq0.true

returns-2 : tie.Need-returns-then-i-eq1
unfolding step_of swap_plan
returns-2 c = rw c.if-i-eq1.true

returns-3 : tie.Need-returns-then-i-eq2
unfolding step_of swap_plan
returns-3 c = rw c.if-i-eq2.true

returns-4 : tie.Need-returns-then-i-eq3
unfolding step_of swap_plan
returns-4 c = rw c.if-i-eq3.true

returns-5 : tie.Need-returns-then-i-eq4
unfolding step_of swap_plan
returns-5 c = rw c.if-i-eq4.true

returns-6 : tie.Need-returns-then-i-eq5
unfolding step_of swap_plan
returns-6 c = rw c.before.before.if-i-eq5.true

returns-7 : tie.Need-returns
unfolding step_of
returns-7 c = search swap-close!

pub swap_step_spec : {M : Type 1} → statement M
swap_step_spec =
    tie.close (tie.spec returns returns-2 returns-3 returns-4 returns-5 returns-6 returns-7)
