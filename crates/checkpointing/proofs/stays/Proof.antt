-- `checkpointing::stays` meets its contract. Assumes nothing.
use Rattle.field.specs.Test.{pick}
use Rattle.checkpointing.proofs.stays.Statement.{statement}
use Rattle.checkpointing.proofs.stays.Tie as tie

returns : tie.Need-returns-then-clear
unfolding pick
returns c = rw c.if-clear.true

returns-2 : tie.Need-returns
unfolding pick
returns-2 c = rw c.if-clear.false

pub stays_spec : {M : Type 1} → statement M
stays_spec = tie.close (tie.spec returns returns-2)
