-- `logs::past::known_after` meets its contract. Assumes nothing.
use Rattle.field.specs.Test.{pick}
use Rattle.logs.proofs.past.known_after.Statement.{statement}
use Rattle.logs.proofs.past.known_after.Tie as tie

returns : tie.Need-returns-then-compact
unfolding pick
returns c = rw c.if-compact.true

returns-2 : tie.Need-returns
unfolding pick
returns-2 c = rw c.if-compact.false

pub known_after_spec : {M : Type 1} → statement M
known_after_spec = tie.close (tie.spec returns returns-2)
