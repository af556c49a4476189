-- `logs::writing::number_if` meets its contract. Assumes nothing.
use Rattle.field.specs.Test.{pick}
use Rattle.logs.proofs.writing.number_if.Statement.{statement}
use Rattle.logs.proofs.writing.number_if.Tie as tie

returns : tie.Need-returns-then-there
unfolding pick
returns c = rw c.if-there.true

returns-2 : tie.Need-returns
unfolding pick
returns-2 c = rw c.if-there.false

pub number_if_spec : {M : Type 1} → statement M
number_if_spec = tie.close (tie.spec returns returns-2)
