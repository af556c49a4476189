-- `unit::compact::seven` meets its contract. Assumes nothing.
use borrow.Author.Tests.{le-leb, lt-leb}
use Rattle.field.specs.Test.{pick}
use Rattle.unit.proofs.compact.seven.Statement.{statement}
use Rattle.unit.proofs.compact.seven.Tie as tie

returns : tie.Need-returns-then-n-le7
unfolding pick
returns c = rw (le-leb _ _ c.if-n-le7.true)

returns-2 : tie.Need-returns
unfolding pick
returns-2 c = rw (lt-leb _ _ c.if-n-le7.false)

pub seven_spec : {M : Type 1} → statement M
seven_spec = tie.close (tie.spec returns returns-2)
