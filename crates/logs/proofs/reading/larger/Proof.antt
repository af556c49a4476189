-- `logs::reading::larger` meets its contract. Assumes nothing.
use borrow.Author.Tests.{le-leb, lt-leb}
use Rattle.field.specs.Test.{pick}
use Rattle.logs.proofs.reading.larger.Statement.{statement}
use Rattle.logs.proofs.reading.larger.Tie as tie

returns : tie.Need-returns-then-a-b
unfolding pick
returns c = rw (le-leb _ _ c.if-a-b.true)

returns-2 : tie.Need-returns
unfolding pick
returns-2 c = rw (lt-leb _ _ c.if-a-b.false)

pub larger_spec : {M : Type 1} → statement M
larger_spec = tie.close (tie.spec returns returns-2)
