-- `logs::source::source_rows` meets its contract. Assumes nothing.
use borrow.Author.Tests.{eq-eqb, ne_eqb}
use Rattle.field.specs.Test.{pick}
use Rattle.logs.specs.Source.{source_rows}
use Rattle.logs.proofs.source.source_rows.Statement.{statement}
use Rattle.logs.proofs.source.source_rows.Tie as tie

returns : tie.Need-returns-then-back-eq1
unfolding source_rows pick
returns c = rw (eq-eqb _ _ c.if-back-eq1.true)

returns-2 : tie.Need-returns
unfolding source_rows pick
returns-2 c = rw (ne_eqb _ _ c.if-back-eq1.false)

pub source_rows_spec : {M : Type 1} → statement M
source_rows_spec = tie.close (tie.spec returns returns-2)
