-- `logs::past::first_rows` meets its contract. Assumes nothing.
use borrow.Author.Tests.{eq-eqb, ne_eqb}
use Rattle.field.specs.Test.{pick}
use Rattle.logs.proofs.past.first_rows.Statement.{statement}
use Rattle.logs.proofs.past.first_rows.Tie as tie

returns : tie.Need-returns-then-done-eq0
unfolding pick
returns c = rw (eq-eqb _ _ c.if-done-eq0.true)

returns-2 : tie.Need-returns
unfolding pick
returns-2 c = rw (ne_eqb _ _ c.if-done-eq0.false)

pub first_rows_spec : {M : Type 1} → statement M
first_rows_spec = tie.close (tie.spec returns returns-2)
