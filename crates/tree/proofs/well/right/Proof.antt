-- `tree::well::right` meets its contract. Assumes nothing.
use borrow.Author.Tests.{eq-eqb, ne_eqb}
use Rattle.field.specs.Test.{pick}
use Rattle.tree.proofs.well.right.Statement.{statement}
use Rattle.tree.proofs.well.right.Tie as tie

returns : tie.Need-returns-then-letter-eq101
unfolding pick
returns c = rw (eq-eqb _ _ c.if-letter-eq101.true)

returns-2 : tie.Need-returns
unfolding pick
returns-2 c = rw (ne_eqb _ _ c.if-letter-eq101.false)

pub right_spec : {M : Type 1} → statement M
right_spec = tie.close (tie.spec returns returns-2)
