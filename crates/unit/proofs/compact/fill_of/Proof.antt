-- `unit::compact::fill_of` meets its contract. Assumes nothing.
use native.Mathlib.Omega.{arith}
use borrow.Author.Tests.{eq-eqb, ne_eqb}
use Rattle.field.specs.Test.{pick}
use Rattle.unit.specs.Choice.{fill_of}
use Rattle.unit.proofs.compact.fill_of.Statement.{statement}
use Rattle.unit.proofs.compact.fill_of.Tie as tie

returns : tie.Need-returns-then-fill-eq0
unfolding fill_of pick
returns c = (rw (eq-eqb _ _ c.if-fill-eq0.true), omega arith)

cast-result : tie.Need-overflow_cast-result
cast-result c = omega arith

returns-2 : tie.Need-returns
unfolding fill_of pick
returns-2 c = (rw (ne_eqb _ _ c.if-fill-eq0.false), omega arith)

pub fill_of_spec : {M : Type 1} → statement M
fill_of_spec = tie.close (tie.spec returns cast-result returns-2)
