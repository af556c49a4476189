-- `logs::steps::skipped` meets its contract. Assumes nothing.
use native.Mathlib.Omega.{arith}
use borrow.Author.Tests.{eq-eqb, ne_eqb}
use Rattle.field.specs.Test.{pick}
use Rattle.logs.proofs.steps.skipped.Statement.{statement}
use Rattle.logs.proofs.steps.skipped.Tie as tie

returns : tie.Need-returns-then-first-dest
unfolding pick
returns c = (rw (eq-eqb _ _ c.if-first-dest.true), omega arith)

returns-2 : tie.Need-returns
unfolding pick
returns-2 c = (rw (ne_eqb _ _ c.if-first-dest.false), omega arith)

pub skipped_spec : {M : Type 1} → statement M
skipped_spec = tie.close (tie.spec returns returns-2)
