-- `logs::source::source_at` meets its contract. Assumes nothing.
use native.Mathlib.Omega.{arith}
use borrow.Author.Tests.{eq-eqb, ne_eqb}
use Rattle.field.specs.Test.{pick}
use Rattle.logs.specs.Record.{length_of}
use Rattle.logs.specs.Table.{kinds, kind_at}
use Rattle.logs.specs.Source.{source_at}
use Rattle.logs.proofs.source.source_at.Goals as goal

pub returns-then-back-eq1 : goal.returns-then-back-eq1
unfolding source_at pick
returns-then-back-eq1 c = rw (eq-eqb _ _ c.if-back-eq1.true)

pub overflow_add-result : goal.overflow_add-result
unfolding length_of kind_at kinds
overflow_add-result c = omega arith

pub returns : goal.returns
unfolding source_at pick length_of kind_at kinds
returns c = rw (c.size_of.ensures, ne_eqb _ _ c.if-back-eq1.false)
