-- `logs::past::begun` meets its contract. Assumes nothing.
use native.Mathlib.Omega.{arith}
use Rattle.logs.specs.Record.{length_of}
use Rattle.logs.specs.Table.{kinds, kind_at}
use Rattle.logs.specs.Scan.{begun}
use Rattle.logs.proofs.past.begun.Goals as goal

pub size_of-requires : goal.size_of-requires
size_of-requires c = omega (arith, c.requires.0)

pub overflow_add-result : goal.overflow_add-result
unfolding length_of kind_at kinds
overflow_add-result c = omega (arith, c.size_of.ensures)

pub returns : goal.returns
unfolding begun length_of kind_at kinds
returns c = rw c.size_of.ensures
