-- `logs::past::imaged` meets its contract. Assumes nothing.
use native.Mathlib.Omega.{arith}
use Rattle.logs.specs.Record.{length_of}
use Rattle.logs.specs.Table.{kinds, kind_at}
use Rattle.logs.proofs.past.imaged.Goals as goal

pub went-requires : goal.went-requires
unfolding length_of kind_at kinds
went-requires c = omega (arith, c.size_of.ensures)

pub returns : goal.returns
unfolding length_of kind_at kinds
returns c = rw (← c.size_of.ensures) c.went.ensures
