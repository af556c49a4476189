-- `logs::past::ended` meets its contract. Assumes nothing.
use native.Mathlib.Omega.{arith}
use Rattle.logs.specs.Record.{length_of}
use Rattle.logs.specs.Table.{kinds, kind_at}
use Rattle.logs.specs.Scan.{ended}
use Rattle.logs.proofs.past.ended.Goals as goal

pub overflow_add-result : goal.overflow_add-result
unfolding length_of kind_at kinds
overflow_add-result c = omega arith

pub returns : goal.returns
unfolding ended length_of kind_at kinds
returns c = rw (c.size_of.ensures, c.known_after.ensures, c.lk_after.ensures)
