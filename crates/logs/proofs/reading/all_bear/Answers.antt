-- `logs::reading::all_bear` meets its contract. The invariant: all bear the number where those that are left do. Assumes nothing.
use mathlib.Core.Path.{refl}
use native.Mathlib.Omega.{arith}
use Rattle.logs.specs.Record.{length_of}
use Rattle.logs.specs.Table.{kinds, kind_at}
use Rattle.logs.proofs.Images.{bear-stop!, bear-more!, bear-end! }
use Rattle.logs.proofs.reading.all_bear.Goals as goal

pub loop-left-init : goal.loop-left-init
unfolding length_of
loop-left-init c = (omega arith, omega (arith, c.requires), refl)

pub returns-then-get4-n : goal.returns-then-get4-n
returns-then-get4-n c = search bear-stop!

pub overflow_add-at-in-loop-left-2 : goal.overflow_add-at-in-loop-left-2
unfolding length_of kind_at kinds
overflow_add-at-in-loop-left-2 c = omega (arith, c.size_of-long.ensures)

pub loop-left-preserved : goal.loop-left-preserved
unfolding length_of kind_at kinds
loop-left-preserved c = (omega arith, omega (arith, c.size_of-long.ensures), search (bear-more!, c.size_of-long.ensures))

pub returns : goal.returns
returns c = search bear-end!
