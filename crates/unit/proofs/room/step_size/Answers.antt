-- `unit::room::step_size` meets its contract. Assumes nothing.
use native.Mathlib.Omega.{arith}
use Rattle.unit.proofs.Rooms.{kind-small, inside-out, size-out!, size-in!, size-point!, size-close! }
use borrow.Author.Rules.{rules}
use Rattle.unit.proofs.room.step_size.Goals as goal

pub count_at-requires : goal.count_at-requires
count_at-requires c = (search rules, search inside-out)

pub returns-in-Out : goal.returns-in-Out
returns-in-Out c = (search size-out!, omega arith)

pub returns-in-In : goal.returns-in-In
returns-in-In c = (search size-in!, omega (arith, kind-small 3 _ (omega arith) c.size_of.ensures))

pub returns-in-Point : goal.returns-in-Point
returns-in-Point c = (search size-point!, omega (arith, kind-small 4 _ (omega arith) c.size_of-in-Point.ensures))

pub returns-in-Close : goal.returns-in-Close
returns-in-Close c = (search size-close!, omega (arith, kind-small 5 _ (omega arith) c.size_of-in-Close.ensures))
