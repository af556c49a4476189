-- `unit::again::step_again` meets its contract: by the kind of the step. Assumes nothing.
use Rattle.unit.proofs.Redone.{out_reads, in-reads, point-reads, step-out!, step-in!, step-point!, step-close! }
use borrow.Author.Rules.{rules}
use Rattle.unit.proofs.again.step_again.Goals as goal

pub out_again-requires : goal.out_again-requires
out_again-requires c = (search rules, search rules, search out_reads)

pub in_again-requires : goal.in_again-requires
in_again-requires c = (search rules, search rules, search in-reads)

pub point_again-requires : goal.point_again-requires
point_again-requires c = (search rules, search rules, search point-reads)

pub returns-in-Out : goal.returns-in-Out
returns-in-Out c = search step-out!

pub returns-in-In : goal.returns-in-In
returns-in-In c = search step-in!

pub returns-in-Point : goal.returns-in-Point
returns-in-Point c = search step-point!

pub returns-in-Close : goal.returns-in-Close
returns-in-Close c = search step-close!
