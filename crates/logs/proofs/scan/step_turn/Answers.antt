-- `logs::scan::step_turn` meets its contract: by the kind of the step. Assumes nothing.
use Rattle.logs.proofs.Ways.{step-out!, step-in!, step-point!, step-close! }
use Rattle.logs.proofs.scan.step_turn.Goals as goal

pub returns-in-Out : goal.returns-in-Out
returns-in-Out c = search step-out!

pub returns-in-In : goal.returns-in-In
returns-in-In c = search step-in!

pub returns-in-Point : goal.returns-in-Point
returns-in-Point c = search step-point!

pub returns-in-Close : goal.returns-in-Close
returns-in-Close c = search step-close!
