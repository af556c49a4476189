-- `unit::again::repeat_log` meets its contract. The invariant: repeating all is repeating what is still to come. Assumes nothing.
use Prim.Native.Nat.{◌-◌}
use lib.ListN.{length}
use Rattle.unit.proofs.Rerun.{Going}
use Rattle.unit.proofs.again.repeat_log.Given as goal

abbrev pub invariant-loop-w : goal.invariant-loop-w
invariant-loop-w l = Going l.log l.initial.work l.w l.work

abbrev pub decreases-loop-w : goal.decreases-loop-w
decreases-loop-w l = length l.log - l.w.at
