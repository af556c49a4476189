-- `logs::scan::scan_log` meets its contract. The invariant: the numbers stand for a state of the log, and the whole's answer is that of what is
-- left; in the inner loop also that no put or delete is open, and that something was read unless it has just begun. Assumes nothing.
use Prim.Native.Nat.{ℕ, ◌<◌}
use mathlib.Core.Path.{◌≡◌}
use mathlib.Core.Logic.{◌⊎◌}
use mathlib.Core.List.{List}
use Rattle.logs.specs.declared.scan.Walk.{Walk}
use Rattle.logs.specs.declared.scan.Mark.{Mark}
use Rattle.logs.proofs.Pass.{Pass, to_read}
use Rattle.logs.proofs.Tidies.{Plain}
use Rattle.logs.proofs.scan.scan_log.Given as goal

-- from the numbers w₀ on, with units that tidy
pub record Run (l : List ℕ) (f : ℕ) (w₀ w : Walk) (e : Mark) : Type 0 where
  pub pass : Pass l f w e
  pub plain : Plain l w
  pub gone : (w ≡ w₀) ⊎ (to_read l w < to_read l w₀)

abbrev pub invariant-loop-e-else-saving : goal.invariant-loop-e-else-saving
invariant-loop-e-else-saving l = Run l.l l.forced l.initial.w l.w l.e

abbrev pub decreases-loop-e-else-saving : goal.decreases-loop-e-else-saving
decreases-loop-e-else-saving l = to_read l.l l.w

abbrev pub invariant-loop-e : goal.invariant-loop-e
invariant-loop-e l = Pass l.l l.forced l.w l.e

abbrev pub decreases-loop-e : goal.decreases-loop-e
decreases-loop-e l = to_read l.l l.w
