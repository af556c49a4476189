-- The code's step, as a step of the plan. Assumes nothing.
use Rattle.logs.specs.declared.steps.Planned.{Planned}
use Rattle.logs.specs.declared.steps.Planned.TheVariants.{Out, In, Point, Close}
use Rattle.logs.specs.Plan.{Step, take_out, bring_in, point, close}

unfoldable pub step_of : Planned → Step
step_of (Out org dest) = take_out org.0 dest.0
step_of (In org dest back) = bring_in org.0 dest.0 back
step_of (Point base old new other) = point base.0 old.0 new.0 other
step_of (Close unit) = close unit.0
