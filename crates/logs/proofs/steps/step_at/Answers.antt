-- `logs::steps::step_at` meets its contract: by the type of the unit. Assumes nothing.
use mathlib.Core.Path.{◌∙◌}
use borrow.Author.Tests.{ne_eqb}
use Rattle.logs.proofs.Placed.{step-compact! }
use Rattle.logs.proofs.steps.step_at.Goals as goal

pub returns-then-byte_at-eq1 : goal.returns-then-byte_at-eq1
returns-then-byte_at-eq1 c = search step-compact!

pub other_step-requires : goal.other_step-requires
other_step-requires c =
    let a = c in
    (a.requires.0, a.requires.1, a.requires.2, ne_eqb _ 1 (λ q. c.if-byte_at-eq1.false (c.byte_at.ensures.0 ∙ q)))
