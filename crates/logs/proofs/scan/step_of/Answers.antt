-- `logs::scan::step_of` meets its contract. Assumes nothing.
use mathlib.Core.Path.{refl, sym, ◌∙◌}
use borrow.Author.Tests.{eqb-true}
use Rattle.logs.proofs.Placed.{step-compact! }
use Rattle.logs.proofs.scan.step_of.Goals as goal

pub compact_step-requires : goal.compact_step-requires
compact_step-requires c = let a = c in (a.requires.0, a.requires.1, eqb-true _ 1 (sym a.requires.3 ∙ c.if-compact.true))

pub returns-then-compact : goal.returns-then-compact
returns-then-compact c =
    let a = c in
    step-compact! a.args.m.now a.args.unit.0 a.args.i a.requires.1 _ _ refl c.compact_step.ensures (eqb-true _ 1 (sym a.requires.3 ∙ c.if-compact.true))

pub other_step-requires : goal.other_step-requires
other_step-requires c = let a = c in (a.requires.0, a.requires.1, a.requires.2, sym a.requires.3 ∙ c.if-compact.false)
