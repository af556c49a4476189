-- `unit::again::repeat_at` meets its contract. Assumes nothing.
use native.Mathlib.Omega.{arith}
use mathlib.Core.Path.{◌∙◌, sym}
use lib.ListN.{length-drop}
use borrow.Author.Tests.{not-false}
use borrow.Author.Rules.{part_to_end}
use Rattle.unit.proofs.Rerun.{step-lent, begin-lent, redone-shut!, redone-saves, redone-saved!, redone-reads, redone-open! }
use borrow.Author.Rules.{rules}
use Rattle.unit.proofs.again.repeat_at.Goals as goal

pub returns-then-not-w : goal.returns-then-not-w
returns-then-not-w c = search redone-shut!

pub slice_bounds-saves-count : goal.slice_bounds-saves-count
slice_bounds-saves-count c = omega (arith, c.requires.1.room (not-false _ c.if-not-w.false))

pub slice_bounds-saves-start : goal.slice_bounds-saves-start
slice_bounds-saves-start c = omega (arith, c.requires.1.room (not-false _ c.if-not-w.false))

pub saves-requires : goal.saves-requires
saves-requires c = rw (part_to_end, length-drop) (omega (arith, c.requires.1.room (not-false _ c.if-not-w.false)))

pub save_again-requires : goal.save_again-requires
save_again-requires c =
    let a = c in
    (search rules, a.requires.1.number, redone-saves a.args.log.now a.args.w a.args.work.now c.if-not-w.false _ c.saves.ensures a.requires.1 c.if-saves.true)

pub returns-then-saves : goal.returns-then-saves
returns-then-saves c =
    let a = c in
    redone-saved! a.args.log.now a.args.w a.args.work.now c.if-not-w.false _ c.saves.ensures c.if-saves.true _ _ c.save_again.ensures

pub slice_bounds-step_at-count : goal.slice_bounds-step_at-count
slice_bounds-step_at-count c = omega (arith, c.requires.1.room (not-false _ c.if-not-w.false))

pub slice_bounds-step_at-start : goal.slice_bounds-step_at-start
slice_bounds-step_at-start c = omega (arith, c.requires.1.room (not-false _ c.if-not-w.false))

pub step_at-x-requires : goal.step_at-x-requires
step_at-x-requires c =
    let a = c in
    let h = not-false _ c.if-not-w.false in
    let b = begin-lent a.args.log.now a.args.w (a.requires.1.room h) (a.requires.1.start h) in
    (b.0, b.1, sym c.saves.ensures ∙ c.if-saves.false)

pub step_again-requires : goal.step_again-requires
step_again-requires c =
    let a = c in (
      search rules,
      a.requires.1.number,
      redone-reads a.args.log.now a.args.w a.args.work.now c.if-not-w.false _ c.saves.ensures c.if-saves.false _
          (step-lent a.args.log.now a.args.w _ c.step_at-x.ensures) a.requires.1,
    )

pub returns : goal.returns
returns c =
    let a = c in
    redone-open! a.args.log.now a.args.w a.args.work.now c.if-not-w.false _ c.saves.ensures c.if-saves.false _
    (step-lent a.args.log.now a.args.w _ c.step_at-x.ensures) _ _ c.step_again.ensures
