-- `unit::again::save_again` meets its contract: an LG, or the LE. Assumes nothing.
use Prim.Native.Nat.{ℕ, ◌+◌}
use native.Mathlib.Omega.{arith}
use mathlib.Core.Path.{ap, sym, ◌∙◌}
use lib.ListN.{length-drop}
use borrow.Author.Rules.{part_to_end}
use Rattle.logs.specs.Record.{length_of}
use Rattle.logs.specs.Table.{kinds, kind_at}
use Rattle.unit.proofs.Redone.{image-redone, filed-lent, end-redone}
use borrow.Author.Rules.{rules}
use Rattle.unit.proofs.again.save_again.Goals as goal

pub overflow_add-at : goal.overflow_add-at
overflow_add-at c = omega (arith, c.requires.2.mark)

pub bounds-log-at : goal.bounds-log-at
bounds-log-at c = omega (arith, c.requires.2.mark)

pub returns-then-log-at : goal.returns-then-log-at
unfolding kind_at kinds
returns-then-log-at c = image-redone _ c.args.log.now _ _ (c.if-log-at.true ∙ c.sign.ensures)

pub overflow_add-from : goal.overflow_add-from
unfolding length_of kind_at kinds
overflow_add-from c = omega (arith, c.size_of.ensures, c.requires.2.laid, c.requires.2.mark)

pub slice_bounds-end_all-count : goal.slice_bounds-end_all-count
unfolding length_of kind_at kinds
slice_bounds-end_all-count c = omega (arith, c.size_of.ensures, c.requires.2.laid, c.requires.2.mark)

pub slice_bounds-end_all-start : goal.slice_bounds-end_all-start
unfolding length_of kind_at kinds
slice_bounds-end_all-start c = omega (arith, c.size_of.ensures, c.requires.2.laid, c.requires.2.mark)

pub end_all-requires : goal.end_all-requires
unfolding length_of kind_at kinds
end_all-requires c =
    let a = c in (
      search rules,
      rw (part_to_end, length-drop) (omega (arith, c.size_of.ensures, a.requires.2.laid, a.requires.2.mark)),
      filed-lent 0 a.args.log.now a.args.w a.args.work.now _ (ap (λ (x : ℕ). a.args.w.begin + x) c.size_of.ensures) a.requires.2.filed,
    )

pub returns : goal.returns
unfolding kind_at kinds
returns c =
    let a = c in
    end-redone _ a.args.log.now a.args.w a.args.work.now _ (ap (λ (x : ℕ). a.args.w.begin + x) c.size_of.ensures)
    (λ q. c.if-log-at.false (q ∙ sym c.sign.ensures)) a.requires.2.filed _ c.end_all.ensures
