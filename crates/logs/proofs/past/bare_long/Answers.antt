-- `logs::past::bare_long` meets its contract. Assumes nothing.
use mathlib.Core.Path.{sym, ◌∙◌}
use borrow.Author.Tests.{eq-eqb, ne_eqb}
use Rattle.field.proofs.Test.{pick_true, pick-false}
use Rattle.logs.specs.Table.{kinds, kind_at}
use Rattle.logs.specs.Scan.{bare_long}
use Rattle.logs.proofs.past.bare_long.Goals as goal

pub returns-then-sign : goal.returns-then-sign
unfolding bare_long kind_at kinds
returns-then-sign c = c.size_of.ensures ∙ sym (pick_true _ _ _ (eq-eqb _ _ (c.if-sign.true ∙ c.sign.ensures)))

pub returns-then-sign-2 : goal.returns-then-sign-2
unfolding bare_long kind_at kinds
returns-then-sign-2 c =
    let first = c in
    c.size_of-then-sign-2.ensures
    ∙ sym
    (pick-false _ _ _ (ne_eqb _ _ (λ q. first.if-sign.false (q ∙ sym first.sign.ensures)))
    ∙ pick_true _ _ _ (eq-eqb _ _ (c.if-sign-2.true ∙ c.sign-2.ensures)))

pub returns : goal.returns
unfolding bare_long kind_at kinds
returns c =
    let second = c in
    let first = second in
    c.size_of-2.ensures
    ∙ sym
    (pick-false _ _ _ (ne_eqb _ _ (λ q. first.if-sign.false (q ∙ sym first.sign.ensures)))
    ∙ pick-false _ _ _ (ne_eqb _ _ (λ q. second.if-sign-2.false (q ∙ sym second.sign-2.ensures))))
