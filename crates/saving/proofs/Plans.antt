-- Plans: the draft in a place, and what a plan of listed drafts says. The laws that end in `!` are for `search`. Assumes nothing.
use Prim.Native.Nat.{ℕ}
use mathlib.Core.Path.{◌≡◌, sym, ◌∙◌}
use mathlib.Core.List.{List, [], ◌∷◌}
use lib.ListN.{take}
use borrow.Author.Tests.{eq-eqb, ne_eqb}
use Rattle.field.proofs.Test.{pick_true, pick-false}
use Rattle.page.specs.Pages.{pages}
use Rattle.saving.specs.Save.{Sheet, Changed, sheets}
use Rattle.saving.specs.Draft.{sheet_of, Ready, Draws, draft_at, Plans}
use Rattle.saving.specs.declared.draft.Draft.{Draft}
use Rattle.saving.specs.declared.plan.Plan.{Plan}

-- ---- the draft in a place

module _ (x : Plan) (i : ℕ) where
  pub at-first! : i ≡ 0 → x.first ≡ draft_at x i
  unfolding draft_at
  at-first! h = sym (pick_true _ _ _ (eq-eqb i 0 h))

  module _ (n0 : i ≡ 0 → ⊥) where
    pub at-second! : i ≡ 1 → x.second ≡ draft_at x i
    unfolding draft_at
    at-second! h = sym (pick-false _ _ _ (ne_eqb i 0 n0) ∙ pick_true _ _ _ (eq-eqb i 1 h))

    module _ (n1 : i ≡ 1 → ⊥) where
      pub at-third! : i ≡ 2 → x.third ≡ draft_at x i
      unfolding draft_at
      at-third! h = sym (pick-false _ _ _ (ne_eqb i 0 n0) ∙ pick-false _ _ _ (ne_eqb i 1 n1) ∙ pick_true _ _ _ (eq-eqb i 2 h))

      pub at-fourth! : (i ≡ 2 → ⊥) → x.fourth ≡ draft_at x i
      unfolding draft_at
      at-fourth! n2 = sym (pick-false _ _ _ (ne_eqb i 0 n0) ∙ pick-false _ _ _ (ne_eqb i 1 n1) ∙ pick-false _ _ _ (ne_eqb i 2 n2))

-- ---- drafts

-- a draft stands for what is the same
pub draws-as : (w : List ℕ) (d : Draft) (x y : List ℕ → Sheet) → Draws w d x → ((r : List ℕ) → x r ≡ y r) → Draws w d y
draws-as w d x y p e = record { same = λ r. p.same r ∙ e r; ready = p.ready }

module _ (w r : List ℕ) (x : Plan) (c : Changed) where
  -- a plan of one thing is a plan of another that is the same
  pub plans-as : (d : Changed) → Plans w r x d → c ≡ d → Plans w r x c
  plans-as d p e = rw e p

  -- drafts listed are the pages that they stand for
  pub listed-as : (n : ℕ) (a1 a2 a3 a4 : Draft) (x1 x2 x3 x4 : List ℕ → Sheet) → Draws w a1 x1 → Draws w a2 x2 → Draws w a3 x3 → Draws w a4 x4
      → ((w r : List ℕ) → Ready w a1 → Ready w a2 → Ready w a3 → Ready w a4
      → Plans w r x (sheets (take n (sheet_of (pages w) r a1 ∷ sheet_of (pages w) r a2 ∷ sheet_of (pages w) r a3 ∷ sheet_of (pages w) r a4 ∷ []))))
      → c ≡ sheets (take n (x1 r ∷ x2 r ∷ x3 r ∷ x4 r ∷ [])) → Plans w r x c
  listed-as n a1 a2 a3 a4 x1 x2 x3 x4 d1 d2 d3 d4 l e =
      rw (e, ← (d1.same r), ← (d2.same r), ← (d3.same r), ← (d4.same r)) (l w r d1.ready d2.ready d3.ready d4.ready)
