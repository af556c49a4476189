-- What a plan tells its caller: its reply, how many pages there are, and that the draft in place i stands for the i-th of them and can be
-- drawn. Assumes nothing.
use Prim.Native.Nat.{ℕ, zero, suc, ◌<◌}
use native.Mathlib.Omega.{arith}
use mathlib.Core.Path.{◌≡◌, refl, sym, ap, ◌∙◌}
use mathlib.Core.Bool.{false≢true}
use mathlib.Core.List.{List, [], ◌∷◌}
use lib.ListN.{length, take, get_or}
use lib.Seq.{length-take-le, get_or-take}
use lib.Dec.{eqb}
use borrow.Author.Tests.{eqb-true, eq-eqb}
use Rattle.field.specs.Test.{pick}
use Rattle.field.proofs.Test.{pick_true, pick-false, pick-either}
use Rattle.page.specs.Pages.{pages}
use Rattle.tree.proofs.Regions.{decide}
use Rattle.saving.specs.Save.{Sheet, Changed, cannot, sheets}
use Rattle.saving.specs.Draft.{sheet_of, Ready, planned, draft_at, Plans}
use Rattle.saving.specs.declared.plan.Plan.{Plan}

never : (n : ℕ) (xs : List Sheet) → cannot n ≡ sheets xs → ◌≡◌ {A = ℕ} 0 1
never n xs e = cc

same-sheets : (xs ys : List Sheet) → sheets xs ≡ sheets ys → xs ≡ ys
same-sheets xs ys e = cc

same-reply : (m n : ℕ) → cannot m ≡ cannot n → m ≡ n
same-reply m n e = cc

module _ (w r : List ℕ) (x : Plan) where
  abbrev four : List Sheet
  four = sheet_of (pages w) r x.first ∷ sheet_of (pages w) r x.second ∷ sheet_of (pages w) r x.third ∷ sheet_of (pages w) r x.fourth ∷ []

  in_place : (d : Sheet) (i : ℕ) → i < 4 → get_or four i d ≡ sheet_of (pages w) r (draft_at x i)
  unfolding draft_at pick
  in_place d zero h = refl
  in_place d (suc zero) h = refl
  in_place d (suc (suc zero)) h = refl
  in_place d (suc (suc (suc zero))) h = refl
  in_place d (suc (suc (suc (suc i)))) h = absurd (let y : ⊥ = omega arith in y)

  -- every draft can be drawn
  pub told-ready : (c : Changed) → Plans w r x c → (i : ℕ) → Ready w (draft_at x i)
  unfolding draft_at
  told-ready c p i =
      pick-either (Ready w) (eqb i 0) _ _ p.one (pick-either (Ready w) (eqb i 1) _ _ p.two (pick-either (Ready w) (eqb i 2) _ _ p.three p.four))

  -- a refusal
  pub told-refusal : (n : ℕ) → Plans w r x (cannot n) → (x.reply ≡ n) × (n ≡ 0 → ⊥)
  unfolding planned
  told-refusal n p =
      decide (eqb x.reply 0)
      (λ t. absurd (let z : ◌≡◌ {A = ℕ} 0 1 = never n _ (sym p.same ∙ pick_true _ _ _ t) in let y : ⊥ = omega arith in y))
      (λ t. let e : x.reply ≡ n = same-reply _ n (sym (pick-false _ _ _ t) ∙ p.same) in (e, λ z. false≢true (sym t ∙ eq-eqb x.reply 0 (e ∙ z))))

  module _ (xs : List Sheet) (p : Plans w r x (sheets xs)) where
    told : (x.reply ≡ 0) × (take x.count four ≡ xs)
    unfolding planned
    told =
        decide (eqb x.reply 0)
        (λ t. (eqb-true x.reply 0 t, same-sheets _ xs (sym (pick_true _ _ _ t) ∙ p.same)))
        (λ t. absurd (let z : ◌≡◌ {A = ℕ} 0 1 = never _ xs (sym (pick-false _ _ _ t) ∙ p.same) in let y : ⊥ = omega arith in y))

    pub told-reply : x.reply ≡ 0
    told-reply = told.0

    pub told-count : length xs ≡ x.count
    told-count = ap length (sym told.1) ∙ length-take-le x.count four p.few

    pub told_at : (i : ℕ) (d : Sheet) → i < x.count → get_or xs i d ≡ sheet_of (pages w) r (draft_at x i)
    told_at i d h = ap (λ (l : List Sheet). get_or l i d) (sym told.1) ∙ get_or-take x.count four i d h ∙ in_place d i (omega (arith, p.few))
