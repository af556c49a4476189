-- Pages listed in two bytes each: the loops over them, for `search`: a turn, the ends. Assumes nothing.
use Prim.Native.Nat.{ℕ, zero, suc, ◌+◌, ◌-◌, ◌*◌, ◌≤◌, ◌<◌}
use native.Mathlib.Nat.{add-zero, not-suc-le-zero}
use native.Mathlib.Numerals.{sub-one}
use native.Mathlib.Omega.{arith}
use mathlib.Core.Path.{◌≡◌, refl, sym, ap, ◌∙◌}
use mathlib.Core.Bool.{Bool, true, false, not, false≢true}
use mathlib.Core.List.{List, [], ◌∷◌}
use lib.ListN.{length, drop, get_or}
use lib.Seq.{drop-drop}
use lib.Dec.{eqb, leb}
use borrow.Author.Tests.{eq-eqb, ne_eqb, le-leb, lt-leb}
use Rattle.field.specs.Test.{both, all, pick}
use Rattle.field.specs.Bytes.{le2}
use Rattle.field.proofs.Test.{both_true, both_false, pick_true, pick-false}
use Rattle.field.proofs.Number.{le2-drop}
use Rattle.logs.specs.Log.{within, listed, differ, read_fields}

-- a chain of tests fails where one does
pub all-fail : (bs : List Bool) (i : ℕ) → get_or bs i true ≡ false → false ≡ all bs
unfolding all both
all-fail [] i e = sym e
all-fail (true ∷ bs) zero e = absurd (false≢true (sym e))
all-fail (false ∷ bs) zero e = refl
all-fail (true ∷ bs) (suc i) e = all-fail bs i e
all-fail (false ∷ bs) (suc i) e = refl

pub length-read_fields : (n : ℕ) (l : List ℕ) → length (read_fields n l) ≡ n
unfolding read_fields
length-read_fields zero l = refl
length-read_fields (suc n) l = ap suc (length-read_fields n (drop 2 l))

pub get_or-read_fields : (n i d : ℕ) (l : List ℕ) → i < n → get_or (read_fields n l) i d ≡ le2 l (2 * i)
unfolding read_fields
get_or-read_fields zero i d l h = absurd (not-suc-le-zero h)
get_or-read_fields (suc n) zero d l h = refl
get_or-read_fields (suc n) (suc i) d l h =
    let e : 2 + 2 * i ≡ 2 * suc i = omega arith in
    get_or-read_fields n i d (drop 2 l) (omega arith) ∙ le2-drop 2 (2 * i) l ∙ rw e

fields-next : (n at : ℕ) (l : List ℕ) → 0 < n → read_fields n (drop at l) ≡ le2 l at ∷ read_fields (n - 1) (drop (at + 2) l)
unfolding read_fields
fields-next zero at l h = absurd (not-suc-le-zero h)
fields-next (suc n) at l h = rw (sub-one, drop-drop 2 at l, le2-drop at 0 l, add-zero at)

fields-none : (n : ℕ) (l : List ℕ) → n ≤ 0 → read_fields n l ≡ []
unfolding read_fields
fields-none zero l h = refl
fields-none (suc n) l h = absurd (not-suc-le-zero h)

module _ (from to n at n₀ at₀ : ℕ) (l : List ℕ) (e : within from to (read_fields n₀ (drop at₀ l)) ≡ within from to (read_fields n (drop at l))) where
  pub within-end! : n ≤ 0 → true ≡ within from to (read_fields n₀ (drop at₀ l))
  unfolding within
  within-end! h = sym (e ∙ rw (fields-none n (drop at l) h))

  module _ (k : ℕ) (q : k ≡ le2 l at) (more : 0 < n) where
    step : within from to (read_fields n₀ (drop at₀ l)) ≡ both (leb from k) (both (leb k to) (within from to (read_fields (n - 1) (drop (at + 2) l))))
    unfolding within
    step = e ∙ rw (fields-next n at l more, ← q)

    pub within-low! : k < from → false ≡ within from to (read_fields n₀ (drop at₀ l))
    within-low! h = sym (step ∙ both_false _ _ (lt-leb from k h))

    module _ (g : from ≤ k) where
      pub within-high! : to < k → false ≡ within from to (read_fields n₀ (drop at₀ l))
      within-high! h = sym (step ∙ both_true _ _ (le-leb from k g) ∙ both_false _ _ (lt-leb k to h))

      pub within-more! : k ≤ to → within from to (read_fields n₀ (drop at₀ l)) ≡ within from to (read_fields (n - 1) (drop (at + 2) l))
      within-more! h = step ∙ both_true _ _ (le-leb from k g) ∙ both_true _ _ (le-leb k to h)

module _ (p n at n₀ at₀ : ℕ) (l : List ℕ) (e : listed p (read_fields n₀ (drop at₀ l)) ≡ listed p (read_fields n (drop at l))) where
  pub listed-end! : n ≤ 0 → false ≡ listed p (read_fields n₀ (drop at₀ l))
  unfolding listed
  listed-end! h = sym (e ∙ rw (fields-none n (drop at l) h))

  module _ (k : ℕ) (q : k ≡ le2 l at) (more : 0 < n) where
    look : listed p (read_fields n₀ (drop at₀ l)) ≡ pick (eqb p k) true (listed p (read_fields (n - 1) (drop (at + 2) l)))
    unfolding listed
    look = e ∙ rw (fields-next n at l more, ← q)

    pub listed-hit! : p ≡ k → true ≡ listed p (read_fields n₀ (drop at₀ l))
    listed-hit! h = sym (look ∙ pick_true _ _ _ (eq-eqb p k h))

    pub listed-more! : (p ≡ k → ⊥) → listed p (read_fields n₀ (drop at₀ l)) ≡ listed p (read_fields (n - 1) (drop (at + 2) l))
    listed-more! h = look ∙ pick-false _ _ _ (ne_eqb p k h)

module _ (n at n₀ at₀ : ℕ) (l : List ℕ) (e : differ (read_fields n₀ (drop at₀ l)) ≡ differ (read_fields n (drop at l))) where
  pub differ-end! : n ≤ 0 → true ≡ differ (read_fields n₀ (drop at₀ l))
  unfolding differ
  differ-end! h = sym (e ∙ rw (fields-none n (drop at l) h))

  module _ (z : Bool) (k : ℕ) (q : k ≡ le2 l at) (y : z ≡ listed k (read_fields (n - 1) (drop (at + 2) l))) (more : 0 < n) where
    apart : differ (read_fields n₀ (drop at₀ l)) ≡ both (not z) (differ (read_fields (n - 1) (drop (at + 2) l)))
    unfolding differ
    apart = e ∙ rw (fields-next n at l more, ← q, ← y)

    pub differ-hit! : z ≡ true → false ≡ differ (read_fields n₀ (drop at₀ l))
    differ-hit! h = sym (apart ∙ rw h (both_false false _ refl))

    pub differ-more! : z ≡ false → differ (read_fields n₀ (drop at₀ l)) ≡ differ (read_fields (n - 1) (drop (at + 2) l))
    differ-more! h = apart ∙ rw h (both_true true _ refl)
