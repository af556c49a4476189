-- Rows by their keys. Of rows that ascend those below a key are the front and those above it the back, so a record put at its key, or a key
-- taken out, leaves rows that ascend; and what is done to the rows of one page is done to all rows of the tree. Assumes nothing.
use Prim.Native.Nat.{ℕ, suc, ◌+◌, ◌*◌, ◌≤◌, ◌<◌}
use native.Mathlib.Omega.{arith}
use mathlib.Core.Path.{◌≡◌, refl, sym, ap, ap₂, ◌∙◌}
use mathlib.Core.List.{List, [], ◌∷◌, ◌++◌, append_assoc}
use borrow.Author.Tests.{lt-ltb, le-ltb}
use lib.Dec.{ltb}
use Rattle.field.proofs.Test.{pick_true, pick-false}
use Rattle.field.proofs.Part.{split}
use Rattle.page.specs.Page.{key_of}
use Rattle.page.specs.Each.{Each}
use Rattle.saving.specs.Save.{lesser, greater, with_record, without_key}
use Rattle.tidy.proofs.Model.{Ascends, marks}
use Rattle.tidy.proofs.Trail as Trail

-- ---- one row

module _ (k : ℕ) (r : List ℕ) (rs : List (List ℕ)) where
  pub lesser-in : key_of r < k → lesser k (r ∷ rs) ≡ r ∷ lesser k rs
  unfolding lesser
  lesser-in h = pick_true (ltb (key_of r) k) (r ∷ lesser k rs) (lesser k rs) (lt-ltb (key_of r) k h)

  pub lesser-out : k ≤ key_of r → lesser k (r ∷ rs) ≡ lesser k rs
  unfolding lesser
  lesser-out h = pick-false (ltb (key_of r) k) (r ∷ lesser k rs) (lesser k rs) (le-ltb (key_of r) k h)

  pub greater-in : k < key_of r → greater k (r ∷ rs) ≡ r ∷ greater k rs
  unfolding greater
  greater-in h = pick_true (ltb k (key_of r)) (r ∷ greater k rs) (greater k rs) (lt-ltb k (key_of r) h)

  pub greater-out : key_of r ≤ k → greater k (r ∷ rs) ≡ greater k rs
  unfolding greater
  greater-out h = pick-false (ltb k (key_of r)) (r ∷ greater k rs) (greater k rs) (le-ltb k (key_of r) h)

-- ---- rows that are all below the key, or all above it

abbrev pub Below : ℕ → List (List ℕ) → Type 0
Below k rs = Each (λ r. key_of r < k) rs

abbrev pub Above : ℕ → List (List ℕ) → Type 0
Above k rs = Each (λ r. k < key_of r) rs

module _ (k : ℕ) where
  lesser-below : (xs ys : List (List ℕ)) → Below k xs → lesser k (xs ++ ys) ≡ xs ++ lesser k ys
  lesser-below [] ys Each.nil = refl
  lesser-below (r ∷ xs) ys (Each.cons h p) = lesser-in k r (xs ++ ys) h ∙ ap (λ (l : List (List ℕ)). r ∷ l) (lesser-below xs ys p)

  greater-below : (xs ys : List (List ℕ)) → Below k xs → greater k (xs ++ ys) ≡ greater k ys
  greater-below [] ys Each.nil = refl
  greater-below (r ∷ xs) ys (Each.cons h p) = greater-out k r (xs ++ ys) (omega arith) ∙ greater-below xs ys p

  none-lesser : (ys : List (List ℕ)) → Above k ys → lesser k ys ≡ []
  unfolding lesser
  none-lesser [] Each.nil = refl
  none-lesser (r ∷ ys) (Each.cons h p) = lesser-out k r ys (omega arith) ∙ none-lesser ys p

  all-greater : (ys : List (List ℕ)) → Above k ys → greater k ys ≡ ys
  unfolding greater
  all-greater [] Each.nil = refl
  all-greater (r ∷ ys) (Each.cons h p) = greater-in k r ys h ∙ ap (λ (l : List (List ℕ)). r ∷ l) (all-greater ys p)

  lesser-above : (xs ys : List (List ℕ)) → Above k ys → lesser k (xs ++ ys) ≡ lesser k xs
  lesser-above [] ys p = none-lesser ys p ∙ sym (unfold lesser in refl)
  lesser-above (r ∷ xs) ys p =
      split (key_of r) k
      (λ h. lesser-in k r (xs ++ ys) h ∙ ap (λ (l : List (List ℕ)). r ∷ l) (lesser-above xs ys p) ∙ sym (lesser-in k r xs h))
      (λ h. lesser-out k r (xs ++ ys) h ∙ lesser-above xs ys p ∙ sym (lesser-out k r xs h))

  greater-above : (xs ys : List (List ℕ)) → Above k ys → greater k (xs ++ ys) ≡ greater k xs ++ ys
  greater-above [] ys p = all-greater ys p ∙ sym (unfold greater in refl)
  greater-above (r ∷ xs) ys p =
      split k (key_of r)
      (λ h. greater-in k r (xs ++ ys) h
      ∙ ap (λ (l : List (List ℕ)). r ∷ l) (greater-above xs ys p)
      ∙ sym (ap (λ (l : List (List ℕ)). l ++ ys) (greater-in k r xs h)))
      (λ h. greater-out k r (xs ++ ys) h ∙ greater-above xs ys p ∙ sym (ap (λ (l : List (List ℕ)). l ++ ys) (greater-out k r xs h)))

-- ---- all rows of the tree: those before a page, its own, those behind it

module _ (a l b : List (List ℕ)) where
  module _ (r : List ℕ) (low : Below (key_of r) a) (high : Above (key_of r) b) where
    pub put-within : with_record r (a ++ (l ++ b)) ≡ a ++ (with_record r l ++ b)
    unfolding with_record
    put-within =
        ap₂ (λ (x y : List (List ℕ)). x ++ (r ∷ y))
        (lesser-below (key_of r) a (l ++ b) low ∙ ap (λ (x : List (List ℕ)). a ++ x) (lesser-above (key_of r) l b high))
        (greater-below (key_of r) a (l ++ b) low ∙ greater-above (key_of r) l b high)
        ∙ append_assoc a (lesser (key_of r) l) (r ∷ (greater (key_of r) l ++ b))
        ∙ ap (λ (x : List (List ℕ)). a ++ x) (sym (append_assoc (lesser (key_of r) l) (r ∷ greater (key_of r) l) b))

  module _ (k : ℕ) (low : Below k a) (high : Above k b) where
    pub taken-within : without_key k (a ++ (l ++ b)) ≡ a ++ (without_key k l ++ b)
    unfolding without_key
    taken-within =
        ap₂ (λ (x y : List (List ℕ)). x ++ y)
        (lesser-below k a (l ++ b) low ∙ ap (λ (x : List (List ℕ)). a ++ x) (lesser-above k l b high))
        (greater-below k a (l ++ b) low ∙ greater-above k l b high)
        ∙ append_assoc a (lesser k l) (greater k l ++ b)
        ∙ ap (λ (x : List (List ℕ)). a ++ x) (sym (append_assoc (lesser k l) (greater k l) b))

-- ---- the marks of rows that ascend, and what comes behind them

-- rows that start above the key
pub from-above : (k lo : ℕ) (l : List (List ℕ)) (t : List ℕ) → 2 * k + 2 ≤ lo → Ascends lo (marks key_of l ++ t) → Above k l
from-above k lo [] t h a = Each.nil
from-above k lo (r ∷ l) t h a =
    Each.cons {r = r} (omega (arith, a.0)) (from-above k (suc (2 * key_of r + 1)) l t (omega (arith, a.0)) a.1)

module _ (t : List ℕ) where
  -- a record put at its key
  pub put-marks : (r : List ℕ) (lo : ℕ) (l : List (List ℕ)) → Ascends lo (marks key_of l ++ t) → lo ≤ 2 * key_of r + 1
      → Ascends (suc (2 * key_of r + 1)) t → Ascends lo (marks key_of (with_record r l) ++ t)
  unfolding with_record
  put-marks r lo [] a h u = unfold lesser greater in (h, u)
  put-marks r lo (i ∷ l) a h u =
      split (key_of i) (key_of r)
      (λ (c : key_of i < key_of r). rw (lesser-in (key_of r) i l c, greater-out (key_of r) i l (omega arith))
      (a.0, put-marks r (suc (2 * key_of i + 1)) l a.1 (omega arith) u))
      (λ (c : key_of r ≤ key_of i). split (key_of r) (key_of i)
      (λ (d : key_of r < key_of i).
      let up : Above (key_of r) l = from-above (key_of r) (suc (2 * key_of i + 1)) l t (omega arith) a.1 in
      rw (lesser-out (key_of r) i l c, greater-in (key_of r) i l d, none-lesser (key_of r) l up, all-greater (key_of r) l up)
      (h, (omega arith, a.1)))
      (λ (d : key_of i ≤ key_of r). rw (lesser-out (key_of r) i l c, greater-out (key_of r) i l d)
      (put-marks r lo l (Trail.lower {lo = suc (2 * key_of i + 1)} {lo' = lo} (marks key_of l ++ t) (omega (arith, a.0)) a.1) h u)))

  -- a key taken out
  pub taken-marks : (k lo : ℕ) (l : List (List ℕ)) → Ascends lo (marks key_of l ++ t) → Ascends lo (marks key_of (without_key k l) ++ t)
  unfolding without_key
  taken-marks k lo [] a = unfold lesser greater in a
  taken-marks k lo (i ∷ l) a =
      split (key_of i) k
      (λ (c : key_of i < k). rw (lesser-in k i l c, greater-out k i l (omega arith)) (a.0, taken-marks k (suc (2 * key_of i + 1)) l a.1))
      (λ (c : k ≤ key_of i). split k (key_of i)
      (λ (d : k < key_of i).
      let up : Above k l = from-above k (suc (2 * key_of i + 1)) l t (omega arith) a.1 in
      rw (lesser-out k i l c, greater-in k i l d, none-lesser k l up, all-greater k l up) (a.0, a.1))
      (λ (d : key_of i ≤ k). rw (lesser-out k i l c, greater-out k i l d)
      (taken-marks k lo l (Trail.lower {lo = suc (2 * key_of i + 1)} {lo' = lo} (marks key_of l ++ t) (omega (arith, a.0)) a.1))))
