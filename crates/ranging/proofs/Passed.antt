-- Rows passed from the front: those that have a key below a number, and one turn of the loop over them. The laws that end in `!` are for
-- `search`. Assumes nothing.
use Prim.Native.Nat.{ℕ, zero, suc, ◌+◌, ◌-◌, ◌≤◌, ◌<◌}
use native.Mathlib.Nat.{not-suc-le-zero}
use native.Mathlib.Omega.{arith}
use mathlib.Core.Path.{◌≡◌, refl, sym, ap, ◌∙◌}
use mathlib.Core.List.{List, [], ◌∷◌}
use lib.ListN.{length, take, drop, get_or}
use borrow.Author.Tests.{lt-ltb, le-ltb}
use Rattle.field.specs.Bytes.{le4, part}
use Rattle.field.proofs.Test.{pick_true, pick-false}
use Rattle.field.proofs.Part.{split}
use Rattle.page.specs.Page.{rows_of, key_of, rows, count}
use Rattle.page.specs.Each.{Each, nil, cons}
use Rattle.page.proofs.Rows.{key_row}
use Rattle.page.proofs.Turns.{rows_next}
use Rattle.tree.proofs.Turn.{none_left}
use Rattle.ranging.specs.Reading.{rows_below}

pub below-nil : (k : ℕ) → rows_below k [] ≡ 0
unfolding rows_below
below-nil k = refl

pub below-cons : (k : ℕ) (r : List ℕ) (rs : List (List ℕ)) → key_of r < k → rows_below k (r ∷ rs) ≡ suc (rows_below k rs)
unfolding rows_below
below-cons k r rs h = pick_true _ _ _ (lt-ltb (key_of r) k h)

pub below-stop : (k : ℕ) (r : List ℕ) (rs : List (List ℕ)) → k ≤ key_of r → rows_below k (r ∷ rs) ≡ 0
unfolding rows_below
below-stop k r rs h = pick-false _ _ _ (le-ltb (key_of r) k h)

module _ (k : ℕ) where
  pub below-most : (rs : List (List ℕ)) → rows_below k rs ≤ length rs
  below-most [] = unfold rows_below in omega arith
  below-most (r ∷ rs) =
      split (key_of r) k
      (λ h. rw (below-cons k r rs h) (omega (arith, below-most rs)))
      (λ h. rw (below-stop k r rs h) (omega arith))

  -- the rows passed
  pub below-front : (rs : List (List ℕ)) → Each (λ r. key_of r < k) (take (rows_below k rs) rs)
  below-front [] = unfold rows_below in nil
  below-front (r ∷ rs) =
      split (key_of r) k
      (λ h. rw (below-cons k r rs h) (cons h (below-front rs)))
      (λ h. rw (below-stop k r rs h) nil)

  pub below_at : (i : ℕ) (rs : List (List ℕ)) → i < rows_below k rs → key_of (get_or rs i []) < k
  below_at i [] h = absurd (not-suc-le-zero (rw (below-nil k) at h))
  below_at zero (r ∷ rs) h = split (key_of r) k (λ a. a) (λ a. absurd (not-suc-le-zero (rw (below-stop k r rs a) at h)))
  below_at (suc i) (r ∷ rs) h =
      split (key_of r) k
      (λ a. let e = below-cons k r rs a in below_at i rs (omega arith))
      (λ a. absurd (not-suc-le-zero (rw (below-stop k r rs a) at h)))

  -- the first that is not
  pub below_next : (rs : List (List ℕ)) → rows_below k rs < length rs → k ≤ key_of (get_or rs (rows_below k rs) [])
  below_next [] h = absurd (not-suc-le-zero h)
  below_next (r ∷ rs) h =
      split (key_of r) k
      (λ a. let e = below-cons k r rs a in rw e (below_next rs (omega arith)))
      (λ a. rw (below-stop k r rs a) a)

  pub below-some : (rs : List (List ℕ)) → 0 < length rs → key_of (get_or rs 0 []) < k → 0 < rows_below k rs
  below-some [] h a = absurd (not-suc-le-zero h)
  below-some (r ∷ rs) h a = rw (below-cons k r rs a) (omega arith)

-- ---- the loop

pub passed_none : (k sz n : ℕ) (pg : List ℕ) → n ≡ count pg → rows_below k (rows sz pg) ≡ 0 + rows_below k (rows_of sz n (drop 16 pg))
unfolding rows
passed_none k sz n pg e = let z : 0 + rows_below k (rows_of sz n (drop 16 pg)) ≡ rows_below k (rows_of sz n (drop 16 pg)) = omega arith in sym (z ∙ rw e)

module _ (k sz : ℕ) (l : List ℕ) (whole passed left at : ℕ) (e : whole ≡ passed + rows_below k (rows_of sz left (drop at l))) where
  pub passed-end! : left ≤ 0 → passed ≡ whole
  passed-end! h =
      let z : rows_below k (rows_of sz left (drop at l)) ≡ 0 = rw (none_left sz left (drop at l) h) (unfold rows_below in refl) in
      omega arith

  module _ (more : 0 < left) (wide : 8 ≤ sz) (x : ℕ) (is : x ≡ le4 l (at + 2)) where
    keyed : key_of (part at sz l) ≡ x
    keyed = key_row sz at l (omega arith) ∙ sym is

    pub passed-stop! : k ≤ x → passed ≡ whole
    passed-stop! h =
        let z : rows_below k (rows_of sz left (drop at l)) ≡ 0 =
        ap (rows_below k) (rows_next sz left at l more) ∙ below-stop k (part at sz l) (rows_of sz (left - 1) (drop (at + sz) l)) (omega (arith, keyed)) in
        omega arith

    pub passed-more! : x < k → whole ≡ passed + 1 + rows_below k (rows_of sz (left - 1) (drop (at + sz) l))
    passed-more! h =
        let z : rows_below k (rows_of sz left (drop at l)) ≡ suc (rows_below k (rows_of sz (left - 1) (drop (at + sz) l))) =
        ap (rows_below k) (rows_next sz left at l more) ∙ below-cons k (part at sz l) (rows_of sz (left - 1) (drop (at + sz) l)) (omega (arith, keyed)) in
        omega arith
