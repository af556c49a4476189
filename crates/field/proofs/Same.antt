-- Laws of comparing two lists, and of a list that begins with another. Assumes nothing.
use Prim.Native.Nat.{ℕ, ◌+◌, ◌≤◌, ◌<◌}
use native.Mathlib.Numerals.{add-one}
use native.Mathlib.Omega.{arith}
use mathlib.Core.Path.{◌≡◌, refl, sym, ap, ap₂, ◌∙◌}
use mathlib.Core.Bool.{Bool, true, false, false≢true, ◌&&◌}
use mathlib.Core.List.{List, [], ◌∷◌, ◌++◌}
use lib.ListN.{length, take, drop, get_or, drop_of_length-le, take-append-drop, length-take}
use lib.Seq.{take-append_seam, drop-cons}
use lib.Dec.{eqb}
use borrow.Author.Tests.{eqb-true, eq-eqb}
use Rattle.field.specs.Test.{both}
use Rattle.field.specs.Bytes.{same, starts}
use Rattle.field.proofs.Test.{both-1, both-2, both-intro, both_end}

pub same-eq : (a b : List ℕ) → same a b ≡ true → a ≡ b
unfolding same
same-eq [] [] e = refl
same-eq [] (y ∷ ys) e = absurd (false≢true e)
same-eq (x ∷ xs) [] e = absurd (false≢true e)
same-eq (x ∷ xs) (y ∷ ys) e =
    ap₂ (λ (a : ℕ) (b : List ℕ). a ∷ b) (eqb-true x y (both-1 (eqb x y) (same xs ys) e)) (same-eq xs ys (both-2 (eqb x y) (same xs ys) e))

pub same_refl : (a : List ℕ) → same a a ≡ true
unfolding same
same_refl [] = refl
same_refl (x ∷ xs) = both-intro (eqb x x) (same xs xs) (eq-eqb x x refl) (same_refl xs)

pub eq-same : (a b : List ℕ) → a ≡ b → same a b ≡ true
eq-same a b e = rw e (same_refl b)

-- a test is one or the other
either : (t : Bool) → (t ≡ true → ⊥) → t ≡ false
either true f = absurd (f refl)
either false f = refl

pub ne_same : (a b : List ℕ) → (a ≡ b → ⊥) → same a b ≡ false
ne_same a b f = either (same a b) (λ e. f (same-eq a b e))

-- ---- a loop that compares two lists, for `search`: the ways through it

same_next : (a b : List ℕ) (i : ℕ) → i < length a → i < length b
    → same (drop i a) (drop i b) ≡ both (eqb (get_or a i 0) (get_or b i 0)) (same (drop (i + 1) a) (drop (i + 1) b))
unfolding same
same_next a b i h k = rw (add-one, drop-cons a i 0 h, drop-cons b i 0 k)

pub same-long! : (a b : List ℕ) → (length a ≡ length b → ⊥) → false ≡ same a b
same-long! a b f = sym (ne_same a b (λ e. f (ap length e)))

and_both : (x y z : Bool) → both x (both y z) ≡ both (x && y) z
unfolding both
and_both true y z = refl
and_both false y z = refl

pub same-none! : (a b : List ℕ) → same a b ≡ both true (same (drop 0 a) (drop 0 b))
unfolding both
same-none! a b = refl

module _ (a b : List ℕ) (ok : Bool) (i : ℕ) (e : same a b ≡ both ok (same (drop i a) (drop i b))) (l : length a ≡ length b) where
  pub same-end! : length a ≤ i → ok ≡ same a b
  unfolding same
  same-end! h =
      let k : length b ≤ i = omega arith in
      sym (e ∙ rw (drop_of_length-le a h, drop_of_length-le b k) (both_end ok))

  pub same-more! : i < length a → same a b ≡ both (ok && eqb (get_or a i 0) (get_or b i 0)) (same (drop (i + 1) a) (drop (i + 1) b))
  same-more! h = e ∙ rw (same_next a b i h (omega arith)) (and_both ok (eqb (get_or a i 0) (get_or b i 0)) (same (drop (i + 1) a) (drop (i + 1) b)))

-- ---- a list that begins with e

pub starts-take : (e l : List ℕ) → starts e l ≡ true → e ≡ take (length e) l
unfolding starts
starts-take e l t = same-eq e (take (length e) l) t

pub starts-eq : (e l : List ℕ) → starts e l ≡ true → l ≡ e ++ drop (length e) l
starts-eq e l t = sym (ap (λ (x : List ℕ). x ++ drop (length e) l) (starts-take e l t) ∙ take-append-drop (length e) l)

pub starts-length : (e l : List ℕ) → starts e l ≡ true → length e ≤ length l
starts-length e l t = omega (arith, ap length (starts-take e l t) ∙ length-take (length e) l)

pub starts-append : (e l : List ℕ) → starts e (e ++ l) ≡ true
unfolding starts
starts-append e l = rw (take-append_seam e l) (same_refl e)

pub starts-refl : (e l m : List ℕ) → l ≡ e ++ m → starts e l ≡ true
starts-refl e l m q = rw q (starts-append e m)
