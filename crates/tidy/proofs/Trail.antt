-- Lists that ascend, and trails: what a part keeps, what a number taken out leaves, what agrees off one page. Assumes nothing.
use Prim.Native.Nat.{ℕ, suc, ◌+◌, ◌*◌, ◌≤◌}
use native.Mathlib.Decide.{ℕ_discrete}
use native.Mathlib.Omega.{arith}
use mathlib.Core.Path.{◌≡◌, refl}
use mathlib.Core.Logic.{◌≢◌, ◌⊎◌, inl, inr}
use mathlib.Core.Bool.{Bool, true, false, cond}
use mathlib.Core.List.{List, [], ◌∷◌, ◌++◌, map, append_assoc}
use borrow.Author.Tests.{eqb-false, eq-eqb}
use lib.Dec.{eqb}
use Rattle.tidy.proofs.Model.{Entry, Ascends, pointers, full, marks, trail, Well, beneath}

-- two numbers are equal or not
pub eq? : (m n : ℕ) → (m ≡ n) ⊎ (m ≢ n)
eq? m n = elim (ℕ_discrete m n) [ yes e ↦ inl e | no d ↦ inr d ]

-- ---- lists that ascend

-- from a lower number on
pub lower : {lo lo' : ℕ} (xs : List ℕ) → lo' ≤ lo → Ascends lo xs → Ascends lo' xs
lower [] h a = tt
lower (x ∷ xs) h a = (omega arith, a.1)

-- a number taken out
pub drop-one : (lo : ℕ) (xs : List ℕ) (y : ℕ) (zs : List ℕ) → Ascends lo (xs ++ y ∷ zs) → Ascends lo (xs ++ zs)
drop-one lo [] y zs a = lower zs (omega arith) a.1
drop-one lo (x ∷ xs) y zs a = (a.0, drop-one (suc x) xs y zs a.1)

-- numbers taken out
pub drop-many : (lo : ℕ) (xs ys zs : List ℕ) → Ascends lo (xs ++ (ys ++ zs)) → Ascends lo (xs ++ zs)
drop-many lo xs [] zs a = a
drop-many lo xs (y ∷ ys) zs a = drop-many lo xs ys zs (drop-one lo xs y (ys ++ zs) a)

-- the back
pub back : (lo : ℕ) (xs ys : List ℕ) → Ascends lo (xs ++ ys) → Ascends lo ys
back lo [] ys a = a
back lo (x ∷ xs) ys a = lower ys (omega arith) (back (suc x) xs ys a.1)

-- the front
pub front : (lo : ℕ) (xs ys : List ℕ) → Ascends lo (xs ++ ys) → Ascends lo xs
front lo [] ys a = tt
front lo (x ∷ xs) ys a = (a.0, front (suc x) xs ys a.1)

-- no number is below the least
pub bound : (lo : ℕ) (xs : List ℕ) (y : ℕ) (zs : List ℕ) → Ascends lo (xs ++ y ∷ zs) → lo ≤ y
bound lo [] y zs a = a.0
bound lo (x ∷ xs) y zs a = omega (arith, a.0, bound (suc x) xs y zs a.1)

-- ---- entries that point

-- of two lists
pub pointers-append : (p : ℕ) (xs ys : List Entry) → pointers p (xs ++ ys) ≡ pointers p xs + pointers p ys
pointers-append p [] ys = omega arith
pointers-append p (e ∷ xs) ys = omega (arith, pointers-append p xs ys)

-- an entry points to its page
pub hit : (e : Entry) → ◌≡◌ {A = ℕ} (cond (eqb e.page e.page) 1 0) 1
hit e = rw (eq-eqb e.page e.page refl)

-- where none is counted, the entry does not point
pub miss : (b : Bool) (n : ℕ) → cond b 1 0 + n ≡ 0 → b ≡ false
miss true n h = absurd (omega arith)
miss false n h = refl

module _ {Item : Type 0} where
  -- a page counts once
  pub full≤ : (xs : List Item) → full xs ≤ 1
  full≤ [] = omega arith
  full≤ (x ∷ xs) = omega arith

  -- more behind
  pub full-append : (xs ys : List Item) → 1 ≤ full xs → full (xs ++ ys) ≡ 1
  full-append [] ys h = absurd (omega arith)
  full-append (x ∷ xs) ys h = refl

  -- a list with something in the middle
  pub full-mid : (xs : List Item) (x : Item) (ys : List Item) → 1 ≤ full (xs ++ x ∷ ys)
  full-mid [] x ys = omega arith
  full-mid (e ∷ xs) x ys = omega arith

  -- an empty page has nothing
  pub nothing : (es : List Item) → full es ≡ 0 → es ≡ []
  nothing [] h = refl
  nothing (e ∷ es) h = absurd (omega arith)

  -- below two lists of entries
  pub beneath-append : (f : ℕ → List Item) (xs ys : List Entry) → beneath f (xs ++ ys) ≡ beneath f xs ++ beneath f ys
  beneath-append f [] ys = refl
  beneath-append f (e ∷ xs) ys = rw (beneath-append f xs ys, append_assoc)

  -- what agrees but on page b agrees below entries that do not point to b
  pub beneath-but : (b : ℕ) (f g : ℕ → List Item) (same : (q : ℕ) → q ≢ b → f q ≡ g q) (es : List Entry) → pointers b es ≡ 0 → beneath f es ≡ beneath g es
  beneath-but b f g same [] h = refl
  beneath-but b f g same (e ∷ es) h =
      rw (same e.page (eqb-false e.page b (miss (eqb e.page b) _ h)), beneath-but b f g same es (omega arith))

module _ {Item : Type 0} (key : Item → ℕ) where
  -- a page's own keys, from their marks
  pub halve : (lo : ℕ) (is : List Item) → Ascends (2 * lo) (marks key is) → Ascends lo (map key is)
  halve lo [] a = tt
  halve lo (i ∷ is) a =
      (omega (arith, a.0), halve (suc (key i)) is (lower {lo = suc (2 * key i + 1)} {lo' = 2 * suc (key i)} (marks key is) (omega arith) a.1))

  -- and back
  pub double : (lo : ℕ) (is : List Item) → Ascends lo (map key is) → Ascends (suc (2 * lo)) (marks key is)
  double lo [] a = tt
  double lo (i ∷ is) a =
      (omega (arith, a.0), lower {lo = suc (2 * suc (key i))} {lo' = suc (2 * key i + 1)} (marks key is) (omega arith) (double (suc (key i)) is a.1))

  module _ (f : ℕ → List Item) where
    -- of two lists of entries
    pub trail-append : (xs ys : List Entry) → trail key f (xs ++ ys) ≡ trail key f xs ++ trail key f ys
    trail-append [] ys = refl
    trail-append (e ∷ xs) ys = rw (trail-append xs ys, append_assoc)

    -- a page's keys ascend
    pub page-ascends : (pre : List Entry) (x : Entry) (post : List Entry) → Well key f (pre ++ x ∷ post) → Ascends 0 (map key (f x.page))
    page-ascends pre x post w =
        let a = back 0 (trail key f pre) (trail key f (x ∷ post)) (rw (trail-append pre (x ∷ post)) at w.ascends) in
        halve 0 (f x.page)
        (lower {lo = suc (2 * x.key)} {lo' = 2 * 0} (marks key (f x.page)) (omega arith)
        (front (suc (2 * x.key)) (marks key (f x.page)) (trail key f post) a.1))

    -- the trail off page b
    pub trail-but : (b : ℕ) (g : ℕ → List Item) (same : (q : ℕ) → q ≢ b → g q ≡ f q) (es : List Entry) → pointers b es ≡ 0 → trail key g es ≡ trail key f es
    trail-but b g same [] h = refl
    trail-but b g same (e ∷ es) h =
        rw (same e.page (eqb-false e.page b (miss (eqb e.page b) _ h)), trail-but b g same es (omega arith))
