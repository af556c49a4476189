-- Two neighbours merged: the trail loses the second entry's number, what is below stays, and each page is pointed to as it should be.
-- Assumes nothing.
use Prim.Native.Nat.{ℕ, ◌+◌, ◌*◌, ◌≤◌}
use native.Mathlib.Omega.{arith}
use mathlib.Core.Path.{◌≡◌, refl, sym, ◌∙◌, subst}
use mathlib.Core.Logic.{◌≢◌, ⊎_elim}
use mathlib.Core.Bool.{cond}
use mathlib.Core.List.{List, [], ◌∷◌, ◌++◌, append_assoc, map-append}
use borrow.Author.Tests.{eq-eqb, ne_eqb}
use lib.Dec.{eqb}
use Rattle.tidy.proofs.Model.{Entry, pointers, full, marks, trail, Well, beneath, merged}
use Rattle.tidy.proofs.Trail.{eq?, drop-one, pointers-append, miss, full≤, full-append, trail-append, beneath-append}

module _ {Item : Type 0} (key : Item → ℕ) (f : ℕ → List Item) (a b : ℕ) where
  -- below entries to other pages nothing changes
  trail-other : (es : List Entry) → pointers a es ≡ 0 → pointers b es ≡ 0 → trail key (merged a b f) es ≡ trail key f es
  trail-other [] h k = refl
  trail-other (e ∷ es) h k = rw (miss (eqb e.page a) _ h, miss (eqb e.page b) _ k, trail-other es (omega arith) (omega arith))

  -- nor does what stands there
  beneath-other : (es : List Entry) → pointers a es ≡ 0 → pointers b es ≡ 0 → beneath (merged a b f) es ≡ beneath f es
  beneath-other [] h k = refl
  beneath-other (e ∷ es) h k = rw (miss (eqb e.page a) _ h, miss (eqb e.page b) _ k, beneath-other es (omega arith) (omega arith))

module _ {Item : Type 0} (key : Item → ℕ) (f : ℕ → List Item) (pre : List Entry) (x y : Entry) (post : List Entry) (w : Well key f (pre ++ x ∷ y ∷ post)) where
  -- the pointers to page p
  counts : (p : ℕ) → pointers p pre + (cond (eqb x.page p) 1 0 + (cond (eqb y.page p) 1 0 + pointers p post)) ≡ full (f p)
  counts p = sym (pointers-append p pre (x ∷ y ∷ post)) ∙ w.pointed p

  -- neither page is pointed to from elsewhere
  pub a-once : (pointers x.page pre ≡ 0) × (pointers x.page post ≡ 0) × (x.page ≢ y.page)
  a-once =
      let h = counts x.page in
      let u : pointers x.page pre + (1 + (cond (eqb y.page x.page) 1 0 + pointers x.page post)) ≡ full (f x.page) =
      rw (eq-eqb x.page x.page refl) at h in (
        omega (arith, full≤ (f x.page)),
        omega (arith, full≤ (f x.page)),
        λ e. let v = rw (eq-eqb y.page x.page (sym e)) at u in omega (arith, v, full≤ (f x.page)),
      )

  -- nor is the second
  pub b-once : (pointers y.page pre ≡ 0) × (pointers y.page post ≡ 0)
  b-once =
      let u : pointers y.page pre + (cond (eqb x.page y.page) 1 0 + (1 + pointers y.page post)) ≡ full (f y.page) =
      rw (eq-eqb y.page y.page refl) at (counts y.page) in
      (omega (arith, full≤ (f y.page)), omega (arith, full≤ (f y.page)))

  -- the first page holds something
  a-full : 1 ≤ full (f x.page)
  a-full = omega (arith, rw (eq-eqb x.page x.page refl) at (counts x.page))

  -- the trail after the merge
  merged-trail : trail key (merged x.page y.page f) (pre ++ x ∷ post)
      ≡ (trail key f pre ++ (2 * x.key ∷ marks key (f x.page))) ++ (marks key (f y.page) ++ trail key f post)
  merged-trail =
      rw (
        trail-append key (merged x.page y.page f) pre (x ∷ post),
        trail-other key f x.page y.page pre a-once.0 b-once.0,
        trail-other key f x.page y.page post a-once.1 b-once.1,
        eq-eqb x.page x.page refl,
        map-append (λ i. 2 * key i + 1) (f x.page) (f y.page),
        append_assoc (marks key (f x.page)),
      )
      (sym (append_assoc (trail key f pre) _ _))

  -- page p, by whether it is one of the two
  abbrev Pointed : ℕ → Type 0
  Pointed p = pointers p pre + (cond (eqb x.page p) 1 0 + pointers p post) ≡ full (merged x.page y.page f p)

  -- the first page
  at_a : Pointed x.page
  at_a = rw (eq-eqb x.page x.page refl, full-append (f x.page) (f y.page) a-full) (omega (arith, a-once))

  -- the second page
  at_b : y.page ≢ x.page → Pointed y.page
  at_b d =
      rw (ne_eqb x.page y.page (λ e. d (sym e)), ne_eqb y.page x.page d, eq-eqb y.page y.page refl) (omega (arith, b-once))

  -- any other page
  other : (p : ℕ) → p ≢ x.page → p ≢ y.page → Pointed p
  other p d e = rw (ne_eqb p x.page d, ne_eqb p y.page e) (omega (arith, rw (ne_eqb y.page p (λ k. e (sym k))) at (counts p)))

  -- the merged pages are well formed below the entries without the second
  pub merged-well : Well key (merged x.page y.page f) (pre ++ x ∷ post)
  merged-well =
      record {
        ascends = rw merged-trail
            (drop-one 0 (trail key f pre ++ (2 * x.key ∷ marks key (f x.page))) (2 * y.key) _
            (rw (trail-append key f pre (x ∷ y ∷ post), ← append_assoc (trail key f pre) (2 * x.key ∷ marks key (f x.page))) at w.ascends));
        pointed = λ p. pointers-append p pre (x ∷ post)
            ∙ ⊎_elim (λ e. subst Pointed (sym e) at_a) (λ d. ⊎_elim (λ e. subst Pointed (sym e) (at_b (λ k. d (e ∙ k)))) (other p d) (eq? p y.page)) (eq? p x.page);
      }

  -- what is below stays
  pub merged-beneath : beneath (merged x.page y.page f) (pre ++ x ∷ post) ≡ beneath f (pre ++ x ∷ y ∷ post)
  merged-beneath =
      rw (
        beneath-append (merged x.page y.page f) pre (x ∷ post),
        beneath-append f pre (x ∷ y ∷ post),
        beneath-other key f x.page y.page pre a-once.0 b-once.0,
        beneath-other key f x.page y.page post a-once.1 b-once.1,
        eq-eqb x.page x.page refl,
        append_assoc (f x.page),
      )
