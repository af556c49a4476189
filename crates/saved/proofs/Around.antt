-- A key in the range of a base entry: the records before its leaf have lower keys, those behind it higher ones. So what a put or a delete
-- does to the records of the leaf it does to all records. Assumes nothing.
use Prim.Native.Nat.{ℕ, suc, ◌+◌, ◌*◌, ◌≤◌, ◌<◌}
use native.Mathlib.Omega.{arith}
use mathlib.Core.Path.{◌≡◌}
use mathlib.Core.List.{List, [], ◌∷◌, ◌++◌, append_assoc}
use Rattle.page.specs.Page.{key_of}
use Rattle.page.specs.Each.{Each}
use Rattle.page.proofs.Rows.{each_append}
use Rattle.tidy.proofs.Model.{Entry, Ascends, full, marks, trail, Well, beneath, state, first, Heads, Tree}
use Rattle.tidy.proofs.Trail.{bound, back}
use Rattle.tidy.proofs.Place.{all_back}
use Rattle.saved.proofs.Sorted.{Below, Above, from-above}
use Rattle.saved.proofs.Refill.{from-entry, behind-entry}
use Rattle.saved.proofs.Upper.{Filled, filled, heads-parts}

-- the first of these entries, if there is one, has a higher key
abbrev pub Over : ℕ → List Entry → Type 0
Over k [] = Unit {0}
Over k (e ∷ es) = k < e.key

over-append : (k : ℕ) (xs ys : List Entry) → Over k xs → Over k ys → Over k (xs ++ ys)
over-append k [] ys a b = b
over-append k (x ∷ xs) ys a b = a

-- what stands below entries starts with the first one's key
over-beneath : (k : ℕ) (base : ℕ → List Entry) (es : List Entry) → Heads base es → Filled base es → Over k es → Over k (beneath base es)
over-beneath k base [] h f o = tt
over-beneath k base (e ∷ es) h f o = go (base e.page) h.0 f.0
  where
    go : (bs : List Entry) → first bs ≡ e.key → full bs ≡ 1 → Over k (bs ++ beneath base es)
    go [] q u = absurd (omega arith)
    go (b ∷ bs) q u = omega (arith, o)

module _ (f : ℕ → List (List ℕ)) (k : ℕ) where
  -- the trail of entries that start above the key
  over-trail : (lo : ℕ) (es : List Entry) → Over k es → Ascends lo (trail key_of f es) → Ascends (suc (2 * k + 1)) (trail key_of f es)
  over-trail lo [] o a = tt
  over-trail lo (e ∷ es) o a = (omega arith, a.1)

  -- the records below them
  above-post : (lo : ℕ) (es : List Entry) → 2 * k + 2 ≤ lo → Ascends lo (trail key_of f es) → Above k (beneath f es)
  above-post lo [] h a = Each.nil
  above-post lo (e ∷ es) h a =
      each_append (from-above k (suc (2 * e.key)) (f e.page) (trail key_of f es) (omega (arith, a.0)) a.1)
      (above-post (suc (2 * e.key)) es (omega (arith, a.0)) (back (suc (2 * e.key)) (marks key_of (f e.page)) (trail key_of f es) a.1))

  -- the records of a page before a number that is not above the key's
  below-marks : (lo : ℕ) (is : List (List ℕ)) (t : List ℕ) (y : ℕ) (zs : List ℕ) → y ≤ 2 * k → Ascends lo (marks key_of is ++ (t ++ y ∷ zs))
      → Below k is
  below-marks lo [] t y zs h a = Each.nil
  below-marks lo (i ∷ is) t y zs h a =
      let b : suc (2 * key_of i + 1) ≤ y = bound (suc (2 * key_of i + 1)) (marks key_of is ++ t) y zs (rw (append_assoc (marks key_of is)) a.1) in
      Each.cons {r = i} (omega arith) (below-marks (suc (2 * key_of i + 1)) is t y zs h a.1)

  -- and of all pages before it
  below-pre : (lo : ℕ) (es : List Entry) (y : ℕ) (zs : List ℕ) → y ≤ 2 * k → Ascends lo (trail key_of f es ++ y ∷ zs) → Below k (beneath f es)
  below-pre lo [] y zs h a = Each.nil
  below-pre lo (e ∷ es) y zs h a =
      let b : Ascends (suc (2 * e.key)) (marks key_of (f e.page) ++ (trail key_of f es ++ y ∷ zs)) =
      rw (append_assoc (marks key_of (f e.page))) at a.1 in
      each_append (below-marks (suc (2 * e.key)) (f e.page) (trail key_of f es) y zs h b)
      (below-pre (suc (2 * e.key)) es y zs h (back (suc (2 * e.key)) (marks key_of (f e.page)) (trail key_of f es ++ y ∷ zs) b))

-- ---- a key in the range of an entry of a level

module _ (f : ℕ → List (List ℕ)) (pre : List Entry) (x : Entry) (post : List Entry) (w : Well key_of f (pre ++ x ∷ post)) (k : ℕ)
    (low : x.key ≤ k) (high : Over k post) where
  pub below_all : Below k (beneath f pre)
  below_all = below-pre f k 0 pre (2 * x.key) (marks key_of (f x.page) ++ trail key_of f post) (omega arith) (from-entry key_of f pre x post w)

  pub trail-over : Ascends (suc (2 * k + 1)) (trail key_of f post)
  trail-over =
      over-trail f k (suc (2 * x.key)) post high
      (back (suc (2 * x.key)) (marks key_of (f x.page)) (trail key_of f post) (behind-entry key_of f pre x post w))

  pub above-all : Above k (beneath f post)
  above-all = above-post f k (suc (2 * k + 1)) post (omega arith) trail-over

-- ---- a key in the range of a root entry of a tree

module _ (leaf : ℕ → List (List ℕ)) (base : ℕ → List Entry) (r1 : List Entry) (e : Entry) (r2 : List Entry)
    (t : Tree (r1 ++ e ∷ r2) (state leaf base)) where
  -- base entries behind it, those of later base pages too
  pub over-rest : (k : ℕ) (b2 : List Entry) → Over k b2 → Over k r2 → Over k (b2 ++ beneath base r2)
  over-rest k b2 o p =
      over-append k b2 (beneath base r2) o
      (over-beneath k base r2 (heads-parts base r1 e r2 t.heads).2
      (all_back (λ x. full (base x.page) ≡ 1) r1 (e ∷ r2) (filled base (r1 ++ e ∷ r2) (λ q. omega (arith, t.upper.pointed q)))).1 p)
