-- Laws of the pages that leaves may stand on, and of the places where they belong. Assumes nothing.
use Prim.Native.Nat.{ℕ, ◌+◌, ◌-◌, ◌≤◌, ◌<◌}
use native.Mathlib.Omega.{arith}
use mathlib.Core.Path.{◌≡◌}
use mathlib.Core.Bool.{true}
use mathlib.Core.List.{List}
use borrow.Author.Tests.{leb-true, le-leb}
use Rattle.field.proofs.Test.{both-1, both-2, both-intro, both_true}
use Rattle.page.specs.Page.{base_pages, first_leaf, last_leaf, leaf_pages, is_empty}
use Rattle.page.specs.Places.{Basic, Leafy, leaf_page, empty_leaf, place, base_place}

-- ---- pages that a leaf may stand on

pub leaf-page : (p : ℕ) → Leafy p → leaf_page p ≡ true
unfolding leaf_page
leaf-page p h = both-intro _ _ (le-leb first_leaf p h.0) (le-leb p last_leaf h.1)

pub leaf-page-in : (p : ℕ) → leaf_page p ≡ true → Leafy p
unfolding leaf_page
leaf-page-in p e = (leb-true first_leaf p (both-1 _ _ e), leb-true p last_leaf (both-2 _ _ e))

-- ---- empty leaf pages

pub empty_leaf_lem : (p : ℕ) (pg : List ℕ) → Leafy p → empty_leaf p pg ≡ is_empty pg
unfolding empty_leaf
empty_leaf_lem p pg h = both_true _ _ (leaf-page p h)

pub empty-leaf-in : (p : ℕ) (pg : List ℕ) → empty_leaf p pg ≡ true → Leafy p
unfolding empty_leaf
empty-leaf-in p pg e = leaf-page-in p (both-1 _ _ e)

-- ---- places of base pages

pub base-place-in : (i : ℕ) → i < base_pages → Basic (base_place i)
unfolding base_place
base-place-in i h = (omega arith, omega arith)

pub base-place-apart : (i k : ℕ) → base_place i ≡ base_place k → i ≡ k
unfolding base_place
base-place-apart i k e = omega arith

-- ---- places of leaves

-- there is one for each leaf page
pub place_in : (i : ℕ) → i < leaf_pages → Leafy (place i)
unfolding place
place_in i h = (omega arith, omega arith)

-- no two leaves belong on one page
pub place-apart : (i k : ℕ) → place i ≡ place k → i ≡ k
unfolding place
place-apart i k e = omega arith

-- nor does a leaf belong on a base page
pub place-above : (i k : ℕ) → k < base_pages → base_place k < place i
unfolding place base_place
place-above i k h = omega arith

-- no leaf stands below the first place
pub place-first : (q : ℕ) → leaf_page q ≡ true → place 0 ≤ q
unfolding place
place-first q e = omega (arith, (leaf-page-in q e).0)

-- nor between a place and the next
pub place-next : (i q : ℕ) → leaf_page q ≡ true → q < place (i + 1) → q ≤ place i
unfolding place
place-next i q e h = omega arith

-- a leaf may stand on a place that lies below a leaf
pub place-below : (i q : ℕ) → leaf_page q ≡ true → place i < q → leaf_page (place i) ≡ true
unfolding place
place-below i q e h = leaf-page (first_leaf + i) (omega arith, omega (arith, (leaf-page-in q e).1))

-- places follow one another
pub place-run : (i k : ℕ) → place i + k ≡ place (i + k)
unfolding place
place-run i k = omega arith

-- every leaf page is a place
pub place_of : (p : ℕ) → first_leaf ≤ p → place (p - first_leaf) ≡ p
unfolding place
place_of p h = omega arith
