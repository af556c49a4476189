-- Build's pages as the code makes them: how many groups, a leaf's first key, entries one after the other, and one page of the layout.
-- Assumes nothing.
use Rattle.std.specs.Prelude.{ℕ, zero, suc, ◌+◌, ◌-◌, ◌*◌, ◌/◌, ◌≤◌, ◌<◌, List, [], ◌∷◌, length, get_or, eqb, leb, ltb}
use Rattle.field.specs.Test.{pick}
use Rattle.field.specs.Bytes.{le4}
use Rattle.page.specs.Page.{Kind, root, base, leaf, empty, first_base, last_base, base_pages, first_leaf, leaf_pages, entry}
use Rattle.page.specs.Places.{base_place}
use Rattle.tree.specs.Layout.{fresh, leaf_groups, base_groups, entries_to}

-- how many groups of k there are of n
unfoldable pub pieces : (n k : ℕ) → ℕ
pieces n k = (n + k - 1) / k

-- the key of the entry to leaf i, of f records each: the smallest record's, the leftmost being 0
unfoldable pub leaf_key : (f : ℕ) (records : List ℕ) (i : ℕ) → ℕ
leaf_key f records i = pick (eqb i 0) 0 (le4 records (16 * (f * i) + 2))

-- n entries to the pages from p on, the first with leaf i's key, then those of every step-th leaf
unfoldable pub entry_run : (f : ℕ) (records : List ℕ) (step : ℕ) → (i p n : ℕ) → List (List ℕ)
entry_run f records step i p zero = []
entry_run f records step i p (suc n) = entry (leaf_key f records i) p ∷ entry_run f records step (i + step) (p + 1) n

-- n leaves, every step-th from leaf i, begin within so many bytes of records, f records to a leaf
pub record Leaves (bytes f step i n : ℕ) : Type 0 where
  pub begin : (j : ℕ) → j < n → 16 * (f * (i + step * j)) + 16 ≤ bytes

-- what build tests of the fills and of so many bytes of records: there are enough leaf pages and base pages
pub record Buildable (f g bytes : ℕ) : Type 0 where
  pub leaf-least : 1 ≤ f
  pub leaf-most : f ≤ 15
  pub base-least : 1 ≤ g
  pub base-most : g ≤ 30
  pub leaves : pieces (bytes / 16) f ≤ leaf_pages
  pub bases : pieces (pieces (bytes / 16) f) g ≤ base_pages

-- group i, or an empty page where there is none
unfoldable pub nth : (k : Kind) (gs : List (List (List ℕ))) (i : ℕ) → List ℕ
nth k gs i = pick (ltb i (length gs)) (fresh k (get_or gs i [])) (fresh empty [])

-- page p of the layout
unfoldable pub layout_page : (f g : ℕ) (rs : List (List ℕ)) (p : ℕ) → List ℕ
layout_page f g rs p =
    pick (eqb p 0) (fresh root (entries_to base_place 0 (base_groups f g rs)))
    (pick (leb p last_base) (nth base (base_groups f g rs) (p - first_base)) (nth leaf (leaf_groups f rs) (p - first_leaf)))
