-- Where leaves may stand, and where each of them belongs. Assumes nothing.
use Rattle.std.specs.Prelude.{ℕ, ◌+◌, ◌≤◌, Bool, List, leb}
use Rattle.field.specs.Test.{both}
use Rattle.page.specs.Page.{first_base, last_base, first_leaf, last_leaf, is_empty}

-- page p is one of the base pages, one of the leaf pages
abbrev pub Basic : (p : ℕ) → Type 0
Basic p = (first_base ≤ p) × (p ≤ last_base)

abbrev pub Leafy : (p : ℕ) → Type 0
Leafy p = (first_leaf ≤ p) × (p ≤ last_leaf)

-- a page that a leaf may stand on
unfoldable pub leaf_page : (p : ℕ) → Bool
leaf_page p = both (leb first_leaf p) (leb p last_leaf)

-- an empty leaf page
unfoldable pub empty_leaf : (p : ℕ) → (pg : List ℕ) → Bool
empty_leaf p pg = both (leaf_page p) (is_empty pg)

-- "the i-th leaf in key order, from 0, belongs on page 8 + i"
unfoldable pub place : (i : ℕ) → ℕ
place i = first_leaf + i

-- the i-th base page, from 0
unfoldable pub base_place : (i : ℕ) → ℕ
base_place i = first_base + i
