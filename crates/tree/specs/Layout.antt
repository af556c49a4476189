-- Document 01, "Build takes records of 16 bytes, leaf fill f (1..15) and base fill g (1..30). Pages are filled in number order, all with
-- number 0. An entry's key is the smallest record below it, the leftmost being 0." Assumes nothing.
use Rattle.std.specs.Prelude.{ℕ, zero, suc, ◌+◌, ◌-◌, List, [], ◌∷◌, ◌++◌, map, length, take, drop, get_or, replicate}
use Rattle.field.specs.Bytes.{zeroes}
use Rattle.page.specs.Page.{Kind, root, base, leaf, empty, base_pages, leaf_pages, joined, key_of, to_page, entry, made}
use Rattle.page.specs.Places.{place, base_place}

-- rows in groups of k, the last perhaps smaller; the fuel is no less than their number
unfoldable pub groups : (fuel k : ℕ) → List (List ℕ) → List (List (List ℕ))
groups zero k rs = []
groups (suc n) k [] = []
groups (suc n) k (r ∷ rs) = take k (r ∷ rs) ∷ groups n k (drop k (r ∷ rs))

-- an entry for each group, the first being group i: group i's to page `to i`
unfoldable pub entries_to : (to : ℕ → ℕ) (i : ℕ) → List (List (List ℕ)) → List (List ℕ)
entries_to to i [] = []
entries_to to i (g ∷ gs) = entry (key_of (get_or g 0 [])) (to i) ∷ entries_to to (i + 1) gs

-- the leftmost entry of all has key 0
unfoldable pub from_zero : List (List ℕ) → List (List ℕ)
from_zero [] = []
from_zero (e ∷ es) = entry 0 (to_page e) ∷ es

-- a new page of this kind, number 0, with these rows
unfoldable pub fresh : Kind → List (List ℕ) → List ℕ
fresh k rs = made k.sign 0 (zeroes 8) rs

-- n pages: one of this kind for each group, then empty ones
unfoldable pub filled : (n : ℕ) → Kind → List (List (List ℕ)) → List ℕ
filled n k gs = joined (map (fresh k) gs) ++ joined (replicate (n - length gs) (fresh empty []))

-- the groups of records, one a leaf, and of the entries to these, one a base page
unfoldable pub leaf_groups : (f : ℕ) → List (List ℕ) → List (List (List ℕ))
leaf_groups f rs = groups (length rs) f rs

unfoldable pub base_groups : (f g : ℕ) → List (List ℕ) → List (List (List ℕ))
base_groups f g rs = let ls : List (List (List ℕ)) = leaf_groups f rs in groups (length ls) g (from_zero (entries_to place 0 ls))

-- the 64 pages: root, base pages, leaf pages
unfoldable pub layout : (f g : ℕ) → List (List ℕ) → List ℕ
layout f g rs =
    let ls : List (List (List ℕ)) = leaf_groups f rs in
    let bs : List (List (List ℕ)) = base_groups f g rs in
    fresh root (entries_to base_place 0 bs) ++ (filled base_pages base bs ++ filled leaf_pages leaf ls)
