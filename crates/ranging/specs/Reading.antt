-- Where a range reader starts, and what a step gives, of any pages w and any position. A position is `tree`'s: how many entries of the root
-- and of the base page are passed, and the record on the leaf page. Assumes nothing.
use Rattle.std.specs.Prelude.{ℕ, zero, suc, ◌+◌, Bool, true, false, List, [], ◌∷◌, length, get_or, eqb, leb, ltb}
use Rattle.field.specs.Test.{both, all, pick, need}
use Rattle.field.specs.Bytes.{zeroes}
use Rattle.page.specs.Page.{key_of, to_page, value_of, letter, count, entries, records, root, base, leaf}
use Rattle.page.specs.Pages.{page, pages, all_formed}
use Rattle.tree.specs.Tree.{well_formed}
use Rattle.tree.specs.declared.walk.Place.{Place}
use Rattle.ranging.specs.declared.Reached.{Reached}
use Rattle.ranging.specs.declared.Step.{Step}

abbrev pub place : (o b i p r : ℕ) → Place
place o b i p r = record { root = o; base = b; entry = i; leaf = p; row = r }

-- none is left
abbrev pub the_end : Place
the_end = place 0 0 0 0 0

-- ---- rows that may be read

-- page p is one of the 64, bears this letter, has at most this many rows, and row i is one of them
unfoldable pub has_row : (sign most p i : ℕ) (w : List ℕ) → Bool
has_row c m p i w = all (ltb p 64 ∷ eqb (letter (page p w)) c ∷ leb (count (page p w)) m ∷ ltb i (count (page p w)) ∷ [])

-- an entry of the root, an entry of base page p, a record of leaf page p
abbrev pub has_top : (i : ℕ) (w : List ℕ) → Bool
has_top i w = has_row root.sign root.most 0 i w

abbrev pub has_entry : (p i : ℕ) (w : List ℕ) → Bool
has_entry p i w = has_row base.sign base.most p i w

abbrev pub has_record : (p i : ℕ) (w : List ℕ) → Bool
has_record p i w = has_row leaf.sign leaf.most p i w

-- the page that entry i of page p points to
unfoldable pub entry_to : (p i : ℕ) (w : List ℕ) → ℕ
entry_to p i w = to_page (get_or (entries (page p w)) i [])

-- ---- one step

-- the first record below entry i of base page b, o entries of the root being passed
unfoldable pub first_below : (o b i : ℕ) (w : List ℕ) → Place
first_below o b i w = place o b (i + 1) (entry_to b i w) 0

-- the first record behind the leaf page of a position: below the next entry of its base page, else below the next entry of the root
unfoldable pub leaf_after : (at : Place) (w : List ℕ) → Place
leaf_after at w =
    let b : ℕ = entry_to 0 at.root w in
    pick (has_entry at.base at.entry w) (first_below at.root at.base at.entry w)
    (pick (both (has_top at.root w) (has_entry b 0 w)) (first_below (at.root + 1) b 0 w) the_end)

-- the position itself where a record stands there, else behind its leaf page
unfoldable pub settled : (at : Place) (w : List ℕ) → Place
settled at w = pick (has_record at.leaf at.row w) at (leaf_after at w)

abbrev pub step : (found : Bool) (key : ℕ) (value : List ℕ) (next : Place) → Step
step f k v at = record { found = f; key = k; value = v; next = at }

abbrev pub nothing : Step
nothing = step false 0 (zeroes 10) the_end

-- the record at a position and the position after it; nothing where no record stands there, and at leaf page 0 none does
unfoldable pub next_from : (w : List ℕ) (at : Place) → Step
next_from w at =
    let r : List ℕ = get_or (records (page at.leaf w)) at.row [] in
    let there : Bool = all (eqb (length w) 16384 ∷ ltb 0 at.leaf ∷ has_record at.leaf at.row w ∷ []) in
    pick there (step true (key_of r) (value_of r) (settled (place at.root at.base at.entry at.leaf (at.row + 1)) w))
    nothing

-- ---- the start

-- how many rows, from the front, have a key below k
unfoldable pub rows_below : (k : ℕ) → List (List ℕ) → ℕ
rows_below k [] = 0
rows_below k (r ∷ rs) = let rest = rows_below k rs in pick (ltb (key_of r) k) (suc rest) 0

-- the first record from the key on that stands below the last of the i entries passed on base page b, o entries of the root being passed: the
-- records below the key are passed on its leaf page
unfoldable pub below_base : (key : ℕ) (w : List ℕ) (o b i : ℕ) → Place
below_base key w o b zero = the_end
below_base key w o b (suc i) = let p : ℕ = entry_to b i w in settled (place o b (suc i) p (rows_below key (records (page p w)))) w

-- the same below the last of the o entries of the root: its last entry whose key isn't above the wanted one leads down
unfoldable pub below_root : (key : ℕ) (w : List ℕ) (o : ℕ) → Place
below_root key w zero = the_end
below_root key w (suc o) = let b : ℕ = entry_to 0 o w in below_base key w (suc o) b (rows_below (key + 1) (entries (page b w)))

-- the first record whose key is at least the wanted one: below the last entry of the root whose key isn't above that
unfoldable pub first_from : (key : ℕ) (w : List ℕ) → Place
first_from key w = below_root key w (rows_below (key + 1) (entries (page 0 w)))

abbrev pub reached : (reply : ℕ) (at : Place) → Reached
reached r at = record { reply = r; at = at }

-- list's tests of the pages, with its replies; a refused reader stands at the end
unfoldable pub start_from : (w : List ℕ) (key : ℕ) → Reached
start_from w key =
    need (eqb (length w) 16384) (reached 1 the_end)
    (need (all_formed 0 (pages w)) (reached 3 the_end)
    (need (well_formed (pages w)) (reached 8 the_end)
    (reached 0 (first_from key w))))
