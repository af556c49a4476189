-- Document 01, "Well-formed tree", over 64 pages that are in form: ps is the list of them, from page 0. Assumes nothing.
use Rattle.std.specs.Prelude.{ℕ, ◌+◌, Bool, true, List, [], ◌∷◌, ◌++◌, length, drop, get_or, eqb, leb, ltb}
use Rattle.field.specs.Test.{both, all, pick}
use Rattle.page.specs.Page.{key_of, to_page, rows, entries, records, is_empty}

-- the page that an entry points to
unfoldable pub under : (ps : List (List ℕ)) → (e : List ℕ) → List ℕ
under ps e = get_or ps (to_page e) []

-- the root's entries, and all entries of the base pages below these
unfoldable pub root_entries : (ps : List (List ℕ)) → List (List ℕ)
root_entries ps = entries (get_or ps 0 [])

-- the rows, of sz bytes each, of all pages below these entries
unfoldable pub below : (sz : ℕ) (ps : List (List ℕ)) → (es : List (List ℕ)) → List (List ℕ)
below sz ps [] = []
below sz ps (e ∷ es) = rows sz (under ps e) ++ below sz ps es

unfoldable pub base_entries : (ps : List (List ℕ)) → List (List ℕ)
base_entries ps = below 8 ps (root_entries ps)

-- all records, in key order
unfoldable pub all_records : (ps : List (List ℕ)) → List (List ℕ)
all_records ps = below 16 ps (base_entries ps)

-- how many of these entries point to page p
unfoldable pub pointers : (p : ℕ) → (es : List (List ℕ)) → ℕ
pointers p [] = 0
pointers p (e ∷ es) = pick (eqb (to_page e) p) 1 0 + pointers p es

-- "every non-empty page but the root is pointed to exactly once, an empty page never": the pages given, the first being page p
unfoldable pub pointed_once : (es : List (List ℕ)) → (p : ℕ) → List (List ℕ) → Bool
pointed_once es p [] = true
pointed_once es p (pg ∷ pgs) =
    let rest = pointed_once es (p + 1) pgs in
    both (eqb (pointers p es) (pick (is_empty pg) 0 1)) rest

-- "the first root entry has key 0"
unfoldable pub starts_at_zero : (es : List (List ℕ)) → Bool
starts_at_zero [] = true
starts_at_zero (e ∷ es) = eqb (key_of e) 0

-- "a base page's first key equals its root entry's key"
unfoldable pub headed : (ps : List (List ℕ)) → (es : List (List ℕ)) → Bool
headed ps [] = true
headed ps (e ∷ es) =
    let rest = headed ps es in
    both (eqb (key_of (get_or (entries (under ps e)) 0 [])) (key_of e)) rest

-- a key is below the next entry's, if there is a next entry
unfoldable pub lower : (k : ℕ) → (es : List (List ℕ)) → Bool
lower k [] = true
lower k (e ∷ es) = ltb k (key_of e)

unfoldable pub keys_between : (lo : ℕ) → (next : List (List ℕ)) → (rs : List (List ℕ)) → Bool
keys_between lo next [] = true
keys_between lo next (r ∷ rs) =
    let rest = keys_between lo next rs in
    both (leb lo (key_of r)) (both (lower (key_of r) next) rest)

-- "each key below an entry is at least that entry's key and less than the next one's at its level, across base pages": es is a whole
-- level of entries, the rows below them have sz bytes
unfoldable pub keys_kept : (sz : ℕ) (ps : List (List ℕ)) → (es : List (List ℕ)) → Bool
keys_kept sz ps [] = true
keys_kept sz ps (e ∷ es) =
    let rest = keys_kept sz ps es in
    both (keys_between (key_of e) es (rows sz (under ps e))) rest

-- "No root entries means no records" needs no test of its own: then no base page is pointed to, so each is empty, and so is each leaf
unfoldable pub well_formed : (ps : List (List ℕ)) → Bool
well_formed ps =
    let root : List (List ℕ) = root_entries ps in
    let level : List (List ℕ) = base_entries ps in
    all (pointed_once (root ++ level) 1 (drop 1 ps) ∷ starts_at_zero root ∷ headed ps root ∷ keys_kept 8 ps root ∷ keys_kept 16 ps level ∷ [])

-- ---- the leaves in key order: each with its base page, its own page, its records' number and its smallest key

pub record Leaf : Type 0 where
  pub base : ℕ
  pub at : ℕ
  pub count : ℕ
  pub first : ℕ

unfoldable pub leaf_at : (ps : List (List ℕ)) → (base : ℕ) → (e : List ℕ) → Leaf
leaf_at ps b e =
    let rs : List (List ℕ) = records (under ps e) in
    record { base = b; at = to_page e; count = length rs; first = key_of (get_or rs 0 []) }

unfoldable pub leaves_under : (ps : List (List ℕ)) → (base : ℕ) → (es : List (List ℕ)) → List Leaf
leaves_under ps b [] = []
leaves_under ps b (e ∷ es) = leaf_at ps b e ∷ leaves_under ps b es

unfoldable pub leaves_below : (ps : List (List ℕ)) → (es : List (List ℕ)) → List Leaf
leaves_below ps [] = []
leaves_below ps (e ∷ es) = leaves_under ps (to_page e) (entries (under ps e)) ++ leaves_below ps es

unfoldable pub leaves_of : (ps : List (List ℕ)) → List Leaf
leaves_of ps = leaves_below ps (root_entries ps)
