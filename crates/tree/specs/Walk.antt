-- The clauses of the well-formed tree as the code tests them: a page's rows lie between two numbers, the upper one being the next entry's
-- key or, behind the last entry, one that no key reaches; a page is pointed to as often as an array of counts says. Assumes nothing.
use Rattle.std.specs.Prelude.{ℕ, ◌+◌, ◌*◌, ◌≤◌, ◌<◌, ◌≡◌, Bool, true, List, [], ◌∷◌, length, get_or, eqb, leb, ltb}
use Rattle.field.specs.Test.{both, pick}
use Rattle.page.specs.Page.{key_of, to_page, ascend, count, rows, is_empty}
use Rattle.page.specs.Pages.{page, pages, all_formed}
use Rattle.page.specs.Each.{Each}
use Rattle.tree.specs.Tree.{under, pointers}

-- 64 pages in form
pub record InForm (w : List ℕ) : Type 0 where
  pub whole : length w ≡ 16384
  pub forms : all_formed 0 (pages w) ≡ true

-- rows whose keys ascend, with the same mark
pub record Ascending (rs : List (List ℕ)) : Type 0 where
  pub one : ℕ
  pub two : ℕ
  pub order : ascend one two 0 rs ≡ true

-- page q has rows of sz bytes, in order, and at least one
pub record Spot (sz : ℕ) (w : List ℕ) (q : ℕ) : Type 0 where
  pub past : 0 < q
  pub inside : q < 64
  pub fits : 16 + sz * count (page q w) ≤ 256
  pub full : 0 < count (page q w)
  pub order : Ascending (rows sz (page q w))

-- so has the page below an entry
abbrev pub Below : (sz : ℕ) (w : List ℕ) (e : List ℕ) → Type 0
Below sz w e = Spot sz w (to_page e)

-- page q is a base page, and so have the leaf pages below its entries
pub record Over (w : List ℕ) (q : ℕ) : Type 0 where
  pub base : Spot 8 w q
  pub leaves : Each (Below 16 w) (rows 8 (page q w))

-- so has the page below an entry of the root
abbrev pub Above : (w : List ℕ) (e : List ℕ) → Type 0
Above w e = Over w (to_page e)

-- ---- how often pages are pointed to

-- sum, with the entries xs still to be counted, is counts with the entries ys
pub record Tallied (sum : List ℕ) (xs : List (List ℕ)) (counts : List ℕ) (ys : List (List ℕ)) : Type 0 where
  pub same : (p : ℕ) → p < 64 → get_or sum p 0 + pointers p xs ≡ get_or counts p 0 + pointers p ys

-- n more fit into each count
pub record Roomy (counts : List ℕ) (n : ℕ) : Type 0 where
  pub room : (p : ℕ) → p < 64 → get_or counts p 0 + n < 65536

-- ---- keys between two numbers

-- the first key of es, hi where there is none
unfoldable pub bound : (hi : ℕ) → (es : List (List ℕ)) → ℕ
bound hi [] = hi
bound hi (e ∷ es) = key_of e

-- every key is at least lo and less than hi
unfoldable pub keys_within : (lo hi : ℕ) → (rs : List (List ℕ)) → Bool
keys_within lo hi [] = true
keys_within lo hi (r ∷ rs) =
    let rest = keys_within lo hi rs in
    both (leb lo (key_of r)) (both (ltb (key_of r) hi) rest)

-- each key below an entry of es is at least that entry's key and less than the next one's, hi being next to the last
unfoldable pub kept_to : (sz : ℕ) (ps : List (List ℕ)) (hi : ℕ) → (es : List (List ℕ)) → Bool
kept_to sz ps hi [] = true
kept_to sz ps hi (e ∷ es) =
    let rest = kept_to sz ps hi es in
    both (keys_within (key_of e) (bound hi es) (rows sz (under ps e))) rest

-- the same of the entries of each page below es
unfoldable pub level_to : (ps : List (List ℕ)) (hi : ℕ) → (es : List (List ℕ)) → Bool
level_to ps hi [] = true
level_to ps hi (e ∷ es) =
    let rest = level_to ps hi es in
    both (kept_to 16 ps (bound hi es) (rows 8 (under ps e))) rest

-- the pages given, the first being page p, are pointed to rightly where counts holds how often each is
unfoldable pub rightly : (counts : List ℕ) (p : ℕ) → List (List ℕ) → Bool
rightly counts p [] = true
rightly counts p (pg ∷ pgs) =
    let rest = rightly counts (p + 1) pgs in
    both (eqb (get_or counts p 0) (pick (is_empty pg) 0 1)) rest
