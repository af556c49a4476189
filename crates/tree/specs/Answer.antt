-- What find and list answer of the work pages w. Assumes nothing.
use Rattle.std.specs.Prelude.{ℕ, ◌/◌, Bool, not, List, [], ◌∷◌, length, take, eqb, leb, ltb}
use Rattle.std.proofs.Math.Option.{Option, some, none}
use Rattle.field.specs.Test.{both, pick, need, given}
use Rattle.field.specs.Bytes.{put}
use Rattle.page.specs.Page.{joined, key_of, to_page, value_of, entries, records, is_empty, formed}
use Rattle.page.specs.Pages.{page, pages}
use Rattle.tree.specs.Tree.{all_records}

-- ---- find

-- a value, or the reply of the refusal
pub data Found : Type 0 where
  missing : (reply : ℕ) → Found
  found : (value : List ℕ) → Found

-- "the last entry whose key isn't above the wanted one"; best is the one so far
unfoldable pub last_not_above : (key : ℕ) (best : Option ℕ) → (es : List (List ℕ)) → Option ℕ
last_not_above key best [] = best
last_not_above key best (e ∷ es) = last_not_above key (pick (leb (key_of e) key) (some (to_page e)) best) es

-- the record with this key
unfoldable pub record_with : (key : ℕ) → (rs : List (List ℕ)) → Option (List ℕ)
record_with key [] = none
record_with key (r ∷ rs) = let rest = record_with key rs in pick (eqb (key_of r) key) (some r) rest

-- reply 3: the page read breaks page form, or the way down meets an empty page
unfoldable pub readable : (p : ℕ) (w : List ℕ) → Bool
readable p w = both (formed p (page p w)) (not (is_empty (page p w)))

-- at the leaf page p
unfoldable pub in_leaf : (key p : ℕ) (w : List ℕ) → Found
in_leaf key p w =
    need (readable p w) (missing 3)
    (given (record_with key (records (page p w))) (missing 15) (λ r. found (value_of r)))

-- at page p, root or base, with what is done at the page below
unfoldable pub down : (key p : ℕ) (w : List ℕ) → (ℕ → Found) → Found
down key p w next =
    need (readable p w) (missing 3)
    (given (last_not_above key none (entries (page p w))) (missing 15) next)

-- from the root to a base page to a leaf: three pages are read at most
unfoldable pub look_up : (key : ℕ) (w : List ℕ) → Found
look_up key w = down key 0 w (λ b. down key b w (λ p. in_leaf key p w))

-- ---- list

-- the records whose keys are low to high, both included
unfoldable pub between : (low high : ℕ) → (rs : List (List ℕ)) → List (List ℕ)
between low high [] = []
between low high (r ∷ rs) =
    let rest = between low high rs in
    pick (both (leb low (key_of r)) (leb (key_of r) high)) (r ∷ rest) rest

-- how many records fit whole into the lent bytes
unfoldable pub room_for : (out : List ℕ) → ℕ
room_for out = length out / 16

-- the records in bounds, of all in key order
unfoldable pub in_bounds : (low high : ℕ) (w : List ℕ) → List (List ℕ)
in_bounds low high w = between low high (all_records (pages w))

-- the lent bytes with those that fit written from the front; later bytes stay
unfoldable pub written : (rs : List (List ℕ)) (out : List ℕ) → List ℕ
written rs out = put 0 (joined (take (room_for out) rs)) out

-- how many were written
unfoldable pub count_written : (rs : List (List ℕ)) (out : List ℕ) → ℕ
count_written rs out = length (take (room_for out) rs)

-- 1: more remain
unfoldable pub more_remain : (rs : List (List ℕ)) (out : List ℕ) → ℕ
more_remain rs out = pick (ltb (room_for out) (length rs)) 1 0
