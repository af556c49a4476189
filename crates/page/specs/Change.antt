-- What a record does to its page: document 01, "Steps" and reply 5. Each change is one page made of another, stamped with the record's
-- number n, its spare bytes kept; none is reply 5. A step and a repeated record make the same change. Assumes nothing.
use Rattle.std.specs.Prelude.{ℕ, ◌+◌, Bool, true, false, List, [], ◌∷◌, ◌++◌, length, eqb, leb}
use Rattle.std.proofs.Math.Option.{Option}
use Rattle.field.specs.Test.{both, all, pick, when}
use Rattle.field.specs.Bytes.{put, same, bytes2}
use Rattle.page.specs.Page.{joined, key_of, to_page, ascend_records, spare, entries, records, made, base, leaf, empty, is_base, is_leaf, is_empty}

-- LO with the records rs: its page is a leaf of exactly these, and becomes empty
unfoldable pub emptied : (n : ℕ) (rs : List (List ℕ)) → List ℕ → Option (List ℕ)
emptied n rs pg = when (both (is_leaf pg) (same (joined (records pg)) (joined rs))) (made empty.sign n (spare pg) [])

-- the least key that may follow the rows: one above the last row's, lo where there is none
unfoldable pub above : (lo : ℕ) → List (List ℕ) → ℕ
above lo [] = lo
above lo (r ∷ rs) = above (key_of r + 1) rs

-- LI with the records rs: its page is empty, or a leaf ending below the new keys, with room to 15; the records are appended
unfoldable pub appended : (n : ℕ) (rs : List (List ℕ)) → List ℕ → Option (List ℕ)
appended n rs pg =
    when
    (all (pick (is_empty pg) true (is_leaf pg) ∷ leb (length (records pg) + length rs) 15 ∷ ascend_records (above 0 (records pg)) rs ∷ []))
    (made leaf.sign n (spare pg) (records pg ++ rs))

-- the entry with this key to this page
unfoldable pub is_entry : (key p : ℕ) → List ℕ → Bool
is_entry key p e = both (eqb (key_of e) key) (eqb (to_page e) p)

unfoldable pub has : (key p : ℕ) → List (List ℕ) → Bool
has key p [] = false
has key p (e ∷ es) = let rest = has key p es in pick (is_entry key p e) true rest

-- that entry pointing to another page; the others stay
unfoldable pub point_to : (key old new : ℕ) → List (List ℕ) → List (List ℕ)
point_to key old new [] = []
point_to key old new (e ∷ es) = pick (is_entry key old e) (put 6 (bytes2 new) e) e ∷ point_to key old new es

-- all entries but that one
unfoldable pub without : (key p : ℕ) → List (List ℕ) → List (List ℕ)
without key p [] = []
without key p (e ∷ es) = let rest = without key p es in pick (is_entry key p e) rest (e ∷ rest)

-- LM that keeps the key: the entry with the old key and page points to the new page
unfoldable pub redirected : (n key old new : ℕ) → List ℕ → Option (List ℕ)
redirected n key old new pg =
    when (both (is_base pg) (has key old (entries pg))) (made base.sign n (spare pg) (point_to key old new (entries pg)))

-- LM that removes: not the page's only entry
unfoldable pub removed : (n key old : ℕ) → List ℕ → Option (List ℕ)
removed n key old pg =
    when (all (is_base pg ∷ has key old (entries pg) ∷ leb 2 (length (entries pg)) ∷ [])) (made base.sign n (spare pg) (without key old (entries pg)))
