-- The tests of one record, as one Bool each: what `read_rec` asks of the record that must come next. Assumes nothing.
use Rattle.std.specs.Prelude.{ℕ, ◌+◌, ◌-◌, ◌*◌, ◌≤◌, ◌≡◌, Bool, true, List, [], ◌∷◌, length, drop, get_or, leb}
use Rattle.field.specs.Test.{both, all}
use Rattle.field.specs.Bytes.{part, all_zero, starts, le2, le4, most4}
use Rattle.page.specs.Page.{rows_of, ascend_records}
use Rattle.logs.specs.Record.{Begin, Image, Rec, LB, LO, LM, LG, LE, begin, into, base_count_at, leaf_count_at, bases_at, leaves_at, dest_at, zero_at, length_of, size, encode}
use Rattle.logs.specs.Write.{in_bytes}
use Rattle.logs.specs.Log.{saves_at, read_begin, begin_ok, read_image, follows, all_bear}

-- the record with the log number n stands at the front of l, all of it
unfoldable pub stands : (n : ℕ) → Rec → (l : List ℕ) → Bool
stands n r l = all (leb n most4 ∷ leb (size r) (length l) ∷ starts (encode n r) l ∷ [])

-- the same of an LI of k records
unfoldable pub stands_in : (n org dest back k : ℕ) → (l : List ℕ) → Bool
stands_in n org dest back k l = all (leb n most4 ∷ leb (length_of into 0) (length l) ∷ starts (in_bytes n org dest back k) l ∷ [])

-- the same of an LM, whatever its key
unfoldable pub stands_modify : (n base old new : ℕ) → (l : List ℕ) → Bool
stands_modify n base old new l = stands n (LM base old new (le4 l 20)) l

-- the same of an LO of 1 to 15 records that bear marks and ascend
unfoldable pub stands_out : (n org dest : ℕ) → (l : List ℕ) → Bool
stands_out n org dest l =
    let k : ℕ = le2 l 16 in
    let rs : List (List ℕ) = rows_of 16 k (drop 20 l) in
    both (all (leb 1 k ∷ leb k 15 ∷ ascend_records 0 rs ∷ [])) (stands n (LO org dest rs) l)

-- the same of an LB of this unit
unfoldable pub stands_begin : (n unit : ℕ) → (l : List ℕ) → Bool
stands_begin n u l = let g : Begin = read_begin u l in both (begin_ok g) (stands n (LB g) l)

-- the same of an LG whose image may follow these
unfoldable pub stands_image : (n : ℕ) (is : List Image) → (l : List ℕ) → Bool
stands_image n is l = both (follows is (read_image l)) (stands n (LG (read_image l)) l)

-- the same of the LE of a put or delete with these images
unfoldable pub stands_last : (n unit : ℕ) (is : List Image) → (l : List ℕ) → Bool
stands_last n u is l = both (both (leb 1 (length is)) (all_bear n is)) (stands n (LE u is) l)

-- the bytes have room for the begin record at their front
pub record Whole (l : List ℕ) : Type 0 where
  pub fields : begin.fixed ≤ length l
  pub record-too : saves_at l ≡ true → length_of begin 1 ≤ length l

-- the fields that a begin record leaves unused are zero: behind its bases, behind its leaves, and its last
unfoldable pub spare_zero : (l : List ℕ) → Bool
spare_zero l =
    let b : ℕ = bases_at + 2 * get_or l base_count_at 0 in
    let c : ℕ = leaves_at + 2 * get_or l leaf_count_at 0 in
    all (all_zero (part b (leaves_at - b) l) ∷ all_zero (part c (dest_at - c) l) ∷ all_zero (part zero_at 2 l) ∷ [])
