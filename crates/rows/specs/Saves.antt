-- Document 02, no. 1, on the trees of rows 1, 8 and 10: a put that adds, a put of a first record, a delete that empties a leaf, a cut after a put's
-- begin record. What is expected is written out in bytes, as in the rows; whole pages and whole logs are compared. Assumes nothing.
use Rattle.std.specs.Prelude.{ℕ, ◌-◌, Bool, List, [], ◌∷◌, ◌++◌, length, eqb}
use Rattle.field.specs.Test.{all}
use Rattle.field.specs.Bytes.{zeroes, same}
use Rattle.store.specs.Calls.{lent, Left, recover, begin_put, begin_delete}
use Rattle.rows.specs.Rows.{two, four, recs, en, pg, leaf1, leaf2, empty_page, empties, upper, hd, lc, le, log_of, is_left, replies, steps, has_steps, all_found}
use Rattle.rows.specs.Rows.{work1, work8, work10}

-- ---- log records

-- the begin record of a put (type 4) or a delete (5): page fields zero, then the record
unfoldable pub lb_with : (number unit type : ℕ) → (r : List ℕ) → List ℕ
lb_with v u t r = hd 66 60 v 0 ++ (four u ++ (t ∷ (zeroes 27 ++ r)))

-- a whole page p, 272 bytes
unfoldable pub lg : (number p : ℕ) → (image : List ℕ) → List ℕ
lg v p image = (76 ∷ 71 ∷ 16 ∷ 1 ∷ []) ++ (four v ++ (four (v - 1) ++ (two p ++ (two 0 ++ image))))

-- ---- put 25 on row 1: leaf 8, 3 steps, 348 bytes, used 372; neither LB nor LG changes a page

unfoldable pub begun_put : Left
begun_put = begin_put (lent 24 24 work1 work1 (log_of (lc 1)) (recs (25 ∷ [])))

unfoldable pub leaf_put : List ℕ
leaf_put = pg 108 3 4 (recs (10 ∷ 20 ∷ 25 ∷ []))

unfoldable pub start_put : List ℕ
start_put = lc 1 ++ lb_with 2 1 4 (recs (25 ∷ []))

unfoldable pub rest_put : List ℕ
rest_put = lg 3 8 leaf_put ++ le 4 1

unfoldable pub log_put : List ℕ
log_put = log_of (start_put ++ rest_put)

unfoldable pub work_put : List ℕ
work_put = upper 3 0 (en 0 8 ++ (en 30 9 ++ en 50 10)) ++ (leaf_put ++ (leaf2 0 30 40 ++ (leaf2 0 50 60 ++ empties 53)))

unfoldable pub put_adds : Bool
put_adds =
    all (is_left 0 84 24 work1 work1 (log_of start_put) begun_put ∷ is_left 0 356 24 work1 work1 (log_of (start_put ++ lg 3 8 leaf_put)) (steps 1 begun_put)
    ∷ is_left 0 372 24 work_put work1 log_put (steps 2 begun_put) ∷ has_steps 3 begun_put ∷ eqb (length (start_put ++ rest_put)) 372 ∷ [])

-- ---- the same cut after its begin record: recovery appends 2 records, and all seven keys are there

unfoldable pub woken_put : Left
woken_put = recover (lent 1 2 (zeroes 16384) work1 (log_of start_put) [])

unfoldable pub put_finished : Bool
put_finished =
    all (is_left 0 372 84 work_put work1 log_put woken_put ∷ same woken_put.values (2 ∷ [])
    ∷ all_found (10 ∷ 20 ∷ 25 ∷ 30 ∷ 40 ∷ 50 ∷ 60 ∷ []) woken_put.now ∷ [])

-- ---- put 7 on row 10, where there are no records: pages 0, 1 and 8, 5 steps, 892 bytes

unfoldable pub begun_first : Left
begun_first = begin_put (lent 24 24 work10 work10 (log_of (lc 1)) (recs (7 ∷ [])))

unfoldable pub root_first : List ℕ
root_first = pg 114 1 6 (en 0 1)

unfoldable pub base_first : List ℕ
base_first = pg 98 1 6 (en 0 8)

unfoldable pub log_first : List ℕ
log_first = lc 1 ++ (lb_with 2 1 4 (recs (7 ∷ [])) ++ (lg 3 0 root_first ++ (lg 4 1 base_first ++ (lg 5 8 (leaf1 6 7) ++ le 6 1))))

unfoldable pub work_first : List ℕ
work_first = root_first ++ (base_first ++ (empties 6 ++ (leaf1 6 7 ++ empties 55)))

unfoldable pub first_saved : Bool
first_saved =
    all (is_left 0 916 24 work_first work10 (log_of log_first) (steps 4 begun_first) ∷ has_steps 5 begun_first ∷ eqb (length log_first) 916 ∷ [])

-- ---- delete 30 on row 8's tree: page 8 becomes empty and its range joins the left, 4 steps, 620 bytes; 31 is absent: 15

unfoldable pub begun_delete : Left
begun_delete = begin_delete 30 (lent 24 24 work8 work8 (log_of (lc 1)) [])

unfoldable pub base_delete : List ℕ
base_delete = pg 98 1 5 (en 0 9)

unfoldable pub log_delete : List ℕ
log_delete = lc 1 ++ (lb_with 2 1 5 ((114 ∷ 99 ∷ four 30) ++ zeroes 10) ++ (lg 3 1 base_delete ++ (lg 4 8 (empty_page 5) ++ le 5 1)))

unfoldable pub work_delete : List ℕ
work_delete = upper 1 5 (en 0 9) ++ (empty_page 5 ++ (leaf2 0 10 20 ++ empties 54))

unfoldable pub delete_empties : Bool
delete_empties =
    all (is_left 0 644 24 work_delete work8 (log_of log_delete) (steps 3 begun_delete) ∷ has_steps 4 begun_delete ∷ eqb (length log_delete) 644
    ∷ replies 15 (begin_delete 31 (lent 24 24 work8 work8 (log_of (lc 1)) [])) ∷ [])

-- ---- the list

unfoldable pub saves_to_try : List Bool
saves_to_try = put_adds ∷ put_finished ∷ first_saved ∷ delete_empties ∷ []
