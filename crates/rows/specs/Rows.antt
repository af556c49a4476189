-- Rows 1 to 10 of document 01's "Numbers to try", computed from the calls' own definitions. What is expected is written out here, page by
-- page and record by record in bytes, and not by the definitions' makers; whole pages and whole logs are compared. Assumes nothing.
use Rattle.std.specs.Prelude.{ℕ, zero, suc, ◌-◌, Bool, true, false, List, [], ◌∷◌, ◌++◌, length, eqb}
use Rattle.field.specs.Test.{both, all, given}
use Rattle.field.specs.Bytes.{zeroes, same}
use Rattle.logs.specs.Log.{read_log, at_end}
use Rattle.store.specs.Calls.{Lent, lent, Left, build, recover, begin_compact, begin_order, step, flush, force, find, list}

-- ---- bytes of pages and records; every number in these rows is below 256

-- a number in two bytes, in four
unfoldable pub two : ℕ → List ℕ
two v = v ∷ 0 ∷ []

unfoldable pub four : ℕ → List ℕ
four v = v ∷ 0 ∷ 0 ∷ 0 ∷ []

-- bytes, then zeros up to n
unfoldable pub filled_to : (n : ℕ) → List ℕ → List ℕ
filled_to n l = l ++ zeroes (n - length l)

-- ten value bytes that tell records apart
unfoldable pub value : (key : ℕ) → List ℕ
value k = k ∷ 9 ∷ 8 ∷ 7 ∷ 6 ∷ 5 ∷ 4 ∷ 3 ∷ 2 ∷ k ∷ []

unfoldable pub recs : (keys : List ℕ) → List ℕ
recs [] = []
recs (k ∷ ks) = (114 ∷ 99 ∷ four k) ++ (value k ++ recs ks)

-- an entry; p is an entry's page
unfoldable pub en : (key p : ℕ) → List ℕ
en k p = (101 ∷ 110 ∷ four k) ++ two p

-- a page: the mark's letter, entries, log number, body
unfoldable pub pg : (letter n number : ℕ) → (body : List ℕ) → List ℕ
pg c n v body = filled_to 256 ((112 ∷ c ∷ two n) ++ (four v ++ (zeroes 8 ++ body)))

unfoldable pub leaf1 : (number k : ℕ) → List ℕ
leaf1 v k = pg 108 1 v (recs (k ∷ []))

unfoldable pub leaf2 : (number k k' : ℕ) → List ℕ
leaf2 v k k' = pg 108 2 v (recs (k ∷ k' ∷ []))

unfoldable pub empty_page : (number : ℕ) → List ℕ
empty_page v = pg 101 0 v []

unfoldable pub empties : (n : ℕ) → List ℕ
empties zero = []
empties (suc n) = empty_page 0 ++ empties n

-- the root over base page 1, that page with n entries, and the six other base pages
unfoldable pub upper : (n number : ℕ) → (entries : List ℕ) → List ℕ
upper n v es = pg 114 1 0 (en 0 1) ++ (pg 98 n v es ++ empties 6)

-- log records: header, then body
unfoldable pub hd : (letter size number before : ℕ) → List ℕ
hd c n v b = (76 ∷ c ∷ two n) ++ (four v ++ four b)

unfoldable pub lc : (number : ℕ) → List ℕ
lc v = hd 67 24 v 0 ++ zeroes 12

unfoldable pub lb : (number unit type fill bases leaves : ℕ) → (pages : List ℕ) → (dest : ℕ) → List ℕ
lb v u t f b n pages d = hd 66 44 v 0 ++ (four u ++ (t ∷ f ∷ b ∷ n ∷ (filled_to 20 pages ++ (two d ++ two 0))))

unfoldable pub lo : (number size org dest n : ℕ) → (keys : List ℕ) → List ℕ
lo v z o d n ks = hd 79 z v (v - 1) ++ (two o ++ (two d ++ (two n ++ (two 0 ++ recs ks))))

unfoldable pub li : (number org dest n of : ℕ) → List ℕ
li v o d n of = hd 73 24 v (v - 1) ++ (two o ++ (two d ++ (two n ++ (two 0 ++ four of))))

unfoldable pub lm : (number base old new key new_key : ℕ) → List ℕ
lm v b o n k k' = hd 77 28 v (v - 1) ++ (two b ++ (two o ++ (two n ++ (two 0 ++ (four k ++ four k')))))

unfoldable pub le : (number unit : ℕ) → List ℕ
le v u = hd 69 16 v (v - 1) ++ four u

unfoldable pub log_of : (records : List ℕ) → List ℕ
log_of rs = filled_to 8192 rs

-- ---- states compared

-- the reply, the numbers, and whole buffers
unfoldable pub is_left : (reply used forced : ℕ) → (work store log : List ℕ) → Left → Bool
is_left r u f w s l x =
    all (eqb x.reply r ∷ eqb x.now.used u ∷ eqb x.now.forced f ∷ same x.now.work w ∷ same x.now.store s ∷ same x.now.log l ∷ [])

unfoldable pub replies : ℕ → Left → Bool
replies r x = eqb x.reply r

-- n steps after a call
unfoldable pub steps : (n : ℕ) → Left → Left
steps zero x = x
steps (suc n) x = steps n (step x.now)

-- the unit that x began has n steps in all, begin being the first: one more is refused with 10
unfoldable pub has_steps : (n : ℕ) → Left → Bool
has_steps n x = both (replies 0 (steps (n - 1) x)) (replies 10 (steps n x))

unfoldable pub lk_is : (k : ℕ) → Left → Bool
lk_is k x = given (read_log x.now.log) false (λ g. given (at_end g).lk false (eqb k))

-- every key is found, with its value
unfoldable pub all_found : (keys : List ℕ) → Lent → Bool
all_found [] d = true
all_found (k ∷ ks) d =
    let rest = all_found ks d in
    both (eqb (find k d).reply 0) (both (same (find k d).values (value k)) rest)

-- ---- row 1: build 10,20,..,60, f 2, g 30

unfoldable pub nothing : Lent
nothing = lent 0 0 (zeroes 16384) (zeroes 16384) (zeroes 8192) []

unfoldable pub six : Lent
six = lent 7 5 (zeroes 16384) (zeroes 16384) (zeroes 8192) (recs (10 ∷ 20 ∷ 30 ∷ 40 ∷ 50 ∷ 60 ∷ []))

unfoldable pub one : Left
one = build 2 30 six

unfoldable pub work1 : List ℕ
work1 = upper 3 0 (en 0 8 ++ (en 30 9 ++ en 50 10)) ++ (leaf2 0 10 20 ++ (leaf2 0 30 40 ++ (leaf2 0 50 60 ++ empties 53)))

unfoldable pub row1 : Bool
row1 = is_left 0 24 24 work1 work1 (log_of (lc 1)) one

-- ---- row 2: compact F 4: leaves 8, 9 in place, 5 steps, 164 bytes, used 188, LK 40

unfoldable pub begun2 : Left
begun2 = begin_compact 4 one.now

unfoldable pub two2 : Left
two2 = steps 4 begun2

unfoldable pub records2 : List ℕ
records2 =
    lb 2 1 1 4 1 2 (two 1 ++ (two 0 ++ (two 8 ++ two 9))) 8
    ++ (lo 3 52 9 8 2 (30 ∷ 40 ∷ []) ++ (li 4 9 8 2 3 ++ (lm 5 1 9 0 30 0 ++ le 6 1)))

unfoldable pub work2 : List ℕ
work2 = upper 2 5 (en 0 8 ++ en 50 10) ++ (pg 108 4 4 (recs (10 ∷ 20 ∷ 30 ∷ 40 ∷ [])) ++ (empty_page 3 ++ (leaf2 0 50 60 ++ empties 53)))

unfoldable pub log2 : List ℕ
log2 = log_of (lc 1 ++ records2)

unfoldable pub row2 : Bool
row2 = all (is_left 0 188 24 work2 work1 log2 two2 ∷ has_steps 5 begun2 ∷ eqb (length records2) 164 ∷ lk_is 40 two2 ∷ [])

-- ---- row 3: F 6: three leaves, 8 steps, 268 bytes

unfoldable pub begun3 : Left
begun3 = begin_compact 6 one.now

unfoldable pub records3 : List ℕ
records3 =
    lb 2 1 1 6 1 3 (two 1 ++ (two 0 ++ (two 8 ++ (two 9 ++ two 10)))) 8
    ++ (lo 3 52 9 8 2 (30 ∷ 40 ∷ []) ++ (li 4 9 8 2 3 ++ (lo 5 52 10 8 2 (50 ∷ 60 ∷ []) ++ (li 6 10 8 2 5
    ++ (lm 7 1 9 0 30 0 ++ (lm 8 1 10 0 50 0 ++ le 9 1))))))

unfoldable pub work3 : List ℕ
work3 =
    upper 1 8 (en 0 8)
    ++ (pg 108 6 6 (recs (10 ∷ 20 ∷ 30 ∷ 40 ∷ 50 ∷ 60 ∷ [])) ++ (empty_page 3 ++ (empty_page 5 ++ empties 53)))

unfoldable pub row3 : Bool
row3 =
    all (is_left 0 292 24 work3 work1 (log_of (lc 1 ++ records3)) (steps 7 begun3) ∷ has_steps 8 begun3 ∷ eqb (length records3) 268 ∷ [])

-- ---- row 4: after 2, F 4 again: 11

unfoldable pub row4 : Bool
row4 = is_left 11 188 24 work2 work1 log2 (begin_compact 4 two2.now)

-- ---- row 5: after 2, order: 10 moves to 9, used 352

unfoldable pub begun5 : Left
begun5 = begin_order two2.now

unfoldable pub five : Left
five = steps 4 begun5

unfoldable pub records5 : List ℕ
records5 =
    lb 7 2 3 0 1 1 (two 1 ++ (two 0 ++ two 10)) 9
    ++ (lo 8 52 10 9 2 (50 ∷ 60 ∷ []) ++ (li 9 10 9 2 8 ++ (lm 10 1 10 9 50 50 ++ le 11 2)))

unfoldable pub work5 : List ℕ
work5 =
    upper 2 10 (en 0 8 ++ en 50 9)
    ++ (pg 108 4 4 (recs (10 ∷ 20 ∷ 30 ∷ 40 ∷ [])) ++ (leaf2 9 50 60 ++ (empty_page 8 ++ empties 53)))

unfoldable pub row5 : Bool
row5 = both (is_left 0 352 24 work5 work1 (log_of (lc 1 ++ (records2 ++ records5))) five) (has_steps 5 begun5)

-- ---- row 6: after the first LO of 2 unforced (last forced 2), flush 9: 13; after force: 0

-- forced after LB, then the LO
unfoldable pub unforced : Left
unforced = step (force begun2.now).now

unfoldable pub forced6 : Left
forced6 = force unforced.now

unfoldable pub flushed : Left
flushed = flush 9 forced6.now

unfoldable pub work6 : List ℕ
work6 = upper 3 0 (en 0 8 ++ (en 30 9 ++ en 50 10)) ++ (leaf2 0 10 20 ++ (empty_page 3 ++ (leaf2 0 50 60 ++ empties 53)))

unfoldable pub log6 : List ℕ
log6 = log_of (lc 1 ++ (lb 2 1 1 4 1 2 (two 1 ++ (two 0 ++ (two 8 ++ two 9))) 8 ++ lo 3 52 9 8 2 (30 ∷ 40 ∷ [])))

unfoldable pub row6 : Bool
row6 =
    all (is_left 0 120 68 work6 work1 log6 unforced ∷ is_left 13 120 68 work6 work1 log6 (flush 9 unforced.now)
    ∷ is_left 0 120 120 work6 work1 log6 forced6 ∷ is_left 0 120 120 work6 work6 log6 flushed ∷ [])

-- ---- row 7: then cut: recovery appends 3 records and all six keys are there

-- the work pages and the numbers are lost
unfoldable pub cut : Lent
cut = lent 1 2 (zeroes 16384) flushed.now.store flushed.now.log []

unfoldable pub seven : Left
seven = recover cut

unfoldable pub row7 : Bool
row7 =
    all (is_left 0 188 120 work2 work6 log2 seven ∷ same seven.values (3 ∷ []) ∷ all_found (10 ∷ 20 ∷ 30 ∷ 40 ∷ 50 ∷ 60 ∷ []) seven.now ∷ [])

-- ---- row 8: leaf (10,20) on 9, (30) on 8: swap, 8 steps, 252 bytes

unfoldable pub work8 : List ℕ
work8 = upper 2 0 (en 0 9 ++ en 30 8) ++ (leaf1 0 30 ++ (leaf2 0 10 20 ++ empties 54))

unfoldable pub begun8 : Left
begun8 = begin_order (lent 24 24 work8 work8 (log_of (lc 1)) [])

unfoldable pub records8 : List ℕ
records8 =
    lb 2 1 2 0 1 2 (two 1 ++ (two 0 ++ (two 8 ++ two 9))) 0
    ++ (lo 3 36 8 9 1 (30 ∷ []) ++ (lo 4 52 9 8 2 (10 ∷ 20 ∷ []) ++ (li 5 9 8 2 4 ++ (li 6 8 9 1 3
    ++ (lm 7 1 9 8 0 0 ++ (lm 8 1 8 9 30 30 ++ le 9 1))))))

unfoldable pub swapped : List ℕ
swapped = upper 2 8 (en 0 8 ++ en 30 9) ++ (leaf2 5 10 20 ++ (leaf1 6 30 ++ empties 54))

unfoldable pub row8 : Bool
row8 =
    all (is_left 0 276 24 swapped work8 (log_of (lc 1 ++ records8)) (steps 7 begun8) ∷ has_steps 8 begun8 ∷ eqb (length records8) 252 ∷ [])

-- ---- row 9: two leaves of two on 11, 12, with 8..10 empty, F 4: destination 8, 8 steps, 268 bytes

unfoldable pub work9 : List ℕ
work9 = upper 2 0 (en 0 11 ++ en 30 12) ++ (empties 3 ++ (leaf2 0 10 20 ++ (leaf2 0 30 40 ++ empties 51)))

unfoldable pub begun9 : Left
begun9 = begin_compact 4 (lent 24 24 work9 work9 (log_of (lc 1)) [])

unfoldable pub records9 : List ℕ
records9 =
    lb 2 1 1 4 1 2 (two 1 ++ (two 0 ++ (two 11 ++ two 12))) 8
    ++ (lo 3 52 11 8 2 (10 ∷ 20 ∷ []) ++ (li 4 11 8 2 3 ++ (lo 5 52 12 8 2 (30 ∷ 40 ∷ []) ++ (li 6 12 8 2 5
    ++ (lm 7 1 11 8 0 0 ++ (lm 8 1 12 0 30 0 ++ le 9 1))))))

unfoldable pub packed : List ℕ
packed =
    upper 1 8 (en 0 8)
    ++ (pg 108 4 6 (recs (10 ∷ 20 ∷ 30 ∷ 40 ∷ [])) ++ (empties 2 ++ (empty_page 3 ++ (empty_page 5 ++ empties 51))))

unfoldable pub row9 : Bool
row9 =
    all (is_left 0 292 24 packed work9 (log_of (lc 1 ++ records9)) (steps 7 begun9) ∷ has_steps 8 begun9 ∷ eqb (length records9) 268 ∷ [])

-- ---- row 10: no records: find gives 15, begin 11, list none

unfoldable pub none10 : Left
none10 = build 2 30 nothing

unfoldable pub work10 : List ℕ
work10 = pg 114 0 0 [] ++ empties 63

unfoldable pub unchanged : (reply : ℕ) → Left → Bool
unchanged r x = is_left r 24 24 work10 work10 (log_of (lc 1)) x

unfoldable pub listed10 : Left
listed10 = list 0 4294967295 (lent 24 24 work10 work10 (log_of (lc 1)) (7 ∷ 7 ∷ []))

unfoldable pub row10 : Bool
row10 =
    all (unchanged 0 none10 ∷ unchanged 15 (find 10 none10.now) ∷ same (find 10 none10.now).values (zeroes 10)
    ∷ unchanged 11 (begin_compact 4 none10.now) ∷ unchanged 11 (begin_order none10.now) ∷ unchanged 0 listed10 ∷ same listed10.values (0 ∷ 0 ∷ [])
    ∷ same listed10.now.bytes (7 ∷ 7 ∷ []) ∷ [])

-- ---- the list

unfoldable pub numbers_to_try : List Bool
numbers_to_try = row1 ∷ row2 ∷ row3 ∷ row4 ∷ row5 ∷ row6 ∷ row7 ∷ row8 ∷ row9 ∷ row10 ∷ []
