-- The ten calls of document 01, and put and delete of document 02, no. 1: each a function from what it is lent and its arguments to what it
-- leaves, so that its value depends on nothing else. The tests stand in the order of the table "Order of tests", each with the reply that it gives. Assumes nothing.
use Rattle.std.specs.Prelude.{ℕ, ◌+◌, ◌-◌, ◌%◌, ◌/◌, Bool, true, false, not, List, [], ◌∷◌, ◌++◌, length, take, eqb, leb, ltb}
use Rattle.std.proofs.Math.Option.{Option, some, none}
use Rattle.field.specs.Test.{both, all, pick, need, given, when, bind, there}
use Rattle.field.specs.Bytes.{put, zeroes, bytes4, same, most4}
use Rattle.page.specs.Page.{rows_of, ascend_records, number, base_pages, leaf_pages, formed}
use Rattle.page.specs.Pages.{page, put_page, pages, all_formed}
use Rattle.logs.specs.Record.{Check, Begin, saves, Rec, LB, size, sizes, encode_check, encode}
use Rattle.logs.specs.Write.{save_of}
use Rattle.logs.specs.Plan.{Step, plan}
use Rattle.logs.specs.Log.{Open, State, after, Log, read_log, at_end, last_forced}
use Rattle.tree.specs.Tree.{well_formed}
use Rattle.tree.specs.Answer.{Found, missing, found, look_up, in_bounds, written, count_written, more_remain}
use Rattle.tree.specs.Layout.{leaf_groups, base_groups, layout}
use Rattle.unit.specs.Choice.{compact_unit, order_unit}
use Rattle.unit.specs.Next.{apply, repeat_all, target_of, page_of, next_rec, room}
use Rattle.saving.specs.Rest.{Rest, refuses, lacks, rest_of}

-- ---- what is lent and what is left

-- the two numbers, bytes used and bytes forced; work pages, store pages, log; build's records or list's room.
-- A buffer that a call is not lent is [] here
pub record Lent : Type 0 where
  pub used : ℕ
  pub forced : ℕ
  pub work : List ℕ
  pub store : List ℕ
  pub log : List ℕ
  pub bytes : List ℕ

abbrev pub lent : (used forced : ℕ) (work store log bytes : List ℕ) → Lent
lent u f w s l b = record { used = u; forced = f; work = w; store = s; log = l; bytes = b }

-- the reply; what the call returns beside it: find ten bytes, list its count and whether more remain (1 or 0), recovery its count,
-- others nothing; and all that it was lent, as it stands afterwards
pub record Left : Type 0 where
  pub reply : ℕ
  pub values : List ℕ
  pub now : Lent

abbrev pub left : (reply : ℕ) (values : List ℕ) (now : Lent) → Left
left r v d = record { reply = r; values = v; now = d }

-- "A refusal returns zeros beside its number and changes nothing": k values
unfoldable pub refused : (k reply : ℕ) → Lent → Left
refused k r d = left r (zeroes k) d

-- the lengths that buffers must have
abbrev pub pages_length : ℕ
pages_length = 16384

abbrev pub log_length : ℕ
log_length = 8192

unfoldable pub pages_sized : List ℕ → Bool
pages_sized w = eqb (length w) pages_length

unfoldable pub log_sized : List ℕ → Bool
log_sized l = eqb (length l) log_length

-- reply 1 of the calls that are lent work, store and log; work and log
unfoldable pub three_sized : Lent → Bool
three_sized d = all (pages_sized d.work ∷ pages_sized d.store ∷ log_sized d.log ∷ [])

unfoldable pub two_sized : Lent → Bool
two_sized d = both (pages_sized d.work) (log_sized d.log)

-- reply 2 of every call but build and recovery: the log in form, used at its end, forced at a record's end
-- (which is then neither below 24 nor above used)
unfoldable pub known : Lent → Option Log
known d =
    bind (read_log d.log) (λ g.
    when (both (eqb d.used (at_end g).at) (there (last_forced d.forced g))) g)

-- a new log: one check record, then zeros
unfoldable pub new_log : Check → List ℕ
new_log c = encode_check c ++ zeroes (log_length - length (encode_check c))

-- ---- build

unfoldable pub build : (f g : ℕ) → Lent → Left
build f g d =
    let rs : List (List ℕ) = rows_of 16 (length d.bytes / 16) d.bytes in
    let w : List ℕ = layout f g rs in
    need (three_sized d) (refused 0 1 d)
    (need (all (leb 1 f ∷ leb f 15 ∷ leb 1 g ∷ leb g 30 ∷ eqb (length d.bytes % 16) 0 ∷ [])) (refused 0 12 d)
    (need (ascend_records 0 rs) (refused 0 16 d)
    (need (both (leb (length (leaf_groups f rs)) leaf_pages) (leb (length (base_groups f g rs)) base_pages)) (refused 0 17 d)
    (left 0 [] (lent 24 24 w w (new_log (record { number = 1; unit = 0; lk = none })) d.bytes)))))

-- ---- a step, and recovery's finishing

-- where records appended one after the other have led: stopped by a reply, or to a state of the log, the work pages and the log
pub data Went : Type 0 where
  stopped : (reply : ℕ) → Went
  went : (s : State) (w l : List ℕ) → Went

unfoldable pub and_then : Went → (State → List ℕ → List ℕ → Went) → Went
and_then (stopped r) next = stopped r
and_then (went s w l) next = next s w l

unfoldable pub did_of : Option Open → List Rec
did_of none = []
did_of (some o) = o.did

-- one record appended, the pages being w after it: the log's state then, and the record's bytes put at the log's end
abbrev pub logged : (s : State) → Rec → (w l : List ℕ) → Went
logged s r w l = went (after s r) w (put s.at (encode (s.number + 1) r) l)

-- "One step appends one record and makes its page change": tests 5, 6 and 7. The open unit's steps to come are x, then xs
unfoldable pub append : (x : Step) (xs : List Step) → (s : State) (w l : List ℕ) → Went
append x xs s w l =
    given (next_rec x (did_of s.opened) (page_of (target_of x) w)) (stopped 5) (λ r.
    given (apply (s.number + 1) r w) (stopped 5) (λ w'.
    need (leb (s.at + room w (x ∷ xs)) log_length) (stopped 6)
    (need (leb (s.number + 1) most4) (stopped 7)
    (logged s r w' l))))

-- records appended one after the other, each with its page changes
unfoldable pub append_all : (rs : List Rec) → (s : State) (w l : List ℕ) → Went
append_all [] s w l = went s w l
append_all (r ∷ rs) s w l =
    given (apply (s.number + 1) r w) (stopped 5) (λ w'. and_then (logged s r w' l) (append_all rs))

-- the first k of the records that the open unit lacks: tests 6 and 7, for all of them
unfoldable pub conclude : (k : ℕ) → Rest → (s : State) (w l : List ℕ) → Went
conclude k (refuses reply) s w l = stopped reply
conclude k (lacks rs) s w l =
    need (leb (s.at + sizes rs) log_length) (stopped 6)
    (need (leb (s.number + length rs) most4) (stopped 7)
    (append_all (take k rs) s w l))

-- how many they are
unfoldable pub rest_long : Rest → ℕ
rest_long (refuses reply) = 0
rest_long (lacks rs) = length rs

-- what an open put or delete lacks; its LB stands before the records since
unfoldable pub lacked_by : Open → (s : State) (w : List ℕ) → Rest
lacked_by o s w = rest_of o.start (s.number - length o.did) o.did w

-- reply 3 of a step: the changed page
unfoldable pub formed_at : Option ℕ → (w : List ℕ) → Bool
formed_at none w = true
formed_at (some p) w = formed p (page p w)

-- an open unit always has a step to come
unfoldable pub step_with : (todo : List Step) → (s : State) (w l : List ℕ) → Went
step_with [] s w l = stopped 10
step_with (x ∷ xs) s w l = need (formed_at (target_of x) w) (stopped 3) (append x xs s w l)

-- a put's or delete's step appends the first record that it lacks
unfoldable pub step_open : Open → (s : State) (w l : List ℕ) → Went
step_open o s w l = pick (saves o.start) (conclude 1 (lacked_by o s w) s w l) (step_with o.todo s w l)

unfoldable pub stepped : Lent → Went → Left
stepped d (stopped r) = refused 0 r d
stepped d (went s w l) = left 0 [] (lent s.at d.forced w d.store l d.bytes)

unfoldable pub step : Lent → Left
step d =
    need (two_sized d) (refused 0 1 d)
    (given (known d) (refused 0 2 d) (λ g.
    given (at_end g).opened (refused 0 10 d) (λ o.
    stepped d (step_open o (at_end g) d.work d.log))))

-- ---- recovery

-- "but a refused recovery past test 1 zeroes all work pages; its log and numbers stay"
unfoldable pub zeroed : (reply : ℕ) → Lent → Left
zeroed r d = left r (zeroes 1) (lent d.used d.forced (zeroes pages_length) d.store d.log d.bytes)

-- reply 4: a page's number exceeds the log's last
unfoldable pub none_newer : (last : ℕ) → List (List ℕ) → Bool
none_newer last [] = true
none_newer last (pg ∷ pgs) = let rest = none_newer last pgs in both (leb (number pg) last) rest

-- "finishes an open unit": the steps still to come
unfoldable pub finish : (todo : List Step) → (s : State) (w l : List ℕ) → Went
finish [] s w l = went s w l
finish (x ∷ xs) s w l = and_then (append x xs s w l) (finish xs)

-- a put or delete appends all that it lacks; an LG changes no page, so each of its steps would find the same pages and the same records
unfoldable pub finish_open : Option Open → (s : State) (w l : List ℕ) → Went
finish_open none s w l = went s w l
finish_open (some o) s w l =
    let rest : Rest = lacked_by o s w in
    pick (saves o.start) (conclude (rest_long rest) rest s w l) (finish o.todo s w l)

-- "It forces the log as found and sets forced to that end, used to the end after finishing, and returns the count of records appended";
-- s is the log's end as found
unfoldable pub recovered : Lent → (s : State) → Went → Left
recovered d s (stopped r) = zeroed r d
recovered d s (went s' w l) =
    need (well_formed (pages w)) (zeroed 8 d)
    (left 0 ((s'.number - s.number) ∷ []) (lent s'.at s.at w d.store l d.bytes))

unfoldable pub recover : Lent → Left
recover d =
    need (three_sized d) (refused 1 1 d)
    (given (read_log d.log) (zeroed 2 d) (λ g.
    need (all_formed 0 (pages d.store)) (zeroed 3 d)
    (need (none_newer (at_end g).number (pages d.store)) (zeroed 4 d)
    (given (repeat_all (g.top.number + 1) g.recs d.store) (zeroed 5 d) (λ w.
    recovered d (at_end g) (finish_open (at_end g).opened (at_end g) w d.log))))))

-- ---- begin

-- "Begin is the unit's first step, the LB": tests 6 and 7, for the whole unit, of which `many` records of `long` bytes follow the LB; it changes
-- no page
unfoldable pub begun_with : Lent → (s : State) → Begin → (long many : ℕ) → Left
begun_with d s b long many =
    need (leb (s.at + (size (LB b) + long)) log_length) (refused 0 6 d)
    (need (both (leb (s.number + (1 + many)) most4) (leb b.unit most4)) (refused 0 7 d)
    (stepped d (logged s (LB b) d.work d.log)))

unfoldable pub begun : Lent → (s : State) → Begin → Left
begun d s b = begun_with d s b (room d.work (plan b)) (length (plan b))

-- what both have in common: tests 9, 3, 8, 11, then 6 and 7. The unit is chosen for this unit number, over these pages
unfoldable pub begin_with : Lent → (s : State) → (choose : (unit : ℕ) → List (List ℕ) → Option Begin) → Left
begin_with d s choose =
    need (not (there s.opened)) (refused 0 9 d)
    (need (all_formed 0 (pages d.work)) (refused 0 3 d)
    (need (well_formed (pages d.work)) (refused 0 8 d)
    (given (choose (s.unit + 1) (pages d.work)) (refused 0 11 d) (begun d s))))

unfoldable pub begin_compact : (fill : ℕ) → Lent → Left
begin_compact fill d =
    need (two_sized d) (refused 0 1 d)
    (given (known d) (refused 0 2 d) (λ g.
    need (leb fill 15) (refused 0 12 d)
    (begin_with d (at_end g) (λ unit ps. compact_unit unit fill (at_end g).lk ps))))

unfoldable pub begin_order : Lent → Left
begin_order d =
    need (two_sized d) (refused 0 1 d)
    (given (known d) (refused 0 2 d) (λ g.
    begin_with d (at_end g) order_unit))

-- ---- put, delete

-- "delete: value zero"
unfoldable pub deleting : (key : ℕ) → List ℕ
deleting key = 114 ∷ 99 ∷ (bytes4 key ++ zeroes 10)

-- the whole unit's room and numbers, once its pages are worked out
unfoldable pub saving_all : Lent → (s : State) → Begin → Rest → Left
saving_all d s b (refuses reply) = refused 0 reply d
saving_all d s b (lacks rs) = begun_with d s b (sizes rs) (length rs)

-- tests 9, 3, 8, 18 or 15, 6 and 7
unfoldable pub begin_save : Lent → (s : State) → Begin → Left
begin_save d s b = need (not (there s.opened)) (refused 0 9 d) (saving_all d s b (rest_of b (s.number + 1) [] d.work))

-- the record is the lent bytes
unfoldable pub begin_put : Lent → Left
begin_put d =
    need (two_sized d) (refused 0 1 d)
    (given (known d) (refused 0 2 d) (λ g.
    need (eqb (length d.bytes) 16) (refused 0 12 d)
    (need (ascend_records 0 (d.bytes ∷ [])) (refused 0 16 d)
    (begin_save d (at_end g) (save_of ((at_end g).unit + 1) 4 d.bytes)))))

unfoldable pub begin_delete : (key : ℕ) → Lent → Left
begin_delete key d =
    need (two_sized d) (refused 0 1 d)
    (given (known d) (refused 0 2 d) (λ g.
    begin_save d (at_end g) (save_of ((at_end g).unit + 1) 5 (deleting key))))

-- ---- flush, force, checkpoint

-- "Flush copies one work page to the store"; 13: the page's number exceeds the last forced record's
unfoldable pub flush : (p : ℕ) → Lent → Left
flush p d =
    need (three_sized d) (refused 0 1 d)
    (given (known d) (refused 0 2 d) (λ g.
    need (ltb p 64) (refused 0 12 d)
    (need (given (last_forced d.forced g) false (leb (number (page p d.work)))) (refused 0 13 d)
    (left 0 [] (lent d.used d.forced d.work (put_page p (page p d.work) d.store) d.log d.bytes)))))

-- "Force sets forced to used"
unfoldable pub force : Lent → Left
force d =
    need (log_sized d.log) (refused 0 1 d)
    (given (known d) (refused 0 2 d) (λ g.
    left 0 [] (lent d.used d.used d.work d.store d.log d.bytes)))

-- "Checkpoint replaces the log by one check record with the next number, keeping or, if told, clearing LK"
unfoldable pub checkpointed : (clear : Bool) → (s : State) → Check
checkpointed clear s = record { number = s.number + 1; unit = s.unit; lk = pick clear none s.lk }

unfoldable pub checkpoint : (clear : Bool) → Lent → Left
checkpoint clear d =
    need (three_sized d) (refused 0 1 d)
    (given (known d) (refused 0 2 d) (λ g.
    need (not (there (at_end g).opened)) (refused 0 9 d)
    (need (same d.work d.store) (refused 0 14 d)
    (need (leb ((at_end g).number + 1) most4) (refused 0 7 d)
    (left 0 [] (lent 24 24 d.work d.store (new_log (checkpointed clear (at_end g))) d.bytes))))))

-- ---- find, list

unfoldable pub answered : Lent → Found → Left
answered d (missing r) = refused 10 r d
answered d (found v) = left 0 v d

unfoldable pub find : (key : ℕ) → Lent → Left
find key d =
    need (two_sized d) (refused 10 1 d)
    (given (known d) (refused 10 2 d) (λ g.
    need (not (there (at_end g).opened)) (refused 10 9 d)
    (answered d (look_up key d.work))))

unfoldable pub list : (low high : ℕ) → Lent → Left
list low high d =
    let rs : List (List ℕ) = in_bounds low high d.work in
    need (two_sized d) (refused 2 1 d)
    (given (known d) (refused 2 2 d) (λ g.
    need (not (there (at_end g).opened)) (refused 2 9 d)
    (need (all_formed 0 (pages d.work)) (refused 2 3 d)
    (need (well_formed (pages d.work)) (refused 2 8 d)
    (left 0 (count_written rs d.bytes ∷ more_remain rs d.bytes ∷ [])
    (lent d.used d.forced d.work d.store d.log (written rs d.bytes)))))))
