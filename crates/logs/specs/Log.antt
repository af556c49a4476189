-- Document 01, "Log form": "A log is one LC, then whole units numbered one above the last, the final one perhaps cut short; all bytes
-- after are zero." A record is read by filling the step that must come next with the bytes that the step leaves free (LO's records,
-- LM's key; in a put or delete an LG's page and image) and comparing all of the record's bytes with those that would have been written: so
-- every mark, length, number, page and zero field is tested at once. Assumes nothing.
use Rattle.std.specs.Prelude.{ℕ, zero, suc, ◌+◌, ◌-◌, Bool, true, false, not, List, [], ◌∷◌, ◌++◌, length, drop, get_or, eqb, leb}
use Rattle.std.proofs.Math.Option.{Option, some, none}
use Rattle.field.specs.Test.{both, all, pick, given, when, bind}
use Rattle.field.specs.Bytes.{part, all_zero, starts, le2, le4, most4}
use Rattle.page.specs.Page.{rows_of, key_of, ascend_records, number, first_base, last_base, first_leaf, last_leaf, formed}
use Rattle.logs.specs.Record.{begin, type_at, fill_at, base_count_at, leaf_count_at, bases_at, leaves_at, dest_at}
use Rattle.logs.specs.Record.{check, image, length_of, Check, Begin, saves, Image, Rec, LB, LO, LI, LM, LG, LE, outs, size, encode_check, encode, encode_all}
use Rattle.logs.specs.Plan.{Step, take_out, bring_in, point, close, plan}

-- ---- what is known after a record

-- the open unit: its begin record, its records since (the latest first), the steps still to come
pub record Open : Type 0 where
  pub start : Begin
  pub did : List Rec
  pub todo : List Step

-- the log's end, its last log number, the last unit that ended or that the check record names, LK, the open unit
pub record State : Type 0 where
  pub at : ℕ
  pub number : ℕ
  pub unit : ℕ
  pub lk : Option ℕ
  pub opened : Option Open

-- after the check record
unfoldable pub first : Check → State
first c = record { at = length_of check 0; number = c.number; unit = c.unit; lk = c.lk; opened = none }

-- the largest key of rows, at least m; and of all records that a unit's LOs carried
unfoldable pub largest : (m : ℕ) → List (List ℕ) → ℕ
largest m [] = m
largest m (r ∷ rs) = largest (pick (leb m (key_of r)) (key_of r) m) rs

unfoldable pub largest_moved : (m : ℕ) → List Rec → ℕ
largest_moved m [] = m
largest_moved m (r ∷ did) = largest_moved (largest m (outs r)) did

-- "LK is the check record's, or the largest key moved by the last ended compact unit": LK after the unit has ended
unfoldable pub lk_ended : (lk : Option ℕ) → Open → Option ℕ
lk_ended lk o = pick (eqb o.start.type 1) (some (largest_moved 0 o.did)) lk

-- the open unit with one record more, which was the first step of those to come
unfoldable pub going : Rec → Open → Open
going r o = record { start = o.start; did = r ∷ o.did; todo = drop 1 o.todo }

-- the open unit with one record more that was no planned step: an LG
unfoldable pub noting : Rec → Open → Open
noting r o = record { start = o.start; did = r ∷ o.did; todo = o.todo }

-- LB opens a unit, LE ends it
unfoldable pub opened_by : Rec → Option Open → Option Open
opened_by (LB g) o = some (record { start = g; did = []; todo = plan g })
opened_by (LO org dest rs) o = bind o (λ x. some (going (LO org dest rs) x))
opened_by (LI org dest back rs) o = bind o (λ x. some (going (LI org dest back rs) x))
opened_by (LM base old new key) o = bind o (λ x. some (going (LM base old new key) x))
opened_by (LG i) o = bind o (λ x. some (noting (LG i) x))
opened_by (LE unit images) o = none

unfoldable pub lk_by : Rec → (lk : Option ℕ) → Option Open → Option ℕ
lk_by (LB g) lk o = lk
lk_by (LO org dest rs) lk o = lk
lk_by (LI org dest back rs) lk o = lk
lk_by (LM base old new key) lk o = lk
lk_by (LG i) lk o = lk
lk_by (LE unit images) lk o = given o lk (lk_ended lk)

unfoldable pub unit_by : Rec → (unit : ℕ) → ℕ
unit_by (LB g) u = g.unit
unit_by (LO org dest rs) u = u
unit_by (LI org dest back rs) u = u
unit_by (LM base old new key) u = u
unit_by (LG i) u = u
unit_by (LE unit images) u = u

-- after the record r
unfoldable pub after : State → Rec → State
after s r =
    record {
      at = s.at + size r;
      number = s.number + 1;
      unit = unit_by r s.unit;
      lk = lk_by r s.lk s.opened;
      opened = opened_by r s.opened;
    }

-- after all of these records
unfoldable pub after_all : State → List Rec → State
after_all s [] = s
after_all s (r ∷ rs) = after_all (after s r) rs

-- ---- a begin record

-- every page lies in from .. to
unfoldable pub within : (from to : ℕ) → List ℕ → Bool
within from to [] = true
within from to (p ∷ ps) = let rest = within from to ps in both (leb from p) (both (leb p to) rest)

-- they are base pages, they are leaf pages
abbrev pub on_bases : List ℕ → Bool
on_bases ps = within first_base last_base ps

abbrev pub on_leaves : List ℕ → Bool
on_leaves ps = within first_leaf last_leaf ps

unfoldable pub listed : (p : ℕ) → List ℕ → Bool
listed p [] = false
listed p (q ∷ qs) = let rest = listed p qs in pick (eqb p q) true rest

unfoldable pub differ : List ℕ → Bool
differ [] = true
differ (p ∷ ps) = let rest = differ ps in both (not (listed p ps)) rest

-- a compact lists 2 to 8 leaves and one base, fill 1..15; its destination is the first listed or unlisted
unfoldable pub compact_ok : Begin → Bool
compact_ok g =
    all (eqb (length g.bases) 1 ∷ leb 2 (length g.leaves) ∷ leb (length g.leaves) 8 ∷ leb 1 g.fill ∷ leb g.fill 15
    ∷ on_leaves (g.dest ∷ []) ∷ pick (eqb g.dest (get_or g.leaves 0 0)) true (not (listed g.dest g.leaves)) ∷ [])

-- a swap lists two leaves and one base or two, no fill, destination 0
unfoldable pub swap_ok : Begin → Bool
swap_ok g = all (leb 1 (length g.bases) ∷ leb (length g.bases) 2 ∷ eqb (length g.leaves) 2 ∷ eqb g.fill 0 ∷ eqb g.dest 0 ∷ [])

-- a move lists one leaf and one base, no fill; its destination is another leaf page
unfoldable pub move_ok : Begin → Bool
move_ok g =
    all (eqb (length g.bases) 1 ∷ eqb (length g.leaves) 1 ∷ eqb g.fill 0 ∷ on_leaves (g.dest ∷ []) ∷ not (listed g.dest g.leaves) ∷ [])

-- the record of a put bears its mark; that of a delete has no value
unfoldable pub carries_ok : (type : ℕ) → List (List ℕ) → Bool
carries_ok t rs = both (ascend_records 0 rs) (pick (eqb t 5) (all_zero (drop 6 (get_or rs 0 []))) true)

-- a put or delete lists nothing
unfoldable pub save_ok : Begin → Bool
save_ok g =
    all (leb g.type 5 ∷ eqb (length g.bases) 0 ∷ eqb (length g.leaves) 0 ∷ eqb g.fill 0 ∷ eqb g.dest 0 ∷ carries_ok g.type g.saved ∷ [])

unfoldable pub type_ok : Begin → Bool
type_ok g =
    pick (eqb g.type 1) (compact_ok g) (pick (eqb g.type 2) (swap_ok g) (pick (saves g) (save_ok g) (both (eqb g.type 3) (move_ok g))))

-- listed pages keep to their regions and differ; one record is carried, or none
unfoldable pub begin_ok : Begin → Bool
begin_ok g =
    all (leb g.unit most4 ∷ type_ok g ∷ on_bases g.bases ∷ differ g.bases ∷ on_leaves g.leaves ∷ differ g.leaves
    ∷ eqb (length g.saved) (pick (saves g) 1 0) ∷ [])

-- ---- a record read: what the bytes l say, and then whether they say just that

-- n numbers of two bytes
unfoldable pub read_fields : (n : ℕ) → List ℕ → List ℕ
read_fields zero l = []
read_fields (suc n) l = le2 l 0 ∷ read_fields n (drop 2 l)

-- the begin record at the front of l is a put's or a delete's
unfoldable pub saves_at : (l : List ℕ) → Bool
saves_at l = leb 4 (get_or l type_at 0)

-- the begin record of this unit
unfoldable pub read_begin : (unit : ℕ) → List ℕ → Begin
read_begin u l =
    record {
      unit = u;
      type = get_or l type_at 0;
      fill = get_or l fill_at 0;
      bases = read_fields (get_or l base_count_at 0) (drop bases_at l);
      leaves = read_fields (get_or l leaf_count_at 0) (drop leaves_at l);
      dest = le2 l dest_at;
      saved = pick (saves_at l) (part begin.fixed begin.each l ∷ []) [];
    }

-- the records of the LO that stands `back` records before; did has the latest first
unfoldable pub taken : (back : ℕ) → List Rec → List (List ℕ)
taken back did = outs (get_or did (back - 1) (LE 0 []))

-- the record of a planned step: LO's records, 1 to 15 that bear marks and ascend, and LM's key are read off l
unfoldable pub planned : Step → (did : List Rec) → (l : List ℕ) → Option Rec
planned (take_out org dest) did l =
    let k : ℕ = le2 l 16 in
    let rs : List (List ℕ) = rows_of 16 k (drop 20 l) in
    when (all (leb 1 k ∷ leb k 15 ∷ ascend_records 0 rs ∷ [])) (LO org dest rs)
planned (bring_in org dest back) did l = some (LI org dest back (taken back did))
planned (point base old new other) did l = some (LM base old new (le4 l 20))
planned (close unit) did l = some (LE unit [])

unfoldable pub planned_first : List Step → (did : List Rec) → (l : List ℕ) → Option Rec
planned_first [] did l = none
planned_first (x ∷ xs) did l = planned x did l

-- the images of a unit's LGs, in the log's order; did has the latest first, and those of `more` come behind
unfoldable pub images_of : (did : List Rec) → (more : List Image) → List Image
images_of [] more = more
images_of (LB g ∷ did) more = images_of did more
images_of (LO org dest rs ∷ did) more = images_of did more
images_of (LI org dest back rs ∷ did) more = images_of did more
images_of (LM base old new key ∷ did) more = images_of did more
images_of (LG i ∷ did) more = images_of did (i ∷ more)
images_of (LE unit images ∷ did) more = images_of did more

-- the least page whose image may follow these: one above the last one's, p where there is none
unfoldable pub past : (p : ℕ) → List Image → ℕ
past p [] = p
past p (i ∷ is) = past (i.at + 1) is

-- "Images bear LE's number"
unfoldable pub all_bear : (n : ℕ) → List Image → Bool
all_bear n [] = true
all_bear n (i ∷ is) = let rest = all_bear n is in both (eqb (number i.bytes) n) rest

-- the image of the LG at the front of l
unfoldable pub read_image : (l : List ℕ) → Image
read_image l = record { at = le2 l 12; bytes = part image.fixed image.each l }

-- an image that may follow these: of a later page, in the form of its page
unfoldable pub follows : (is : List Image) → Image → Bool
follows is i = all (leb (past 0 is) i.at ∷ leb i.at last_leaf ∷ formed i.at i.bytes ∷ [])

-- the next record of a put or delete with these images: an LG, or, once there is an image, the LE, whose number is read off l
unfoldable pub imaged : (unit : ℕ) (is : List Image) → (l : List ℕ) → Option Rec
imaged u is l =
    pick (eqb (get_or l 1 0) image.sign) (when (follows is (read_image l)) (LG (read_image l)))
    (when (both (leb 1 (length is)) (all_bear (le4 l 4) is)) (LE u is))

-- the record that must come next: an LB where no unit is open
unfoldable pub expected : (unit : ℕ) → Option Open → (l : List ℕ) → Option Rec
expected u none l = let g : Begin = read_begin (u + 1) l in when (begin_ok g) (LB g)
expected u (some o) l =
    pick (saves o.start) (imaged o.start.unit (images_of o.did []) l) (planned_first o.todo o.did l)

-- the record at the front of l, all of it, its log number one above the last
unfoldable pub read_rec : State → (l : List ℕ) → Option Rec
read_rec s l =
    bind (expected s.unit s.opened l) (λ r.
    when (all (leb (s.number + 1) most4 ∷ leb (size r) (length l) ∷ starts (encode (s.number + 1) r) l ∷ [])) r)

-- ---- a log read

-- the records at the front of l, then zeros to its end; the fuel is no less than their number
unfoldable pub read_recs : (fuel : ℕ) → State → (l : List ℕ) → Option (List Rec)
read_recs zero s l = none
read_recs (suc f) s l =
    pick (eqb (get_or l 0 0) 0) (when (all_zero l) [])
    (bind (read_rec s l) (λ r. bind (read_recs f (after s r) (drop (size r) l)) (λ rs. some (r ∷ rs))))

-- the check record; LK absent with a key is broken, since `encode_check` writes zeros there
unfoldable pub read_check : (l : List ℕ) → Option Check
read_check l =
    let c : Check = record { number = le4 l 4; unit = le4 l 12; lk = pick (eqb (get_or l 16 0) 0) none (some (le4 l 20)) } in
    when (starts (encode_check c) l) c

pub record Log : Type 0 where
  pub top : Check
  pub recs : List Rec

-- none: log form broken
unfoldable pub read_log : (l : List ℕ) → Option Log
read_log l =
    bind (read_check l) (λ c.
    bind (read_recs (length l) (first c) (drop (length_of check 0) l)) (λ rs. some (record { top = c; recs = rs })))

-- what is known at the log's end
unfoldable pub at_end : Log → State
at_end g = after_all (first g.top) g.recs

-- the bytes of a log, without the zeros after them
unfoldable pub encode_log : Log → List ℕ
encode_log g = encode_check g.top ++ encode_all (g.top.number + 1) g.recs

-- the log number of the record that ends at the offset f, where one ends there; `at` is the end of the record numbered n, rs come after it
unfoldable pub ending_at : (f at n : ℕ) → List Rec → Option ℕ
ending_at f at n [] = when (eqb at f) n
ending_at f at n (r ∷ rs) = let rest = ending_at f (at + size r) (n + 1) rs in pick (eqb at f) (some n) rest

-- the number of the last forced record; none: forced is not at a record's end
unfoldable pub last_forced : (forced : ℕ) → Log → Option ℕ
last_forced f g = ending_at f (length_of check 0) g.top.number g.recs
