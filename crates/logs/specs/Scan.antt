-- One pass over a log: what the code knows after each record, by numbers, and the answer for the whole, read off `read_log`.
-- Assumes nothing.
use Rattle.std.specs.Prelude.{ℕ, zero, suc, ◌+◌, ◌-◌, ◌*◌, ◌≤◌, ◌<◌, ◌≡◌, Bool, true, false, not, List, [], ◌∷◌, length, drop, get_or, eqb, leb}
use Rattle.std.proofs.Math.Option.{Option, none}
use Rattle.field.specs.Test.{both, pick, given, there}
use Rattle.field.specs.Bytes.{all_zero, le2, le4}
use Rattle.page.specs.Page.{rows_of}
use Rattle.logs.specs.Record.{type_at, Begin, Image, Rec, LB, LO, LI, LM, LG, LE, begin, out, into, modify, image, end, length_of, outs, size, sizes}
use Rattle.logs.specs.Plan.{Step, take_out, bring_in, point, close, plan}
use Rattle.logs.specs.Log.{State, largest, largest_moved, begin_ok, saves_at, read_begin, read_image, read_log, at_end, last_forced, first, read_check}
use Rattle.logs.specs.Stand.{stands, stands_in, stands_modify, stands_out, stands_begin, stands_image, stands_last}
use Rattle.field.specs.declared.LogNo.{LogNo}
use Rattle.field.specs.declared.UnitNo.{UnitNo}
use Rattle.logs.specs.declared.scan.Walk.{Walk}
use Rattle.logs.specs.declared.scan.Scan.{Scan}
use Rattle.logs.specs.declared.scan.Mark.{Mark}

-- ---- the code's three counters by number

abbrev pub log_no : ℕ → LogNo
log_no n = record { 0 = n }

abbrev pub unit_no : ℕ → UnitNo
unit_no n = record { 0 = n }

-- ---- a state by numbers

-- the bytes of the latest record: LB where the unit has none since
unfoldable pub latest : Begin → List Rec → ℕ
latest g [] = size (LB g)
latest g (r ∷ did) = size r

-- the key of an LM, 0 of another record
unfoldable pub key_in : Rec → ℕ
key_in (LB g) = 0
key_in (LO org dest rs) = 0
key_in (LI org dest back rs) = 0
key_in (LM base old new key) = key
key_in (LG i) = 0
key_in (LE unit images) = 0

-- the numbers of a state: where its open unit began and how many of its steps are done, where the latest record stands, how many records it
-- and the unit's first carry, the key of the LM before, the largest key moved
unfoldable pub shown : State → Walk
shown s =
    record {
      ok = true;
      at = s.at;
      number = log_no s.number;
      unit = unit_no s.unit;
      known = there s.lk;
      lk = given s.lk 0 (λ k. k);
      opened = there s.opened;
      begin = given s.opened 0 (λ o. s.at - (size (LB o.start) + sizes o.did));
      done = given s.opened 0 (λ o. length o.did);
      last = given s.opened 0 (λ o. s.at - latest o.start o.did);
      rows = given s.opened 0 (λ o. length (outs (get_or o.did 0 (LE 0 []))));
      first = given s.opened 0 (λ o. length (outs (get_or o.did (length o.did - 1) (LE 0 []))));
      key = given s.opened 0 (λ o. key_in (get_or o.did 0 (LE 0 [])));
      moved = given s.opened 0 (λ o. largest_moved 0 o.did);
    }

-- no unit open: the log's end, its last number, the last unit, LK
abbrev pub shut : (ok : Bool) → (at n unit : ℕ) → (known : Bool) → (lk : ℕ) → Walk
shut ok at n unit known lk =
    record {
      ok = ok;
      at = at;
      number = log_no n;
      unit = unit_no unit;
      known = known;
      lk = lk;
      opened = false;
      begin = 0;
      done = 0;
      last = 0;
      rows = 0;
      first = 0;
      key = 0;
      moved = 0;
    }

-- one record of so many bytes more, after which this unit is open
abbrev opens : Walk → (long unit begin done rows first key moved : ℕ) → Walk
opens w long unit begin done rows first key moved =
    record {
      ok = true;
      at = w.at + long;
      number = log_no (w.number.0 + 1);
      unit = unit_no unit;
      known = w.known;
      lk = w.lk;
      opened = true;
      begin = begin;
      done = done;
      last = w.at;
      rows = rows;
      first = first;
      key = key;
      moved = moved;
    }

-- the answer where the log's form is broken
unfoldable pub lost : Walk
lost = shut false 0 0 0 false 0

-- ---- one record more, by numbers

-- an LB that carries k records
unfoldable pub begun : Walk → (k : ℕ) → Walk
begun w k = opens w (length_of begin k) (w.unit.0 + 1) w.at 0 0 0 0 0

-- an LO, LI, LM or LG of so many bytes, records taken out, with this key and this largest key moved
unfoldable pub went : Walk → (long rows key moved : ℕ) → Walk
went w long rows key moved = opens w long w.unit.0 w.begin (w.done + 1) rows (pick (eqb w.done 0) rows w.first) key moved

-- how long the record is that bears this sign where it is an LI, LM or LG, and the key that an LM at the front of m has
unfoldable pub bare_long : (sign : ℕ) → ℕ
bare_long g = pick (eqb g into.sign) (length_of into 0) (pick (eqb g modify.sign) (length_of modify 0) (length_of image 1))

unfoldable pub bare_key : (sign : ℕ) → (m : List ℕ) → ℕ
bare_key g m = pick (eqb g modify.sign) (le4 m 20) 0

-- an LE; of a compact, LK becomes the largest key moved
unfoldable pub ended : Walk → (compact : Bool) → Walk
ended w compact =
    shut true (w.at + length_of end 0) (w.number.0 + 1) w.unit.0 (pick compact true w.known) (pick compact w.moved w.lk)

-- the record of a planned step, read off the log's bytes m from there on; t: the unit is a compact
unfoldable pub stepped : Walk → (m : List ℕ) → (t : Bool) → Step → Walk
stepped w m t (take_out org dest) =
    let k : ℕ = le2 m 16 in
    pick (stands_out (w.number.0 + 1) org dest m) (went w (length_of out k) k 0 (largest w.moved (rows_of 16 k (drop 20 m)))) lost
stepped w m t (bring_in org dest back) =
    pick (stands_in (w.number.0 + 1) org dest back (pick (eqb back 1) w.rows w.first) m) (went w (length_of into 0) 0 0 w.moved) lost
stepped w m t (point base old new other) = pick (stands_modify (w.number.0 + 1) base old new m) (went w (length_of modify 0) 0 (le4 m 20) w.moved) lost
stepped w m t (close unit) = pick (stands (w.number.0 + 1) (LE unit []) m) (ended w t) lost

-- the images of k LGs that stand one behind the other at the front of l
unfoldable pub images_in : (k : ℕ) → (l : List ℕ) → List Image
images_in zero l = []
images_in (suc k) l = read_image l ∷ images_in k (drop (length_of image 1) l)

-- the images so far of the put or delete that is open in the log l
unfoldable pub images_on : (l : List ℕ) → Walk → List Image
images_on l w = images_in w.done (drop (length_of begin 1) (drop w.begin l))

-- the record of a put or delete with these images, read off the log's bytes m from there on
unfoldable pub saved : Walk → (m : List ℕ) → (is : List Image) → Walk
saved w m is =
    pick (eqb (get_or m 1 0) image.sign) (pick (stands_image (w.number.0 + 1) is m) (went w (length_of image 1) 0 0 w.moved) lost)
    (pick (stands_last (w.number.0 + 1) w.unit.0 is m) (ended w false) lost)

-- the next record of the log l
unfoldable pub turned : (l : List ℕ) → Walk → Walk
turned l w =
    let m : List ℕ = drop w.at l in
    let b : List ℕ = drop w.begin l in
    pick w.opened
    (pick (saves_at b) (saved w m (images_on l w)) (stepped w m (eqb (get_or b type_at 0) 1) (get_or (plan (read_begin w.unit.0 b)) w.done (close w.unit.0))))
    (pick (stands_begin (w.number.0 + 1) (w.unit.0 + 1) m) (begun w (pick (saves_at m) 1 0)) lost)

-- what is known of the put or delete that is open in the log l: its images stand one behind the other, from its begin record to the walk's end
pub record Saving (l : List ℕ) (w : Walk) : Type 0 where
  pub inside : w.at ≤ length l
  pub small : length l < 18446744073709551616
  pub laid : w.at ≡ w.begin + length_of begin 1 + length_of image 1 * w.done

-- what a turn needs of the numbers
pub record Ready (l : List ℕ) (w : Walk) : Type 0 where
  pub inside : w.at ≤ length l
  pub steps : w.done ≤ w.at
  pub room : w.opened ≡ true → w.begin + begin.fixed ≤ length l
  pub start : w.opened ≡ true → begin_ok (read_begin w.unit.0 (drop w.begin l)) ≡ true
  pub saving : w.opened ≡ true → saves_at (drop w.begin l) ≡ true → w.at ≡ w.begin + length_of begin 1 + length_of image 1 * w.done

-- the next record is one of a put or delete, or the log is too short for an LB
unfoldable pub saving_on : (l : List ℕ) → Walk → Bool
saving_on l w =
    pick w.opened (saves_at (drop w.begin l)) (pick (leb begin.fixed (length (drop w.at l))) (saves_at (drop w.at l)) true)

-- the check record
unfoldable pub topped : (l : List ℕ) → Walk
topped l = given (read_check l) lost (λ c. shown (first c))

-- ---- the answer for the whole log

unfoldable pub answer : Walk → Option ℕ → Scan
answer w f = record { walk = w; ends = there f; forced = log_no (given f 0 (λ n. n)) }

-- all that a call needs to know of a log, of which `forced` bytes are forced
unfoldable pub scanned : (forced : ℕ) → (l : List ℕ) → Scan
scanned f l = given (read_log l) (answer lost none) (λ g. answer (shown (at_end g)) (last_forced f g))

-- ---- the pass

-- what was found of the record that ends at the bytes forced
unfoldable pub mark_of : Option ℕ → Mark
mark_of f = record { ends = there f; number = log_no (given f 0 (λ n. n)) }

-- a record with this number ends at the offset at
unfoldable pub noted : Mark → (at n f : ℕ) → Mark
noted e at n f = pick e.ends e (pick (eqb at f) (record { ends = true; number = log_no n }) (record { ends = false; number = log_no 0 }))

-- another record comes
unfoldable pub live : (l : List ℕ) → Walk → Bool
live l w = both w.ok (not (eqb (get_or l w.at 0) 0))

-- one of a unit that tidies, where no put or delete is open
unfoldable pub tidies_on : (l : List ℕ) → Walk → Bool
tidies_on l w =
    both (live l w) (pick w.opened true (pick (leb begin.fixed (length (drop w.at l))) (not (saves_at (drop w.at l))) false))

-- the answer at the log's end, where all bytes after are zero
unfoldable pub finished : (l : List ℕ) → Walk → Mark → Scan
finished l w e = pick (both w.ok (all_zero (drop w.at l))) (record { walk = w; ends = e.ends; forced = e.number }) (answer lost none)
