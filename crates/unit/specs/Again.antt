-- A record of the log repeated, by the numbers of the walk that has reached it. Assumes nothing.
use Rattle.std.specs.Prelude.{ℕ, ◌+◌, ◌*◌, ◌≤◌, ◌<◌, ◌≡◌, Bool, true, false, List, length, drop, get_or}
use Rattle.std.proofs.Math.Option.{Option, some}
use Rattle.field.specs.Test.{pick, bind, there}
use Rattle.field.specs.Bytes.{le2}
use Rattle.page.specs.Page.{ascend_records}
use Rattle.logs.specs.Record.{begin, image, length_of}
use Rattle.logs.specs.Plan.{Step, take_out, bring_in, point, close, plan}
use Rattle.logs.specs.Log.{begin_ok, saves_at, read_begin, read_log}
use Rattle.logs.specs.Valid.{Filed}
use Rattle.logs.specs.Scan.{images_on}
use Rattle.logs.specs.Source.{source_at, source_rows, sourced, record_at, saved_at}
use Rattle.logs.specs.declared.scan.Walk.{Walk}
use Rattle.unit.specs.Next.{repeat, repeat_all}

-- ---- the record of a step

-- what is needed to read it off the log l: its page is one of the 64, and its bytes, or those of its LO, stand in l
abbrev pub OutReads : (l : List ℕ) → Walk → (org : ℕ) → Type 0
OutReads l w org = (org < 64) × (w.at + 20 + 16 * le2 l (w.at + 16) ≤ length l)

abbrev pub InReads : (l : List ℕ) → Walk → (dest back : ℕ) → Type 0
InReads l w dest back =
    (dest < 64) × (w.begin + 44 ≤ length l) × (1 ≤ source_rows w back) × (source_rows w back ≤ 15)
    × (source_at w back + 20 + 16 * source_rows w back ≤ length l) × (ascend_records 0 (sourced l w back) ≡ true)

abbrev pub PointReads : (l : List ℕ) → Walk → (base : ℕ) → Type 0
PointReads l w base = (base < 64) × (w.at + 28 ≤ length l)

abbrev pub Reads : (l : List ℕ) → Walk → Step → Type 0
Reads l w (take_out org dest) = OutReads l w org
Reads l w (bring_in org dest back) = InReads l w dest back
Reads l w (point base old new other) = PointReads l w base
Reads l w (close unit) = Unit {0}

-- what is needed to read a record of a put or delete: its mark stands in l, and its images behind its begin record, of ascending pages
pub record SaveReads (l : List ℕ) (w : Walk) : Type 0 where
  pub mark : w.at + 2 ≤ length l
  pub laid : w.at ≡ w.begin + length_of begin 1 + length_of image 1 * w.done
  pub filed : Filed 0 (images_on l w)

-- ---- the record at the walk's end

-- the step of the open unit that it left
unfoldable pub next_step : (l : List ℕ) → Walk → Step
next_step l w = get_or (plan (read_begin w.unit.0 (drop w.begin l))) w.done (close w.unit.0)

-- what is needed to read it off the log l
pub record Ahead (l : List ℕ) (w : Walk) : Type 0 where
  pub number : w.number.0 < 4294967295
  pub room : w.opened ≡ true → w.begin + 44 ≤ length l
  pub start : w.opened ≡ true → begin_ok (read_begin w.unit.0 (drop w.begin l)) ≡ true
  pub reads : w.opened ≡ true → saves_at (drop w.begin l) ≡ false → Reads l w (next_step l w)
  pub saves : w.opened ≡ true → saves_at (drop w.begin l) ≡ true → SaveReads l w

-- it repeated on the pages v: where no unit is open it is an LB, which changes none
unfoldable pub redone : (l : List ℕ) → Walk → (v : List ℕ) → Option (List ℕ)
redone l w v =
    pick w.opened (repeat (w.number.0 + 1) (pick (saves_at (drop w.begin l)) (saved_at l w) (record_at l w (next_step l w))) v) (some v)

-- ---- the whole log

-- all records of the log l repeated on the pages v
unfoldable pub repeated : (l v : List ℕ) → Option (List ℕ)
repeated l v = bind (read_log l) (λ g. repeat_all (g.top.number + 1) g.recs v)

-- r says whether that can be done, and the pages are then v'; where it cannot, nothing is said of them
pub record Repeated (l v : List ℕ) (r : Bool) (v' : List ℕ) : Type 0 where
  pub said : r ≡ there (repeated l v)
  pub left : r ≡ true → repeated l v ≡ some v'
