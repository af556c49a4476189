-- One record more of the unit that is open at a log's end, by what one pass over the log knows there: the inner contract that `step` and
-- recovery's finishing rest on. Assumes nothing.
use Rattle.std.specs.Prelude.{ℕ, ◌≡◌, true, false, List, [], ◌∷◌, drop, leb}
use Rattle.field.specs.Test.{pick, need, given}
use Rattle.field.specs.Bytes.{most4}
use Rattle.logs.specs.Record.{saves}
use Rattle.logs.specs.Plan.{Step, plan}
use Rattle.logs.specs.Log.{Open, State, saves_at, read_begin, read_log, at_end}
use Rattle.logs.specs.Scan.{scanned}
use Rattle.logs.specs.declared.scan.Walk.{Walk}
use Rattle.store.specs.Calls.{log_length, Went, stopped, went, append, conclude, lacked_by}

-- ---- the step, and what it leaves

-- the first of these steps appended
unfoldable pub append_first : (todo : List Step) → (s : State) (w l : List ℕ) → Went
append_first [] s w l = stopped 10
append_first (x ∷ xs) s w l = append x xs s w l

-- one record of the open unit: the first that a put or delete lacks, another unit's next step
unfoldable pub append_open : Open → (s : State) (w l : List ℕ) → Went
append_open o s w l = pick (saves o.start) (conclude 1 (lacked_by o s w) s w l) (append_first o.todo s w l)

-- the next record of the unit that is open at the end of the log l
unfoldable pub append_next : (w l : List ℕ) → Went
append_next w l = given (read_log l) (stopped 2) (λ g. given (at_end g).opened (stopped 10) (λ o. append_open o (at_end g) w l))

-- the reply, the work pages and the log; where it stopped, the pages w and the log l stay
unfoldable pub reply_in : Went → ℕ
reply_in (stopped r) = r
reply_in (went s w l) = 0

unfoldable pub work_in : Went → (w : List ℕ) → List ℕ
work_in (stopped r) w = w
work_in (went s v m) w = v

unfoldable pub log_in : Went → (l : List ℕ) → List ℕ
log_in (stopped r) l = l
log_in (went s v m) l = m

pub record Goes (o : Went) (w l : List ℕ) (reply : ℕ) (v m : List ℕ) : Type 0 where
  pub reply-is : reply ≡ reply_in o
  pub work-is : v ≡ work_in o w
  pub log_is : m ≡ log_in o l

-- ---- by numbers

-- w is what one pass over the log l knows at its end, where a unit is open
pub record Opened (l : List ℕ) (w : Walk) : Type 0 where
  pub walk : w ≡ (scanned 0 l).walk
  pub ok : w.ok ≡ true
  pub unit : w.opened ≡ true

-- the same, and the unit tidies: it is no put or delete
pub record Tidies (l : List ℕ) (w : Walk) : Type 0 where
  pub opened : Opened l w
  pub plain : saves_at (drop w.begin l) ≡ false

-- its steps to come
unfoldable pub to_come : (l : List ℕ) → Walk → List Step
to_come l w = drop w.done (plan (read_begin w.unit.0 (drop w.begin l)))

-- tests 6 and 7: the log's end once all that remains is appended, and the record's number; the reply, 0 where both hold
unfoldable pub tested : (end number : ℕ) → ℕ
tested end n = need (leb end log_length) 6 (need (leb n most4) 7 0)
