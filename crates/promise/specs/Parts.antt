-- The store's pages, records and units as the generic half of demand 3 asks for them (`replay`): which definitions of the calls stand for
-- what there. Nothing is defined here that a call does not use. Assumes nothing.
use Rattle.std.specs.Prelude.{ℕ, ◌+◌, ◌≤◌, ◌≡◌, ◌⊎◌, Bool, true, List, [], ◌∷◌, length, leb}
use Rattle.std.proofs.Math.Option.{Option, some, none}
use Rattle.field.specs.Test.{both, pick, when, bind}
use Rattle.field.specs.Bytes.{Bytes, most4}
use Rattle.page.specs.Page.{ascend_records, number, formed}
use Rattle.page.specs.Pages.{page, put_page, pages}
use Rattle.logs.specs.Record.{Check, Begin, saves, Rec, LB, size, sizes}
use Rattle.logs.specs.Write.{save_of}
use Rattle.logs.specs.Plan.{Step, plan}
use Rattle.logs.specs.Log.{Open, State, Log, at_end}
use Rattle.logs.specs.Valid.{Good}
use Rattle.tree.specs.Tree.{well_formed, all_records}
use Rattle.unit.specs.Choice.{compact_unit, order_unit}
use Rattle.unit.specs.Next.{targets, change, apply, repeat, target_of, page_of, next_rec, room}
use Rattle.unit.specs.Made.{at_page}
use Rattle.saving.specs.Rest.{Rest, refuses, lacks, rest_of}
use Rattle.store.specs.Calls.{log_length, pages_length, did_of, lacked_by, deleting, checkpointed}
use Rattle.replay.specs.Store.{Format, Meaning}
use Rattle.promise.specs.Promise.{saved_by}

-- a log of these records, and what is known at its end
abbrev pub log_of : Check → List Rec → Log
log_of c l = record { top = c; recs = l }

abbrev pub state_of : Check → List Rec → State
state_of c l = at_end (log_of c l)

-- ---- the open unit

-- the next record of a unit that tidies, with the tests 5, 6 and 7 of `append`, the page change aside
unfoldable pub next_of : (todo : List Step) → (s : State) (w : List ℕ) → Option Rec
next_of [] s w = none
next_of (x ∷ xs) s w =
    bind (next_rec x (did_of s.opened) (page_of (target_of x) w)) (λ r.
    when (both (leb (s.at + room w (x ∷ xs)) log_length) (leb (s.number + 1) most4)) r)

-- the first record that a put or delete lacks, with the tests 6 and 7 of `conclude`
unfoldable pub first_of : Rest → (s : State) → Option Rec
first_of (refuses reply) s = none
first_of (lacks []) s = none
first_of (lacks (r ∷ rs)) s =
    when (both (leb (s.at + sizes (r ∷ rs)) log_length) (leb (s.number + length (r ∷ rs)) most4)) r

-- how many it lacks; one that is refused has not ended
unfoldable pub lacked_long : Rest → ℕ
lacked_long (refuses reply) = 1
lacked_long (lacks rs) = length rs

-- how many records the open unit lacks, and which is the next
unfoldable pub left_of : Option Open → (s : State) (w : List ℕ) → ℕ
left_of none s w = 0
left_of (some o) s w = pick (saves o.start) (lacked_long (lacked_by o s w)) (length o.todo)

unfoldable pub next_in : Option Open → (s : State) (w : List ℕ) → Option Rec
next_in none s w = none
next_in (some o) s w = pick (saves o.start) (first_of (lacked_by o s w) s) (next_of o.todo s w)

abbrev pub store : Format
store =
    record {
      Page = List ℕ;
      Pages = List ℕ;
      Rec = Rec;
      Check = Check;
      many = 64;
      at = λ w p. page p w;
      copy = λ p from to. put_page p (page p from) to;
      stamp = number;
      change = λ n r. at_page (targets r) (change n r);
      apply = apply;
      repeat = repeat;
      num = λ c. c.number;
      left = λ c w l. left_of (state_of c l).opened (state_of c l) w;
      next = λ c w l. next_in (state_of c l).opened (state_of c l) w;
    }

-- ---- begin

-- begin compact with this fill, or begin order, chooses this unit
abbrev pub Chooses : State → List ℕ → Begin → Type 0
Chooses s w g =
    ((fill : ℕ) × (fill ≤ 15) × (compact_unit (s.unit + 1) fill s.lk (pages w) ≡ some g)) ⊎ (order_unit (s.unit + 1) (pages w) ≡ some g)

-- the record that begin put is lent, or that begin delete makes of its key, with the unit's type
pub data Carries : (type : ℕ) (r : List ℕ) → Type 0 where
  to-put : {r : List ℕ} → length r ≡ 16 → ascend_records 0 (r ∷ []) ≡ true → Bytes r → Carries 4 r
  to-delete : (key : ℕ) → Carries 5 (deleting key)

-- a begin call wants this unit, of which `many` records of `long` bytes follow the begin record
pub data Wants (s : State) (w : List ℕ) : (g : Begin) (long many : ℕ) → Type 0 where
  tidying : {g : Begin} → Chooses s w g → Wants s w g (room w (plan g)) (length (plan g))
  saving : {type : ℕ} {r : List ℕ} {rs : List Rec} → Carries type r
      → rest_of (save_of (s.unit + 1) type r) (s.number + 1) [] w ≡ lacks rs
      → Wants s w (save_of (s.unit + 1) type r) (sizes rs) (length rs)

-- a begin call's record: of a unit that it wants, that fits the log and whose numbers fit
pub record Begins (c : Check) (w : List ℕ) (l : List Rec) (r : Rec) : Type 0 where
  pub begun : Begin
  pub long : ℕ
  pub many : ℕ
  pub is : r ≡ LB begun
  pub wants : Wants (state_of c l) w begun long many
  pub fits : (state_of c l).at + (size (LB begun) + long) ≤ log_length
  pub numbered : (state_of c l).number + (1 + many) ≤ most4
  pub unit : begun.unit ≤ most4

-- ---- checkpoint

-- a checkpoint call's check record
pub record Checks (c : Check) (l : List Rec) (c' : Check) : Type 0 where
  pub clear : Bool
  pub is : c' ≡ checkpointed clear (state_of c l)
  pub numbered : (state_of c l).number + 1 ≤ most4

-- what is asked: the records are those of the pages at the check record as the log's begun puts and deletes have made them; a checkpoint leaves
-- every page as it is, so that none is found rewritten
abbrev pub asked : Meaning store
asked =
    record {
      Sized = λ w. (length w ≡ pages_length) × Bytes w;
      Form = λ p pg. formed p pg ≡ true;
      Shape = λ c l. Good (log_of c l) × ((state_of c l).at ≤ log_length);
      Fine = λ o l w. (well_formed (pages w) ≡ true) × (all_records (pages w) ≡ saved_by l (all_records (pages o)));
      Begins = Begins;
      Checks = λ c w s l c' w' s'. Checks c l c' × (w' ≡ w) × (s' ≡ s);
      Tears = λ c s l s'. ⊥;
      Event = λ c w l w'. ⊥;
    }
