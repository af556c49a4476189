-- Demand 3, over bytes and over the calls' own definitions. `History` holds of every state that calls and power cuts can lead to;
-- `Kept` is what is promised of recovery in such a state. What is assumed of the chip stands in `Cut` alone. Assumes nothing.
use Rattle.std.specs.Prelude.{ℕ, ◌-◌, ◌/◌, ◌≤◌, ◌≡◌, Bool, true, false, List, [], ◌∷◌, ◌++◌, length, take, get_or, eqb}
use Rattle.std.proofs.Math.Option.{some, none}
use Rattle.field.specs.Test.{pick, given, there}
use Rattle.field.specs.Bytes.{Bytes, zeroes}
use Rattle.page.specs.Page.{rows_of, key_of}
use Rattle.page.specs.Pages.{page, pages, all_formed}
use Rattle.logs.specs.Record.{Check, Begin, saves, Rec, LB, LO, LI, LM, LG, LE}
use Rattle.logs.specs.Log.{Open, State, after, Log, read_log, at_end, last_forced}
use Rattle.tree.specs.Tree.{well_formed, all_records}
use Rattle.saving.specs.Save.{with_record, without_key}
use Rattle.store.specs.Calls.{Lent, lent, Left, three_sized, pages_length, log_length, new_log, build, recover, begin_compact, begin_order, begin_put, begin_delete, step, flush, force, checkpoint, find, list}

-- ---- calls

-- any call but build and recovery, with its arguments
pub data Call : Type 0 where
  to_begin_compact : (fill : ℕ) → Call
  to_begin_order : Call
  to_begin_put : Call
  to_begin_delete : (key : ℕ) → Call
  to_step : Call
  to_flush : (p : ℕ) → Call
  to_force : Call
  to_checkpoint : (clear : Bool) → Call
  to_find : (key : ℕ) → Call
  to_list : (low high : ℕ) → Call

-- what it leaves of what it is lent
unfoldable pub does : Call → Lent → Left
does (to_begin_compact fill) d = begin_compact fill d
does to_begin_order d = begin_order d
does to_begin_put d = begin_put d
does (to_begin_delete key) d = begin_delete key d
does to_step d = step d
does (to_flush p) d = flush p d
does to_force d = force d
does (to_checkpoint clear) d = checkpoint clear d
does (to_find key) d = find key d
does (to_list low high) d = list low high d

-- pages, log and what else is lent hold bytes
pub record InBytes (d : Lent) : Type 0 where
  pub work : Bytes d.work
  pub store : Bytes d.store
  pub log : Bytes d.log
  pub bytes : Bytes d.bytes

-- ---- cuts

-- the supply fails: the work pages and the two numbers are lost, so that any bytes and numbers stand there afterwards; the store keeps
-- every page; the log keeps whole records, not fewer than are forced (its first `forced` bytes), with zeros behind them
pub record Cut (forced : ℕ) (d d' : Lent) : Type 0 where
  pub bytes : InBytes d'
  pub store : d'.store ≡ d.store
  pub kept : ℕ  -- how many bytes of the log are kept
  pub before : Log  -- the log as it was
  pub was : read_log d.log ≡ some before
  pub number : ℕ
  pub whole : last_forced kept before ≡ some number  -- a record ends there
  pub enough : forced ≤ kept
  pub log : d'.log ≡ take kept d.log ++ zeroes (log_length - kept)

-- ---- the records that a log's begun puts and deletes make of others

-- of one unit's begin record: a put has its record at its key, a delete has the key no more
unfoldable pub saved_one : Begin → List (List ℕ) → List (List ℕ)
saved_one g rs =
    let r : List ℕ = get_or g.saved 0 [] in
    pick (eqb g.type 4) (with_record r rs) (pick (eqb g.type 5) (without_key (key_of r) rs) rs)

-- of all begin records of a log, in order, whether their units have ended or not
unfoldable pub saved_by : List Rec → List (List ℕ) → List (List ℕ)
saved_by [] rs = rs
saved_by (LB g ∷ l) rs = saved_by l (saved_one g rs)
saved_by (LO org dest ls ∷ l) rs = saved_by l rs
saved_by (LI org dest back ls ∷ l) rs = saved_by l rs
saved_by (LM base old new key ∷ l) rs = saved_by l rs
saved_by (LG i ∷ l) rs = saved_by l rs
saved_by (LE unit images ∷ l) rs = saved_by l rs

-- ---- histories

-- the pages that stood when the log's check record was written, after a call: at an accepted checkpoint the work pages of that moment, else
-- those of before, o
unfoldable pub since : Call → (o : List ℕ) → Lent → List ℕ
since (to_begin_compact fill) o d = o
since to_begin_order o d = o
since to_begin_put o d = o
since (to_begin_delete key) o d = o
since to_step o d = o
since (to_flush p) o d = o
since to_force o d = o
since (to_checkpoint clear) o d = pick (eqb (checkpoint clear d).reply 0) d.work o
since (to_find key) o d = o
since (to_list low high) o d = o

-- the records of that moment, after a call: an accepted checkpoint counts the puts and deletes of the log that it replaces
unfoldable pub records_since : Call → (rs : List (List ℕ)) → Lent → List (List ℕ)
records_since (to_begin_compact fill) rs d = rs
records_since to_begin_order rs d = rs
records_since to_begin_put rs d = rs
records_since (to_begin_delete key) rs d = rs
records_since to_step rs d = rs
records_since (to_flush p) rs d = rs
records_since to_force rs d = rs
records_since (to_checkpoint clear) rs d = pick (eqb (checkpoint clear d).reply 0) (given (read_log d.log) rs (λ g. saved_by g.recs rs)) rs
records_since (to_find key) rs d = rs
records_since (to_list low high) rs d = rs

-- calls and cuts lead to the buffers and numbers d; o are the pages that stood when the log's check record was written, and rs the records of
-- that moment. `forced` is how many bytes of the log calls have forced, whatever the numbers say after a cut; on: the work pages are there,
-- off: a cut has come and no recovery was accepted since
pub data History : (rs : List (List ℕ)) (o : List ℕ) (d : Lent) (forced : ℕ) (on : Bool) → Type 0 where
  -- a finished build
  built : (f g : ℕ) (d : Lent) → Bytes d.bytes → (build f g d).reply ≡ 0
      → History (rows_of 16 (length d.bytes / 16) d.bytes) (build f g d).now.work (build f g d).now 24 true
  -- an accepted recovery whose log held only its check record
  woken : (d : Lent) (c : Check) → InBytes d → (recover d).reply ≡ 0 → read_log d.log ≡ some (record { top = c; recs = [] })
      → History (all_records (pages (recover d).now.work)) (recover d).now.work (recover d).now 24 true
  -- any call, accepted or refused
  called : {rs : List (List ℕ)} {o : List ℕ} {d : Lent} {forced : ℕ} (k : Call) → History rs o d forced true
      → History (records_since k rs d) (since k o d) (does k d).now (does k d).now.forced true
  -- a cut between any two writes, also one after another
  cut : {rs : List (List ℕ)} {o : List ℕ} {d d' : Lent} {forced : ℕ} {on : Bool} → History rs o d forced on → Cut forced d d' → History rs o d' forced false
  -- an accepted recovery; it forces the log as it found it. A cut within it is one before it or one after it that keeps fewer of its records
  recovery : {rs : List (List ℕ)} {o : List ℕ} {d : Lent} {forced : ℕ} {on : Bool} → History rs o d forced on → (recover d).reply ≡ 0
      → History rs o (recover d).now (recover d).now.forced true
  -- a recovery that is refused because a buffer has the wrong length
  unsized : {rs : List (List ℕ)} {o : List ℕ} {d : Lent} {forced : ℕ} {on : Bool} → History rs o d forced on → three_sized d ≡ false
      → History rs o (recover d).now forced on
  -- a recovery that is lent these work pages beside some other store or log, and is refused past its lengths: the work pages are lost
  mislent : {rs : List (List ℕ)} {o : List ℕ} {d : Lent} {forced : ℕ} {on : Bool} (e : Lent) → History rs o d forced on → e.work ≡ d.work
      → three_sized e ≡ true → ((recover e).reply ≡ 0 → ⊥)
      → History rs o (lent d.used d.forced (recover e).now.work d.store d.log d.bytes) forced false
  -- list may be lent any room, put any record
  lent_bytes : {rs : List (List ℕ)} {o : List ℕ} {d : Lent} {forced : ℕ} {on : Bool} (b : List ℕ) → Bytes b → History rs o d forced on
      → History rs o (lent d.used d.forced d.work d.store d.log b) forced on

-- ---- refused calls

-- a refused call leaves all that it was lent, whatever that is: so a call that is lent some buffers of a history and some others, and is refused,
-- is no event of that history. A recovery refused past its lengths leaves all but the work pages
pub record Refusals : Type 0 where
  pub calls : (k : Call) (d : Lent) → ((does k d).reply ≡ 0 → ⊥) → (does k d).now ≡ d
  pub building : (f g : ℕ) (d : Lent) → ((build f g d).reply ≡ 0 → ⊥) → (build f g d).now ≡ d
  pub lengths : (d : Lent) → three_sized d ≡ false → (recover d).now ≡ d
  pub recovery : (d : Lent) → ((recover d).reply ≡ 0 → ⊥) → three_sized d ≡ true
      → (recover d).now ≡ lent d.used d.forced (zeroes pages_length) d.store d.log d.bytes

-- ---- what is promised

-- from the pages o, work and store alike, and a log of the check record c alone, begins and steps, all accepted and none cut, lead to e
pub data Uncut (o : List ℕ) (c : Check) : (e : Lent) → Type 0 where
  start : Uncut o c (lent 24 24 o o (new_log c) [])
  compact : {e : Lent} (fill : ℕ) → Uncut o c e → (begin_compact fill e).reply ≡ 0 → Uncut o c (begin_compact fill e).now
  order : {e : Lent} → Uncut o c e → (begin_order e).reply ≡ 0 → Uncut o c (begin_order e).now
  put : {e : Lent} → Uncut o c e → (begin_put e).reply ≡ 0 → Uncut o c (begin_put e).now
  delete : {e : Lent} (key : ℕ) → Uncut o c e → (begin_delete key e).reply ≡ 0 → Uncut o c (begin_delete key e).now
  lends : {e : Lent} (b : List ℕ) → Uncut o c e → Uncut o c (lent e.used e.forced e.work e.store e.log b)
  onward : {e : Lent} → Uncut o c e → (step e).reply ≡ 0 → Uncut o c (step e).now

-- two calls reply and return the same
pub record Alike (x y : Left) : Type 0 where
  pub reply : x.reply ≡ y.reply
  pub values : x.values ≡ y.values

-- find, lent d, rests on the root, one base page and one leaf: with any other work pages of the same length that agree with those of d on
-- these three it replies and returns the same
pub record Rests (key : ℕ) (d : Lent) : Type 0 where
  pub base : ℕ
  pub leaf : ℕ
  pub enough : (w : List ℕ) → length w ≡ length d.work
      → page 0 w ≡ page 0 d.work → page base w ≡ page base d.work → page leaf w ≡ page leaf d.work
      → Alike (find key (lent d.used d.forced w d.store d.log d.bytes)) (find key d)

-- recovery lent d is accepted, and leaves pages in form that are a well-formed tree with exactly the records rs at the check record as the
-- surviving log's begun puts and deletes have made them, every begun unit complete, log and work pages byte for byte those of a run of the
-- surviving log without a cut, from the pages o at its check record; what find then answers rests on three pages
pub record Kept (rs : List (List ℕ)) (o : List ℕ) (d : Lent) : Type 0 where
  pub accepted : (recover d).reply ≡ 0
  pub form : all_formed 0 (pages (recover d).now.work) ≡ true
  pub tree : well_formed (pages (recover d).now.work) ≡ true
  pub found : Log  -- the log as it was found
  pub was : read_log d.log ≡ some found
  pub records : all_records (pages (recover d).now.work) ≡ saved_by found.recs rs
  pub left : Log  -- and as it is left
  pub is : read_log (recover d).now.log ≡ some left
  pub complete : (at_end left).opened ≡ none
  pub grown : List Rec
  pub surviving : left ≡ record { top = found.top; recs = found.recs ++ grown }
  pub count : (recover d).values ≡ length grown ∷ []
  pub few : length grown ≤ 25
  pub run : Lent
  pub uncut : Uncut o found.top run
  pub same-work : run.work ≡ (recover d).now.work
  pub same_log : run.log ≡ (recover d).now.log
  pub rests : (key : ℕ) → Rests key (recover d).now

-- demand 3
abbrev pub Demand3 : Type 0
Demand3 =
    (rs : List (List ℕ)) (o : List ℕ) (d : Lent) (forced : ℕ) (on : Bool) → History rs o d forced on → three_sized d ≡ true → Kept rs o d

-- ---- begin and step inside a history

-- log, pages, page changes and tree are never what a begin refuses: replies 2, 3, 5 and 8 do not come
pub record Spared (x : Left) : Type 0 where
  pub log : x.reply ≡ 2 → ⊥
  pub form : x.reply ≡ 3 → ⊥
  pub change : x.reply ≡ 5 → ⊥
  pub tree : x.reply ≡ 8 → ⊥

-- a step is accepted wherever a unit is open, and replies 10 where none is
pub record Steps (d : Lent) : Type 0 where
  pub log : Log
  pub is : read_log d.log ≡ some log
  pub reply : (step d).reply ≡ pick (there (at_end log).opened) 0 10

-- ---- LK

-- "LK is untouched" by a put or delete: its begin record leaves the key, and so does every record while it is open
pub record KeyStays : Type 0 where
  pub begins : (s : State) (g : Begin) → (after s (LB g)).lk ≡ s.lk
  pub goes_on : (s : State) (o : Open) (r : Rec) → s.opened ≡ some o → saves o.start ≡ true → (after s r).lk ≡ s.lk
