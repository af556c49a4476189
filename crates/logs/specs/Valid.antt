-- Which record may come next after a state, chains of such records, and logs made of one: the logs that recovery accepts and that the
-- calls write. Assumes nothing.
use Rattle.std.specs.Prelude.{ℕ, ◌+◌, ◌≤◌, ◌≡◌, Bool, true, false, List, [], ◌∷◌, length}
use Rattle.std.proofs.Math.Option.{Option, some, none}
use Rattle.field.specs.Bytes.{Bytes, most4}
use Rattle.page.specs.Page.{ascend_records, last_leaf, formed}
use Rattle.page.specs.Each.{Each, Long}
use Rattle.logs.specs.Record.{Check, Begin, saves, Image, Rec, LB, LO, LI, LM, LG, LE}
use Rattle.logs.specs.Plan.{Step, take_out, bring_in, point, close}
use Rattle.logs.specs.Log.{Open, State, first, after, begin_ok, taken, images_of, all_bear, follows, Log}

-- the rows of an LO: 1 to 15 of 16 bytes, marked, their keys ascending
pub record Moved (rs : List (List ℕ)) : Type 0 where
  pub some-rows : 1 ≤ length rs
  pub few-rows : length rs ≤ 15
  pub long : Each (Long 16) rs
  pub bytes : Each Bytes rs
  pub order : ascend_records 0 rs ≡ true

-- the record does the step, in a unit whose records so far are did, the latest first
pub data Does (did : List Rec) : Step → Rec → Type 0 where
  does-out : {org dest : ℕ} {rs : List (List ℕ)} → Moved rs → Does did (take_out org dest) (LO org dest rs)
  does-in : {org dest back : ℕ} {rs : List (List ℕ)} → rs ≡ taken back did → Does did (bring_in org dest back) (LI org dest back rs)
  does-point : {base old new key : ℕ} {other : Bool} → key ≤ most4 → Does did (point base old new other) (LM base old new key)
  does-close : {unit : ℕ} → Does did (close unit) (LE unit [])

-- a record of a put or delete whose images so far are these: the LG of a later page, in form, or the LE
pub data Logs (unit : ℕ) (is : List Image) : Rec → Type 0 where
  logs-image : {i : Image} → follows is i ≡ true → length i.bytes ≡ 256 → Bytes i.bytes → Logs unit is (LG i)
  logs-end : 1 ≤ length is → Logs unit is (LE unit is)

-- "Images bear LE's number"
abbrev pub Bears : (n : ℕ) → Rec → Type 0
Bears n (LB g) = Unit {0}
Bears n (LO org dest rs) = Unit {0}
Bears n (LI org dest back rs) = Unit {0}
Bears n (LM base old new key) = Unit {0}
Bears n (LG i) = Unit {0}
Bears n (LE unit images) = all_bear n images ≡ true

-- where no unit is open, a begin record of the next unit; otherwise the first step to come, or what a put or delete logs
pub data Follows (unit : ℕ) : Option Open → Rec → Type 0 where
  begins : {g : Begin} → g.unit ≡ unit + 1 → begin_ok g ≡ true → Each (Long 16) g.saved → Each Bytes g.saved → Follows unit none (LB g)
  goes : {o : Open} {x : Step} {xs : List Step} {r : Rec} → saves o.start ≡ false → o.todo ≡ x ∷ xs → Does o.did x r → Follows unit (some o) r
  logs : {o : Open} {r : Rec} → saves o.start ≡ true → Logs o.start.unit (images_of o.did []) r → Follows unit (some o) r

-- the record may come next, and has a number
pub record Fits (s : State) (r : Rec) : Type 0 where
  pub room : s.number + 1 ≤ most4
  pub follows : Follows s.unit s.opened r
  pub bears : Bears (s.number + 1) r

-- each record may come next after those before it
pub data Valid : State → List Rec → Type 0 where
  nil : {s : State} → Valid s []
  cons : {s : State} {r : Rec} {rs : List Rec} → Fits s r → Valid (after s r) rs → Valid s (r ∷ rs)

-- a check record whose numbers fit four bytes
pub record Small (c : Check) : Type 0 where
  pub number : c.number ≤ most4
  pub unit : c.unit ≤ most4
  pub lk : (k : ℕ) → c.lk ≡ some k → k ≤ most4

-- a log whose records each may come next
pub record Good (g : Log) : Type 0 where
  pub top : Small g.top
  pub valid : Valid (first g.top) g.recs

-- an image of a page from p on, in form
pub record Lies (p : ℕ) (i : Image) : Type 0 where
  pub low : p ≤ i.at
  pub high : i.at ≤ last_leaf
  pub form : formed i.at i.bytes ≡ true
  pub long : length i.bytes ≡ 256
  pub bytes : Bytes i.bytes

-- images of ascending pages from p on
abbrev pub Filed : ℕ → List Image → Type 0
Filed p [] = Unit {0}
Filed p (i ∷ is) = Lies p i × Filed (i.at + 1) is
