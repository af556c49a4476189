-- A chosen unit before its begin record stands in the log: its record written down and read back, the bytes and the records that it needs.
-- Assumes nothing.
use Prim.Native.Nat.{ℕ, suc, ◌+◌, ◌*◌, ◌≤◌, ◌<◌}
use native.Mathlib.Omega.{arith}
use mathlib.Core.Path.{◌≡◌, refl, sym, ap, ◌∙◌}
use mathlib.Core.List.{List, [], ◌∷◌, ◌++◌, append-nil}
use lib.ListN.{length, get_or, length-append}
use lib.Dec.{eqb}
use Rattle.field.specs.Test.{pick}
use Rattle.field.specs.Bytes.{put, Bytes}
use Rattle.field.proofs.Part.{put_whole}
use Rattle.field.proofs.Number.{le2-small}
use Rattle.page.specs.Page.{count}
use Rattle.page.specs.Pages.{page}
use Rattle.page.specs.Each.{nil}
use Rattle.page.proofs.Pages.{bytes-page}
use Rattle.logs.specs.Record.{Begin, saves, LB, length_of, kind_of, carried, size, encode}
use Rattle.logs.specs.Plan.{Step, take_out, bring_in, point, close, compact_plan, move_plan, swap_plan, plan}
use Rattle.logs.specs.Log.{read_begin}
use Rattle.logs.specs.Write.{begin_of}
use Rattle.logs.proofs.Record.{length-encode}
use Rattle.logs.proofs.Write.{read_begin-encode}
use Rattle.unit.specs.Next.{step_size, room}
use Rattle.unit.specs.declared.choice.Choice.{Choice}
use Rattle.starting.specs.Begins.{record_of, Writable}

-- ---- the record

-- an LB's bytes
pub begin-size : (n : ℕ) (c : Choice) → length (encode n (LB (record_of c 0))) ≡ 44
unfolding size length_of kind_of carried record_of begin_of
begin-size n c = length-encode n (LB (record_of c 0)) nil

-- written over as many bytes, it is read as the unit
pub read_back : (c : Choice) (m m' : List ℕ) → Writable c → length m ≡ 44 → m' ≡ put 0 (encode 0 (LB (record_of c 0))) m → read_begin 0 m' ≡ record_of c 0
unfolding record_of begin_of
read_back c m m' w h e =
    let b : List ℕ = encode 0 (LB (record_of c 0)) in
    ap (read_begin 0) (e ∙ put_whole b m (begin-size 0 c ∙ sym h) ∙ sym (append-nil b)) ∙ read_begin-encode 0 (record_of c 0) [] w.ok nil

-- ---- its steps

-- all but the end, which alone knows the unit's number
unfoldable pub steps : Begin → List Step
steps g =
    let p : ℕ = get_or g.bases 0 0 in
    let q : ℕ = get_or g.bases 1 p in
    let a : ℕ = get_or g.leaves 0 0 in
    let b : ℕ = get_or g.leaves 1 0 in
    pick (eqb g.type 1) (compact_plan p g.dest g.leaves) (pick (eqb g.type 2) (swap_plan p q a b) (pick (saves g) [] (move_plan p a g.dest)))

pub steps-end : (g : Begin) → plan g ≡ steps g ++ (close g.unit ∷ [])
unfolding plan steps
steps-end g = refl

-- a unit has its end at least
pub plan-some : (g : Begin) → 0 < length (plan g)
plan-some g = omega (arith, ap length (steps-end g) ∙ length-append (steps g) (close g.unit ∷ []))

-- the end counts the same, whatever the unit's number
closing-room : (w : List ℕ) (xs : List Step) (u v : ℕ) → room w (xs ++ (close u ∷ [])) ≡ room w (xs ++ (close v ∷ []))
unfolding room step_size
closing-room w [] u v = refl
closing-room w (x ∷ xs) u v = ap (λ (n : ℕ). step_size w x + n) (closing-room w xs u v)

closing-length : (xs : List Step) (u v : ℕ) → length (xs ++ (close u ∷ [])) ≡ length (xs ++ (close v ∷ []))
closing-length [] u v = refl
closing-length (x ∷ xs) u v = ap suc (closing-length xs u v)

-- so the bytes and the records of a unit do not depend on its number
module _ (c : Choice) (u : ℕ) where
  pub room-any : (w : List ℕ) → room w (plan (record_of c u)) ≡ room w (plan (record_of c 0))
  unfolding record_of begin_of steps saves
  room-any w =
      ap (room w) (steps-end (record_of c u)) ∙ closing-room w (steps (record_of c 0)) u 0 ∙ sym (ap (room w) (steps-end (record_of c 0)))

  pub length-any : length (plan (record_of c u)) ≡ length (plan (record_of c 0))
  unfolding record_of begin_of steps saves
  length-any =
      ap length (steps-end (record_of c u)) ∙ closing-length (steps (record_of c 0)) u 0 ∙ sym (ap length (steps-end (record_of c 0)))

-- a record's bytes are bounded, however many records a page claims to have
step-most : (w : List ℕ) → Bytes w → (x : Step) → step_size w x ≤ 1048580
unfolding step_size length_of count
step-most w b (take_out org dest) = omega (arith, le2-small (page org w) 2 (bytes-page org w b))
step-most w b (bring_in org dest back) = omega arith
step-most w b (point base old new other) = omega arith
step-most w b (close unit) = omega arith

pub room_most : (w : List ℕ) → Bytes w → (xs : List Step) → room w xs ≤ 1048580 * length xs
unfolding room
room_most w b [] = omega arith
room_most w b (x ∷ xs) = omega (arith, step-most w b x, room_most w b xs)
