-- A unit that tidies and can be carried out (crate `tidy`) can be finished in the sense of the generic half, its records one after the other in
-- the log. Assumes nothing.
use Prim.Native.Nat.{ℕ, ◌+◌, ◌≤◌}
use native.Mathlib.Omega.{arith}
use mathlib.Core.Path.{◌≡◌, refl, sym, ap, ◌∙◌, subst}
use mathlib.Core.Bool.{true, false}
use mathlib.Core.List.{List, [], ◌∷◌, ◌++◌}
use mathlib.Core.Option.{Option, some, none}
use lib.ListN.{length, length-append}
use borrow.Author.Tests.{le-leb}
use Rattle.field.specs.Test.{bind}
use Rattle.field.specs.Bytes.{Bytes, most4}
use Rattle.field.proofs.Test.{both-intro, pick-false, bind-intro, when_true}
use Rattle.page.specs.Pages.{pages}
use Rattle.logs.specs.Record.{Check, Begin, saves, Rec, LB}
use Rattle.logs.specs.Plan.{Step, close, plan}
use Rattle.logs.specs.Log.{Open, State, going, opened_by}
use Rattle.logs.specs.Valid.{Does, does-out, does-in, does-point, does-close, Follows, goes, Fits}
use Rattle.logs.proofs.State.{number-at_end}
use Rattle.logs.proofs.Valid.{does-bears}
use Rattle.logs.proofs.Plan.{works_out, works-in, works-point, Ending, ending-rest, plan-ending}
use Rattle.logs.proofs.Held.{ending-cons}
use Rattle.logs.proofs.Sound.{Waits, waits-open, sound-at_end}
use Rattle.tree.specs.Tree.{well_formed, all_records}
use Rattle.unit.specs.Next.{apply, target_of, page_of, next_rec, step_size, room}
use Rattle.unit.proofs.Places.{end-keeps}
use Rattle.unit.proofs.Changed.{apply-bytes}
use Rattle.unit.proofs.Kept.{Stands, fits-stands}
use Rattle.tidy.specs.Tidy.{Carried, done, step}
use Rattle.tidy.proofs.Next.{next-does}
use Rattle.store.specs.Calls.{log_length, did_of}
use Rattle.replay.specs.Laws.{Able, closed, more}
use Rattle.forward.proofs.Grows.{page-bytes}
use Rattle.forward.proofs.Finish.{ending-close}
use Rattle.promise.specs.Promise.{saved_by}
use Rattle.promise.specs.Parts.{log_of, state_of, next_of, left_of, next_in, store, asked}
use Rattle.promise.proofs.Image.{Stored, at-grown, opened-grown, stored-grown}
use Rattle.promise.proofs.Saved.{saved-more}
use Rattle.promise.proofs.Forward.{left-none, left-tidies}

-- the unit that is open once it has these records and these steps to come: none after its last
unfoldable pub open_of : (g : Begin) (did : List Rec) (todo : List Step) → Option Open
open_of g did [] = none
open_of g did (x ∷ xs) = some (record { start = g; did = did; todo = x ∷ xs })

-- what follows a step that is not the unit's last
open-rest : (g : Begin) (did : List Rec) {u : ℕ} (xs : List Step) → Ending u xs → some (record { start = g; did = did; todo = xs }) ≡ open_of g did xs
unfolding open_of
open-rest g did xs h = let c = ending-cons h in rw c.is

module _ (g : Begin) (did : List Rec) (xs : List Step) where
  opened-by : {u : ℕ} {x : Step} {r : Rec} → Does did x r → Ending u (x ∷ xs) → opened_by r (open_of g did (x ∷ xs)) ≡ open_of g (r ∷ did) xs
  unfolding opened_by open_of bind going
  opened-by (does-out m) h = open-rest g _ xs (ending-rest works_out h)
  opened-by (does-in q) h = open-rest g _ xs (ending-rest works-in h)
  opened-by (does-point k) h = open-rest g _ xs (ending-rest works-point h)
  opened-by (does-close {unit = v}) h = rw (ending-close v (close v) xs h refl)

-- how many records are lacked then
left-of : (g : Begin) (did : List Rec) (todo : List Step) (s : State) (w : List ℕ) → saves g ≡ false → left_of (open_of g did todo) s w ≡ length todo
unfolding open_of
left-of g did [] s w v = left-none none s w refl
left-of g did (x ∷ xs) s w v = left-tidies _ s w v

-- the next of them, by the tests of `append`
next-of : (g : Begin) (did : List Rec) (x : Step) (xs : List Step) (s : State) (w : List ℕ) (r : Rec) → saves g ≡ false → s.opened ≡ open_of g did (x ∷ xs)
    → next_rec x did (page_of (target_of x) w) ≡ some r → s.at + room w (x ∷ xs) ≤ log_length → s.number + 1 ≤ most4 → next_in s.opened s w ≡ some r
unfolding next_in next_of open_of did_of
next-of g did x xs s w r v o e f n =
    let d : did_of s.opened ≡ did = ap did_of o in
    ap (λ (y : Option Open). next_in y s w) o
    ∙ pick-false _ _ _ v
    ∙ bind-intro (next_rec x (did_of s.opened) (page_of (target_of x) w)) _ r (rw d e)
    ∙ when_true _ r (both-intro _ _ (le-leb (s.at + room w (x ∷ xs)) log_length f) (le-leb (s.number + 1) most4 n))

-- ---- the unit

module _ (origin : List ℕ) (c : Check) (g : Begin) (v : saves g ≡ false) where
  -- the next record may stand in the log
  next_fits : (did : List Rec) (x : Step) (xs : List Step) (s : State) (w : List ℕ) (r : Rec) → Bytes w → s.opened ≡ open_of g did (x ∷ xs)
      → s.number + 1 ≤ most4 → next_rec x did (page_of (target_of x) w) ≡ some r
      → Does did x r × Follows s.unit (open_of g did (x ∷ xs)) r × Fits s r
  unfolding open_of
  next_fits did x xs s w r b o n e =
      let d : Does did x r = next-does x did (page_of (target_of x) w) r (page-bytes (target_of x) w b) e in
      let h : Follows s.unit (open_of g did (x ∷ xs)) r = goes v refl d in
      (d, h, record { room = n; follows = subst (λ (y : Option Open). Follows s.unit y r) (sym o) h; bears = does-bears (s.number + 1) d })

  ending_of : (did : List Rec) (x : Step) (xs : List Step) (s : State) → Waits s.unit s.opened → s.opened ≡ open_of g did (x ∷ xs)
      → Ending s.unit (x ∷ xs)
  unfolding open_of
  ending_of did x xs s h o = (waits-open (subst (Waits s.unit) o h) v).todo

  saved-step : (did : List Rec) (x : Step) (xs : List Step) (u : ℕ) (l : List Rec) (r : Rec) (rs : List (List ℕ)) → Follows u (open_of g did (x ∷ xs)) r
      → saved_by (l ++ (r ∷ [])) rs ≡ saved_by l rs
  unfolding open_of
  saved-step did x xs u l r rs h = saved-more l rs h

  -- steps that can be carried out can be finished
  pub carried-able : {n : ℕ} {did : List Rec} {todo : List Step} {w w' : List ℕ} {recs : List Rec} (l : List Rec) → Carried n did todo w w' recs
      → n ≡ c.number + length l + 1 → Stored c l → (state_of c l).opened ≡ open_of g did todo → Bytes w → (state_of c l).at + room w todo ≤ log_length
      → c.number + length l + length todo ≤ most4 → well_formed (pages w') ≡ true → all_records (pages w') ≡ saved_by l (all_records (pages origin))
      → Able store asked origin c w l
  carried-able l (done {did = did} {w = w}) e h o b f k well same =
      closed (h.good, h.fits) (ap (λ (y : Option Open). left_of y (state_of c l) w) o ∙ left-of g did [] (state_of c l) w v) (well, same)
  carried-able {w' = w'} l (step {did = did} {x = x} {xs = xs} {w = w} {v = u} {r = r} form next applies bytes same-room formed rest) e h o b f k well same =
      let m : (state_of c l).number ≡ c.number + length l = number-at_end (log_of c l) in
      let (does, follows, fits) = next_fits did x xs (state_of c l) w r b o (omega (arith, m, k)) next in
      let ends : Ending (state_of c l).unit (x ∷ xs) = ending_of did x xs (state_of c l) (sound-at_end (log_of c l) h.good).waits o in
      let st : Stands ((state_of c l).number + 1) r = fits-stands (sound-at_end (log_of c l) h.good) (end-keeps (log_of c l) h.good) fits in
      let q : step_size w x + room w xs ≡ room w (x ∷ xs) = unfold room in refl in
      let h' : Stored c (l ++ (r ∷ [])) = stored-grown c l r h fits (omega (arith, f, q, bytes)) in
      let o' : (state_of c (l ++ (r ∷ []))).opened ≡ open_of g (r ∷ did) xs = opened-grown c l r ∙ ap (opened_by r) o ∙ opened-by g did xs does ends in
      let a : length (l ++ (r ∷ [])) ≡ length l + 1 = length-append l (r ∷ []) in
      more (h.good, h.fits) (ap (λ (y : Option Open). left_of y (state_of c l) w) o ∙ left-of g did (x ∷ xs) (state_of c l) w v)
      (ap (λ (y : Option Open). left_of y (state_of c (l ++ (r ∷ []))) u) o' ∙ left-of g (r ∷ did) xs (state_of c (l ++ (r ∷ []))) u v)
      (next-of g did x xs (state_of c l) w r v o next f (omega (arith, m, k))) (subst (λ (i : ℕ). apply i r w ≡ some u) e applies)
      (carried-able (l ++ (r ∷ [])) rest (omega (arith, e, a)) h' o' (apply-bytes _ r w u st.rows b applies)
      (omega (arith, at-grown c l r, f, q, bytes, same-room)) (omega (arith, k, a)) well
      (same ∙ sym (saved-step did x xs (state_of c l).unit l r (all_records (pages origin)) follows)))

  -- so it is open behind its begin record
  pub begun_opened : (l : List Rec) → (state_of c (l ++ (LB g ∷ []))).opened ≡ open_of g [] (plan g)
  unfolding opened_by
  begun_opened l = opened-grown c l (LB g) ∙ open-rest g [] (plan g) (plan-ending g)
