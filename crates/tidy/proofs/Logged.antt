-- The records of a unit that was carried out may come next in the log, and end the unit: a log in form stays in form. They are as many as
-- the steps and take the bytes that were counted for these. Assumes nothing.
use Prim.Native.Nat.{ℕ, suc, ◌+◌, ◌≤◌}
use native.Mathlib.Omega.{arith}
use mathlib.Core.Path.{◌≡◌, refl, sym, ap, ◌∙◌, subst}
use mathlib.Core.Bool.{false}
use mathlib.Core.List.{List, [], ◌∷◌}
use mathlib.Core.Option.{Option, some, none, some-injective}
use lib.ListN.{length, drop}
use Rattle.field.specs.Test.{bind}
use Rattle.field.specs.Bytes.{Bytes, most4}
use Rattle.field.proofs.Byte.{bytes-nil}
use Rattle.page.proofs.Pages.{bytes-page}
use Rattle.logs.specs.Record.{Begin, saves, Rec, LB, size}
use Rattle.page.specs.Each.{Each}
use Rattle.logs.specs.Plan.{Step, close, plan}
use Rattle.logs.specs.Log.{Open, State, going, opened_by, after, after_all}
use Rattle.logs.proofs.Begin.{begin-none}
use Rattle.logs.proofs.Valid.{does-bears}
use Rattle.logs.proofs.Plan.{Works, works_out, works-in, works-point, Ending, last, more, plan-ending}
use Rattle.logs.specs.Valid.{Does, does-out, does-in, does-point, does-close, Follows, begins, goes, Fits, Valid, nil, cons}
use Rattle.unit.specs.Next.{apply, target_of, page_of, next_rec, step_size, room}
use Rattle.tidy.specs.Tidy.{Tidy, Carried, done, step, Keeps}
use Rattle.tidy.proofs.Next.{next-does}

-- the page that a step changes is of bytes
target-bytes : (o : Option ℕ) (w : List ℕ) → Bytes w → Bytes (page_of o w)
unfolding page_of
target-bytes none w b = bytes-nil
target-bytes (some p) w b = bytes-page p w b

-- the unit stays open after a step but LE
still_open : {did : List Rec} {x : Step} {r : Rec} (o : Open) → Works x → Does did x r → opened_by r (some o) ≡ some (going r o)
unfolding opened_by bind
still_open o works_out (does-out m) = refl
still_open o works-in (does-in e) = refl
still_open o works-point (does-point h) = refl

-- LE ends it
ended : {did : List Rec} {u : ℕ} {r : Rec} (o : Option Open) → Does did (close u) r → opened_by r o ≡ none
unfolding opened_by
ended o does-close = refl

-- the records may come next after the state s, whose open unit has these steps to come, and no unit is open after them
pub record Logged (s : State) (rs : List Rec) : Type 0 where
  pub valid : Valid s rs
  pub shut : (after_all s rs).opened ≡ none

-- the next record fits
fits : (s : State) (o : Open) (x : Step) (xs : List Step) (r : Rec) → s.opened ≡ some o → saves o.start ≡ false → o.todo ≡ x ∷ xs → Does o.did x r → s.number + 1 ≤ most4
    → Fits s r
fits s o x xs r e v t d h = record { room = h; follows = subst (λ (z : Option Open). Follows s.unit z r) (sym e) (goes v t d); bears = does-bears _ d }

-- by the steps, of which the last and no other ends the unit
pub logged : {u n : ℕ} {did : List Rec} {todo : List Step} {w w' : List ℕ} {rs : List Rec} → Ending u todo → Carried n did todo w w' rs
    → (s : State) (o : Open) → s.opened ≡ some o → saves o.start ≡ false → o.did ≡ did → o.todo ≡ todo → s.number + 1 ≡ n → n + length todo ≤ most4 + 1 → Bytes w → Logged s rs
unfolding after after_all going
logged last (step {n = n} {did = did} {x = x} {w = w} {r = r} f next a z q sd done) s o e v d t m few b =
    let does : Does o.did x r = rw d (next-does x did (page_of (target_of x) w) r (target-bytes (target_of x) w b) next) in
    record {
      valid = cons (fits s o x [] r e v t does (omega arith)) nil;
      shut = ended s.opened does;
    }
logged (more works end) (step {n = n} {did = did} {x = x} {xs = xs} {w = w} {v = v} {r = r} f next a z q sd c) s o e v' d t m few b =
    let does : Does o.did x r = rw d (next-does x did (page_of (target_of x) w) r (target-bytes (target_of x) w b) next) in
    let open_next : opened_by r s.opened ≡ some (going r o) = ap (opened_by r) e ∙ still_open o works does in
    let rest = logged {n = n + 1} end c (after s r) (going r o) open_next v' (ap (λ (l : List Rec). r ∷ l) d) (ap (drop 1) t) (ap (λ (k : ℕ). k + 1) m) (omega arith) sd.bytes in
    record { valid = cons (fits s o x xs r e v' t does (omega arith)) rest.valid; shut = rest.shut }

-- a whole unit, from its begin record on
pub unit-logged : (w : List ℕ) (n : ℕ) (g : Begin) → Tidy w → (k : Keeps n g w) (s : State) → s.opened ≡ none → g.unit ≡ s.unit + 1 → s.number + 2 ≡ n
    → n + length (plan g) ≤ most4 + 1 → Logged s (LB g ∷ k.recs)
unfolding after after_all opened_by
unit-logged w n g tidy k s e u m few =
    let o : Open = record { start = g; did = []; todo = plan g } in
    let first_fits : Fits s (LB g) = record { room = omega arith; follows = subst (λ (z : Option Open). Follows s.unit z (LB g)) (sym e) (begins u k.ok (rw (begin-none g k.ok k.plain) Each.nil) (rw (begin-none g k.ok k.plain) Each.nil)); bears = tt } in
    let next : s.number + 1 + 1 ≡ n = omega arith in
    let rest = logged (plan-ending g) k.carried (after s (LB g)) o refl k.plain refl refl next few tidy.bytes in
    record { valid = cons first_fits rest.valid; shut = rest.shut }

-- ---- where the log ends after them

-- as many records as steps
pub carried-length : {n : ℕ} {did : List Rec} {todo : List Step} {w w' : List ℕ} {rs : List Rec} → Carried n did todo w w' rs → length rs ≡ length todo
carried-length done = refl
carried-length (step f next a z q sd c) = ap suc (carried-length c)

-- the log's end moves by the room that was counted
pub carried-at : {n : ℕ} {did : List Rec} {todo : List Step} {w w' : List ℕ} {rs : List Rec} (s : State) → Carried n did todo w w' rs
    → (after_all s rs).at ≡ s.at + room w todo
unfolding after after_all room
carried-at s done = omega arith
carried-at s (step {x = x} {xs = xs} {w = w} {v = v} {r = r} f next a z q sd c) = carried-at (after s r) c ∙ sum
  where
    sum : s.at + size r + room v xs ≡ s.at + (step_size w x + room w xs)
    sum = omega arith

-- ---- from the middle of a unit

-- a step can be made in one way only: after it the other steps are carried out from where it led
pub carried-next : {n : ℕ} {did : List Rec} {x : Step} {xs : List Step} {w w' : List ℕ} {rs : List Rec} (r : Rec) (v : List ℕ) → Carried n did (x ∷ xs) w w' rs
    → next_rec x did (page_of (target_of x) w) ≡ some r → apply n r w ≡ some v → (qs : List Rec) × (rs ≡ r ∷ qs) × Carried (n + 1) (r ∷ did) xs v w' qs
carried-next {n} {did} {x} {xs} {w} {w'} r v (step {v = v₀} {r = r₀} {rs = qs} f next a z q sd c) e made =
    let same-rec : r₀ ≡ r = some-injective r₀ r (sym next ∙ e) in
    let same-pages : v₀ ≡ v = some-injective v₀ v (sym a ∙ ap (λ (t : Rec). apply n t w) same-rec ∙ made) in (
      qs,
      ap (λ (t : Rec). t ∷ qs) same-rec,
      subst (λ (t : Rec). Carried (n + 1) (t ∷ did) xs v w' qs) same-rec (subst (λ (p : List ℕ). Carried (n + 1) (r₀ ∷ did) xs p w' qs) same-pages c),
    )
