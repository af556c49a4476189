-- Inside a history a begin never refuses the log, a page, a page change or the tree, and a step is accepted wherever a unit is open. Assumes
-- nothing but the unit laws, which are handed in.
use Prim.Native.Nat.{ℕ}
use native.Mathlib.Omega.{arith}
use mathlib.Core.Path.{◌≡◌, refl, sym, ap, ◌∙◌}
use mathlib.Core.Logic.{⊎_elim}
use mathlib.Core.Bool.{Bool, true, false, not}
use mathlib.Core.List.{List, []}
use mathlib.Core.Option.{Option, some, none}
use Rattle.field.specs.Test.{pick, need, given, there}
use Rattle.field.proofs.Test.{need-true, need-false, given-some}
use Rattle.page.specs.Pages.{pages}
use Rattle.page.proofs.Pages.{formed-pages}
use Rattle.logs.specs.Record.{Begin}
use Rattle.logs.specs.Log.{Open, images_of, read_log}
use Rattle.unit.specs.Choice.{order_unit}
use Rattle.saving.specs.Save.{Changed, cannot, sheets}
use Rattle.saving.specs.Rest.{refuses, begins, imaging, saving, sheets_of, resumed}
use Rattle.saving.proofs.Replies.{Comes, sheets-come}
use Rattle.store.specs.Calls.{Lent, Left, refused, begun_with, begun, begin_with, saving_all, begin_save, stepped}
use Rattle.store.specs.Calls as Calls
use Rattle.store.proofs.Refusals.{reply-refused}
use Rattle.replay.specs.Store.{Settled}
use Rattle.replay.specs.Laws.{UnitLaws}
use Rattle.replay.proofs.Theorem.{ran-step}
use Rattle.promise.specs.Parts.{log_of, state_of, store, asked}
use Rattle.promise.specs.Promise.{Spared, Steps}
use Rattle.promise.proofs.OnPages.{page-laws}
use Rattle.promise.proofs.Image.{read-image}
use Rattle.promise.proofs.Live.{Ran, stored, two_sized_lem, known-ran}
use Rattle.promise.proofs.Called.{settled, step_is, step-none, open-left, not_there}

-- a call that was accepted, or refused with another number
spared-zero : (x : Left) → x.reply ≡ 0 → Spared x
spared-zero x e = record { log = λ q. omega arith; form = λ q. omega arith; change = λ q. omega arith; tree = λ q. omega arith }

other : (k r : ℕ) (d : Lent) → (r ≡ 2 → ⊥) → (r ≡ 3 → ⊥) → (r ≡ 5 → ⊥) → (r ≡ 8 → ⊥) → Spared (refused k r d)
unfolding refused
other k r d a b c e = record { log = a; form = b; change = c; tree = e }

spared-test : (b : Bool) (x y : Left) → Spared x → Spared y → Spared (need b x y)
unfolding need
spared-test true x y h k = k
spared-test false x y h k = h

spared-value : {A : Type 0} (o : Option A) (x : Left) (f : A → Left) → Spared x → ((a : A) → Spared (f a)) → Spared (given o x f)
unfolding given
spared-value none x f h k = h
spared-value (some a) x f h k = k a

module _ (U : UnitLaws store asked) {origin : List ℕ} (d : Lent) (v : Ran origin d) where
  r6 : Spared (refused 0 6 d)
  r6 = other 0 6 d (λ q. omega arith) (λ q. omega arith) (λ q. omega arith) (λ q. omega arith)

  r7 : Spared (refused 0 7 d)
  r7 = other 0 7 d (λ q. omega arith) (λ q. omega arith) (λ q. omega arith) (λ q. omega arith)

  r9 : Spared (refused 0 9 d)
  r9 = other 0 9 d (λ q. omega arith) (λ q. omega arith) (λ q. omega arith) (λ q. omega arith)

  r11 : Spared (refused 0 11 d)
  r11 = other 0 11 d (λ q. omega arith) (λ q. omega arith) (λ q. omega arith) (λ q. omega arith)

  r12 : Spared (refused 0 12 d)
  r12 = other 0 12 d (λ q. omega arith) (λ q. omega arith) (λ q. omega arith) (λ q. omega arith)

  r15 : Spared (refused 0 15 d)
  r15 = other 0 15 d (λ q. omega arith) (λ q. omega arith) (λ q. omega arith) (λ q. omega arith)

  r16 : Spared (refused 0 16 d)
  r16 = other 0 16 d (λ q. omega arith) (λ q. omega arith) (λ q. omega arith) (λ q. omega arith)

  r18 : Spared (refused 0 18 d)
  r18 = other 0 18 d (λ q. omega arith) (λ q. omega arith) (λ q. omega arith) (λ q. omega arith)

  begun-spared : (g : Begin) (long many : ℕ) → Spared (begun_with d (state_of v.top v.recs) g long many)
  unfolding begun_with stepped
  begun-spared g long many = spared-test _ _ _ r6 (spared-test _ _ _ r7 (spared-zero _ refl))

  -- past test 9 the pages are in form and the tree is well formed
  shut-spared : (choose : ℕ → List (List ℕ) → Option Begin) → (b : Bool) → b ≡ not (there (state_of v.top v.recs).opened)
      → Spared (begin_with d (state_of v.top v.recs) choose)
  unfolding begin_with begun
  shut-spared choose false e = rw (need-false _ (refused 0 9 d) _ (sym e)) r9
  shut-spared choose true e =
      let s : Settled store asked origin d.work v.top v.recs = settled U d v (not_there (state_of v.top v.recs).opened (sym e)) in
      rw (need-true _ (refused 0 9 d) _ (sym e))
      (rw (need-true _ (refused 0 3 d) _ (formed-pages d.work s.formed.form))
      (rw (need-true _ (refused 0 8 d) _ s.fine.0)
      (spared-value _ _ _ r11 (λ g. begun-spared g _ _))))

  begin-spared : (choose : ℕ → List (List ℕ) → Option Begin) → Spared (begin_with d (state_of v.top v.recs) choose)
  begin-spared choose = shut-spared choose (not (there (state_of v.top v.recs).opened)) refl

  pub begin-compact-spared : (fill : ℕ) → Spared (Calls.begin_compact fill d)
  unfolding Calls.begin_compact
  begin-compact-spared fill =
      rw (need-true _ (refused 0 1 d) _ (two_sized_lem U d v))
      (rw (given-some _ (log_of v.top v.recs) (refused 0 2 d) _ (known-ran U d v))
      (spared-test _ _ _ r12 (begin-spared _)))

  pub begin-order-spared : Spared (Calls.begin_order d)
  unfolding Calls.begin_order
  begin-order-spared =
      rw (need-true _ (refused 0 1 d) _ (two_sized_lem U d v))
      (rw (given-some _ (log_of v.top v.recs) (refused 0 2 d) _ (known-ran U d v)) (begin-spared order_unit))

  -- what a put or delete comes to over such pages: 18, 15, or its records
  came-spared : (g : Begin) (n : ℕ) (x : Changed) → Comes x → Spared (saving_all d (state_of v.top v.recs) g (saving g n [] x))
  unfolding saving_all saving imaging begins need
  came-spared g n (cannot q) h =
      ⊎_elim (λ (e : q ≡ 18). rw e r18) (λ (e : q ≡ 15). rw e r15) h
  came-spared g n (sheets xs) h = begun-spared g _ _

  save-shut : (g : Begin) → (b : Bool) → b ≡ not (there (state_of v.top v.recs).opened) → Spared (begin_save d (state_of v.top v.recs) g)
  unfolding begin_save resumed images_of
  save-shut g false e = rw (need-false _ (refused 0 9 d) _ (sym e)) r9
  save-shut g true e =
      let s : Settled store asked origin d.work v.top v.recs = settled U d v (not_there (state_of v.top v.recs).opened (sym e)) in
      rw (need-true _ (refused 0 9 d) _ (sym e))
      (rw (need-true _ (refuses 3) _ (formed-pages d.work s.formed.form))
      (rw (need-true _ (refuses 8) _ s.fine.0) (came-spared g _ (sheets_of g (pages d.work)) (sheets-come g (pages d.work)))))

  save-spared : (g : Begin) → Spared (begin_save d (state_of v.top v.recs) g)
  save-spared g = save-shut g (not (there (state_of v.top v.recs).opened)) refl

  pub begin-put-spared : Spared (Calls.begin_put d)
  unfolding Calls.begin_put
  begin-put-spared =
      rw (need-true _ (refused 0 1 d) _ (two_sized_lem U d v))
      (rw (given-some _ (log_of v.top v.recs) (refused 0 2 d) _ (known-ran U d v))
      (spared-test _ _ _ r12 (spared-test _ _ _ r16 (save-spared _))))

  pub begin-delete-spared : (key : ℕ) → Spared (Calls.begin_delete key d)
  unfolding Calls.begin_delete
  begin-delete-spared key =
      rw (need-true _ (refused 0 1 d) _ (two_sized_lem U d v))
      (rw (given-some _ (log_of v.top v.recs) (refused 0 2 d) _ (known-ran U d v)) (save-spared _))

  -- a step is accepted where a unit is open, and there is nothing to do otherwise
  step-replies : (o : Option Open) → (state_of v.top v.recs).opened ≡ o → (Calls.step d).reply ≡ pick (there o) 0 10
  unfolding pick there
  step-replies none e = ap (λ (x : Left). x.reply) (step-none U d v e) ∙ reply-refused 0 d 10
  step-replies (some o) e =
      let (k, z) = open-left U d v o e in
      let (r, w', next, applies, fewer) = ran-step store asked page-laws U v.settled v.uncut z in
      ap (λ (x : Left). x.reply) (step_is U d v k r w' z next applies)

  pub steps : Steps d
  steps =
      record {
        log = log_of v.top v.recs;
        is = ap read_log v.log ∙ read-image v.top v.recs (stored U d v).good;
        reply = step-replies (state_of v.top v.recs).opened refl;
      }
