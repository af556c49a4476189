-- Every call on a live state leaves a live state, whether it is accepted or refused. Assumes nothing but the unit laws, which are handed in.
use Prim.Native.Nat.{ℕ, zero, suc, ◌+◌, ◌≤◌}
use native.Mathlib.Omega.{arith}
use mathlib.Core.Path.{◌≡◌, refl, sym, ap, ◌∙◌, subst, subst₂}
use mathlib.Core.Logic.{inl, inr}
use mathlib.Core.Bool.{Bool, true, false, not, false≢true}
use mathlib.Core.List.{List, [], ◌∷◌, ◌++◌}
use mathlib.Core.Option.{Option, some, none}
use lib.ListN.{length, take}
use lib.Seq.{take-length}
use lib.Dec.{eqb, leb}
use borrow.Author.Tests.{eqb-true, leb-true, ltb-true}
use Rattle.field.specs.Test.{pick, need, given, there}
use Rattle.field.specs.Bytes.{put, most4}
use Rattle.field.proofs.Test.{both-1, both-2, pick-either, need-true, given-some}
use Rattle.field.proofs.Same.{same-eq}
use Rattle.page.specs.Page.{number}
use Rattle.page.specs.Pages.{page, pages}
use Rattle.logs.specs.Record.{Check, Begin, saves, Rec, LB, encode, sizes}
use Rattle.logs.specs.Write.{save_of}
use Rattle.logs.specs.Plan.{Step}
use Rattle.logs.specs.Log.{Open, State, after, read_log, last_forced}
use Rattle.logs.proofs.State.{at-at_end, number-at_end}
use Rattle.logs.specs.Valid.{Good}
use Rattle.logs.proofs.Sound.{Waits, sound-at_end}
use Rattle.tree.specs.Tree.{all_records}
use Rattle.tree.specs.Answer.{Found, missing, found}
use Rattle.unit.specs.Choice.{order_unit}
use Rattle.unit.specs.Next.{targets, apply, target_of}
use Rattle.unit.proofs.Pagewise.{apply-stays}
use Rattle.unit.proofs.Places.{Keeping, one_more, StepKeeps, OpenKeeps, end-keeps}
use Rattle.saving.specs.Rest.{Rest, refuses, lacks}
use Rattle.store.specs.Calls.{Lent, lent, Left, left, refused, log_length, stopped, formed_at, stepped, begun_with, begun, begin_with, deleting, saving_all, begin_save, checkpointed, answered}
use Rattle.store.specs.Calls as Calls
use Rattle.forward.specs.Appends.{append_open}
use Rattle.stepping.specs.Formed.{first_formed, open_formed}
use Rattle.stepping.proofs.Steps.{step-shut, step-goes-on, with_open}
use Rattle.replay.specs.Store.{Formed, Settled, Uncut, Reached}
use Rattle.replay.specs.Laws.{UnitLaws}
use Rattle.replay.proofs.Theorem.{ran-shape, ran_settled, ran-step}
use Rattle.promise.specs.Promise.{saved_by}
use Rattle.promise.specs.Parts.{log_of, state_of, left_of, next_in, store, asked, Chooses, Carries, to-put, to-delete, Wants, tidying, saving, Begins, Checks}
use Rattle.promise.proofs.OnPages.{page-laws}
use Rattle.promise.proofs.Image.{image, put-image, at-grown, forced-image, read-image}
use Rattle.promise.proofs.Forward.{left-none, left_open, some-open, open_is, apply_at}
use Rattle.promise.proofs.Standing.{last_fits}
use Rattle.promise.proofs.Refused.{refused-now}
use Rattle.promise.proofs.Written.{bytes-written}
use Rattle.promise.proofs.Live.{Live, live-bytes, image-bare, Ran, stored_of, ran-of, stored, work-pages, two_sized_lem, known-ran, live-grown}

module _ {rs : List (List ℕ)} {origin : List ℕ} {d : Lent} where
  -- a state that a call leaves is the one that it was lent
  pub live_same : (x : Left) → x.now ≡ d → Live rs origin d → Live rs origin x.now
  live_same x e v = subst (Live rs origin) (sym e) v

  -- by a test: refused, or on
  by-test : (b : Bool) (k r : ℕ) (y : Left) → Live rs origin d → (b ≡ true → Live rs origin y.now) → Live rs origin (need b (refused k r d) y).now
  unfolding need
  by-test true k r y v f = f refl
  by-test false k r y v f = live_same (refused k r d) (refused-now k r d) v

  -- by a value
  by_value : {A : Type 0} (o : Option A) (k r : ℕ) (y : A → Left) → Live rs origin d → ((a : A) → o ≡ some a → Live rs origin (y a).now)
      → Live rs origin (given o (refused k r d) y).now
  unfolding given
  by_value none k r y v f = live_same (refused k r d) (refused-now k r d) v
  by_value (some a) k r y v f = f a refl

pub not_there : {A : Type 0} (o : Option A) → not (there o) ≡ true → o ≡ none
unfolding there
not_there none e = refl
not_there (some a) e = absurd (false≢true e)

-- the page that a step changes is one of the 64, and in form
formed-target : (x : Step) (w : List ℕ) → StepKeeps x → Formed store asked w → formed_at (target_of x) w ≡ true
unfolding formed_at target_of
formed-target (Rattle.logs.specs.Plan.take_out org dest) w k f = f.form org (omega (arith, k.1))
formed-target (Rattle.logs.specs.Plan.bring_in org dest back) w k f = f.form dest (omega (arith, k.1))
formed-target (Rattle.logs.specs.Plan.point base old new other) w k f = f.form base (omega (arith, k.0.1))
formed-target (Rattle.logs.specs.Plan.close unit) w k f = refl

keeps-head : (x : Step) (xs : List Step) → Keeping (x ∷ xs) → StepKeeps x
keeps-head x xs (one_more h r) = h

-- test 3 of a step passes
first-formed : (todo : List Step) (w : List ℕ) → Keeping todo → Formed store asked w → first_formed todo w ≡ true
unfolding first_formed
first-formed [] w k f = refl
first-formed (x ∷ xs) w k f = formed-target x w (keeps-head x xs k) f

open-formed : (o : Open) (w : List ℕ) → Keeping o.todo → Formed store asked w → open_formed o w ≡ true
unfolding open_formed
open-formed o w k f = pick-either (λ (t : Bool). t ≡ true) (saves o.start) true (first_formed o.todo w) refl (first-formed o.todo w k f)

-- the end of a check record alone
pub bare-at : (k : Check) → (state_of k []).at ≡ 24
unfolding sizes
bare-at k = at-at_end (log_of k [])

pub nothing-forced : 24 ≡ 24 + sizes (take 0 [])
unfolding sizes
nothing-forced = refl

-- an LB changes no page
pub apply-begin : (n : ℕ) (g : Begin) (w : List ℕ) → apply n (LB g) w ≡ some w
apply-begin n g w = apply-stays n (LB g) w (unfold targets in refl)

module _ (U : UnitLaws store asked) {origin : List ℕ} (d : Lent) (v : Ran origin d) where
  -- what is known at its log's end
  abbrev end : State
  end = state_of v.top v.recs

  -- between two units the work pages are a well-formed tree in form
  pub settled : end.opened ≡ none → Settled store asked origin d.work v.top v.recs
  settled e = ran_settled store asked page-laws U v.settled v.uncut (left-none end.opened end d.work e)

  -- the step that the generic half gives is accepted, and is what the call does
  pub step_is : (k : ℕ) (r : Rec) (w' : List ℕ) → store.left v.top d.work v.recs ≡ suc k
      → store.next v.top d.work v.recs ≡ some r → apply (v.top.number + length v.recs + 1) r d.work ≡ some w'
      → Calls.step d
      ≡ left 0 [] (lent (state_of v.top (v.recs ++ (r ∷ []))).at d.forced w' d.store (image v.top (v.recs ++ (r ∷ []))) d.bytes)
  unfolding stepped
  step_is k r w' z next applies =
      let g : Good (log_of v.top v.recs) = (stored U d v).good in
      let (o, e) = some-open end.opened end d.work k z in
      let h : Good (log_of v.top (v.recs ++ (r ∷ []))) =
      (ran-shape store asked page-laws U v.settled (Uncut.step v.uncut z next applies)).0 in
      let keeps : Keeping o.todo = (subst OpenKeeps e (end-keeps (log_of v.top v.recs) g)).0 in
      let here : apply (end.number + 1) r d.work ≡ some w' =
      apply_at (v.top.number + length v.recs) end.number r d.work w' (sym (number-at_end (log_of v.top v.recs))) applies in
      step-goes-on d (two_sized_lem U d v) (log_of v.top v.recs) (known-ran U d v) o e
      ∙ ap (stepped d)
      (with_open o end d.work d.log
      ∙ need-true (open_formed o d.work) (stopped 3) _ (open-formed o d.work keeps (work-pages U d v))
      ∙ ap (append_open o end d.work) v.log
      ∙ open_is v.top v.recs d.work w' r g (last_fits v.top v.recs r h) here o
      (subst (λ (y : Option Open). next_in y end d.work ≡ some r) e next))

  -- no unit is open
  pub step-none : end.opened ≡ none → Calls.step d ≡ refused 0 10 d
  step-none e = step-shut d (two_sized_lem U d v) (log_of v.top v.recs) (known-ran U d v) e

  -- an open unit still lacks records
  pub open-left : (o : Open) → end.opened ≡ some o → (k : ℕ) × (store.left v.top d.work v.recs ≡ suc k)
  open-left o e =
      let f : Formed store asked d.work = work-pages U d v in
      let h : Waits end.unit (some o) = subst (Waits end.unit) e (sound-at_end (log_of v.top v.recs) (stored U d v).good).waits in
      let n : 1 ≤ left_of (some o) end d.work = left_open o end d.work h f.sized.0 f.sized.1 in
      one_less (left_of end.opened end d.work) (subst (λ (y : Option Open). 1 ≤ left_of y end d.work) (sym e) n)
    where
      one_less : (n : ℕ) → 1 ≤ n → (k : ℕ) × (n ≡ suc k)
      one_less zero h = absurd (omega arith)
      one_less (suc k) h = (k, refl)

module _ (U : UnitLaws store asked) {rs : List (List ℕ)} {origin : List ℕ} (d : Lent) (v : Live rs origin d) where
  -- its work pages and log, as those of an uncut run
  abbrev here : Ran origin d
  here = ran-of U v

  -- ---- begin

  -- tests 6 and 7, and the begin record of a unit that is wanted
  begun-live : (g : Begin) (long many : ℕ) → (state_of v.top v.recs).opened ≡ none → Wants (state_of v.top v.recs) d.work g long many
      → Live rs origin (begun_with d (state_of v.top v.recs) g long many).now
  unfolding begun_with stepped after
  begun-live g long many e h =
      by-test _ 0 6 _ v (λ fits. by-test _ 0 7 _ v (λ nums.
      let b : Begins v.top d.work v.recs (LB g) =
      record {
        begun = g;
        long = long;
        many = many;
        is = refl;
        wants = h;
        fits = leb-true _ log_length fits;
        numbered = leb-true _ most4 (both-1 _ _ nums);
        unit = leb-true g.unit most4 (both-2 _ _ nums);
      } in
      live-grown U d v (LB g) d.work
      (Reached.begin v.reached (left-none (state_of v.top v.recs).opened (state_of v.top v.recs) d.work e) b (apply-begin _ g d.work))))

  begin-live : (choose : ℕ → List (List ℕ) → Option Begin)
      → ((g : Begin) → choose ((state_of v.top v.recs).unit + 1) (pages d.work) ≡ some g → Chooses (state_of v.top v.recs) d.work g)
      → Live rs origin (begin_with d (state_of v.top v.recs) choose).now
  unfolding begin_with begun
  begin-live choose ch =
      by-test _ 0 9 _ v (λ shut. by-test _ 0 3 _ v (λ form. by-test _ 0 8 _ v (λ well.
      by_value _ 0 11 _ v (λ g e. begun-live g _ _ (not_there (state_of v.top v.recs).opened shut) (tidying (ch g e))))))

  pub begin-compact-live : (fill : ℕ) → Live rs origin (Calls.begin_compact fill d).now
  unfolding Calls.begin_compact
  begin-compact-live fill =
      by-test _ 0 1 _ v (λ sized. rw (given-some _ (log_of v.top v.recs) (refused 0 2 d) _ (known-ran U d here))
      (by-test _ 0 12 _ v (λ ok. begin-live _ (λ g e. inl (fill, leb-true fill 15 ok, e)))))

  pub begin-order-live : Live rs origin (Calls.begin_order d).now
  unfolding Calls.begin_order
  begin-order-live =
      by-test _ 0 1 _ v (λ sized. rw (given-some _ (log_of v.top v.recs) (refused 0 2 d) _ (known-ran U d here))
      (begin-live order_unit (λ g e. inr e)))

  -- what a put or delete lacks is worked out
  rest_live : (g : Begin) → (state_of v.top v.recs).opened ≡ none → (x : Rest)
      → ((ls : List Rec) → x ≡ lacks ls → Wants (state_of v.top v.recs) d.work g (sizes ls) (length ls))
      → Live rs origin (saving_all d (state_of v.top v.recs) g x).now
  unfolding saving_all
  rest_live g shut (refuses q) h = live_same (refused 0 q d) (refused-now 0 q d) v
  rest_live g shut (lacks ls) h = begun-live g (sizes ls) (length ls) shut (h ls refl)

  save-live : (type : ℕ) (r : List ℕ) → Carries type r
      → Live rs origin (begin_save d (state_of v.top v.recs) (save_of ((state_of v.top v.recs).unit + 1) type r)).now
  unfolding begin_save
  save-live type r h = by-test _ 0 9 _ v (λ shut. rest_live _ (not_there (state_of v.top v.recs).opened shut) _ (λ ls e. saving h e))

  pub begin-put-live : Live rs origin (Calls.begin_put d).now
  unfolding Calls.begin_put
  begin-put-live =
      by-test _ 0 1 _ v (λ sized. rw (given-some _ (log_of v.top v.recs) (refused 0 2 d) _ (known-ran U d here))
      (by-test _ 0 12 _ v (λ whole. by-test _ 0 16 _ v (λ mark. save-live 4 d.bytes (to-put (eqb-true (length d.bytes) 16 whole) mark v.bytes)))))

  pub begin-delete-live : (key : ℕ) → Live rs origin (Calls.begin_delete key d).now
  unfolding Calls.begin_delete
  begin-delete-live key =
      by-test _ 0 1 _ v (λ sized. rw (given-some _ (log_of v.top v.recs) (refused 0 2 d) _ (known-ran U d here))
      (save-live 5 (deleting key) (to-delete key)))

  -- ---- step

  -- the log after the record r, as bytes
  log-grown : (r : Rec) → Good (log_of v.top (v.recs ++ (r ∷ [])))
      → put (state_of v.top v.recs).at (encode ((state_of v.top v.recs).number + 1) r) d.log ≡ image v.top (v.recs ++ (r ∷ []))
  log-grown r g =
      ap (put (state_of v.top v.recs).at (encode ((state_of v.top v.recs).number + 1) r)) v.log
      ∙ put-image v.top v.recs r (stored_of U v.reached).good (last_fits v.top v.recs r g)

  step-open : (k : ℕ) → store.left v.top d.work v.recs ≡ suc k → Live rs origin (Calls.step d).now
  step-open k z =
      let (r, w', next, applies, fewer) = ran-step store asked page-laws U here.settled here.uncut z in
      let h : Reached store asked origin (some w') d.store v.top (v.recs ++ (r ∷ [])) v.many =
      Reached.step v.reached z next applies in
      rw (step_is U d here k r w' z next applies)
      (subst₂ (λ (a : ℕ) (b : List ℕ). Live rs origin (lent a d.forced w' d.store b d.bytes)) (sym (at-grown v.top v.recs r))
      (log-grown r (stored_of U h).good) (live-grown U d v r w' h))

  pub step-live : Live rs origin (Calls.step d).now
  step-live = by-open (state_of v.top v.recs).opened refl
    where
      by-open : (o : Option Open) → (state_of v.top v.recs).opened ≡ o → Live rs origin (Calls.step d).now
      by-open none e = rw (step-none U d here e) (live_same (refused 0 10 d) (refused-now 0 10 d) v)
      by-open (some o) e = let (k, z) = open-left U d here o e in step-open k z

  -- ---- flush, force, checkpoint

  -- the last forced record's number is its place
  flush-test : (p : ℕ) → given (last_forced d.forced (log_of v.top v.recs)) false (leb (number (page p d.work))) ≡ true
      → number (page p d.work) ≤ v.top.number + v.many
  flush-test p e =
      leb-true (number (page p d.work)) (v.top.number + v.many)
      (sym (given-some (last_forced d.forced (log_of v.top v.recs)) (v.top.number + v.many) false (leb (number (page p d.work)))
      (forced-image d v.top v.recs v.many v.numbered)) ∙ e)

  pub flush-live : (p : ℕ) → Live rs origin (Calls.flush p d).now
  unfolding Calls.flush
  flush-live p =
      by-test _ 0 1 _ v (λ sized. rw (given-some _ (log_of v.top v.recs) (refused 0 2 d) _ (known-ran U d here))
      (by-test _ 0 12 _ v (λ small. by-test _ 0 13 _ v (λ e. record {
        records = v.records;
        top = v.top;
        recs = v.recs;
        many = v.many;
        reached = Reached.flush p v.reached (ltb-true p 64 small) (flush-test p e);
        log = v.log;
        numbered = record { used = v.numbered.used; forced = v.numbered.forced; among = v.numbered.among };
        bytes = v.bytes;
      }))))

  pub force-live : Live rs origin (Calls.force d).now
  unfolding Calls.force
  force-live =
      by-test _ 0 1 _ v (λ sized. rw (given-some _ (log_of v.top v.recs) (refused 0 2 d) _ (known-ran U d here))
      (record {
        records = v.records;
        top = v.top;
        recs = v.recs;
        many = length v.recs;
        reached = Reached.force v.reached;
        log = v.log;
        numbered = record {
          used = v.numbered.used;
          forced = v.numbered.used ∙ at-at_end (log_of v.top v.recs) ∙ ap (λ (a : List Rec). 24 + sizes a) (sym (take-length v.recs));
          among = omega arith;
        };
        bytes = v.bytes;
      }))

  -- an accepted checkpoint writes a check record: the pages at that record are then the work pages, the records those that the log has made
  abbrev Anew : Left → Type 0
  Anew x =
      Live (pick (eqb x.reply 0) (given (read_log d.log) rs (λ g. saved_by g.recs rs)) rs) (pick (eqb x.reply 0) d.work origin) x.now

  read_here : read_log d.log ≡ some (log_of v.top v.recs)
  read_here = ap read_log v.log ∙ read-image v.top v.recs (stored U d here).good

  records-here : Settled store asked origin d.work v.top v.recs
      → all_records (pages d.work) ≡ given (read_log d.log) rs (λ g. saved_by g.recs rs)
  records-here s =
      s.fine.1 ∙ ap (saved_by v.recs) v.records
      ∙ sym (given-some (read_log d.log) (log_of v.top v.recs) rs (λ g. saved_by g.recs rs) read_here)

  anew-test : (b : Bool) (r : ℕ) (y : Left) → eqb r 0 ≡ false → (b ≡ true → Anew y) → Anew (need b (refused 0 r d) y)
  unfolding need refused pick
  anew-test true r y z f = f refl
  anew-test false r y z f = rw z v

  pub checkpoint-live : (clear : Bool) → Anew (Calls.checkpoint clear d)
  unfolding Calls.checkpoint pick
  checkpoint-live clear =
      anew-test _ 1 _ refl (λ sized. rw (given-some _ (log_of v.top v.recs) (refused 0 2 d) _ (known-ran U d here))
      (anew-test _ 9 _ refl (λ shut. anew-test _ 14 _ refl (λ equal. anew-test _ 7 _ refl (λ nums.
      let n : Checks v.top v.recs (checkpointed clear (state_of v.top v.recs)) =
      record { clear = clear; is = refl; numbered = leb-true _ most4 nums } in
      record {
        records = records-here (settled U d here (not_there (state_of v.top v.recs).opened shut));
        top = checkpointed clear (state_of v.top v.recs);
        recs = [];
        many = 0;
        reached = Reached.checkpoint v.reached
            (left-none (state_of v.top v.recs).opened (state_of v.top v.recs) d.work (not_there (state_of v.top v.recs).opened shut))
            (same-eq d.work d.store equal) (n, refl, refl);
        log = sym (image-bare (checkpointed clear (state_of v.top v.recs)));
        numbered = record { used = sym (bare-at (checkpointed clear (state_of v.top v.recs))); forced = nothing-forced; among = omega arith };
        bytes = v.bytes;
      })))))

  -- ---- find, list

  answered-live : (x : Found) → Live rs origin (answered d x).now
  unfolding answered
  answered-live (missing r) = live_same (refused 10 r d) (refused-now 10 r d) v
  answered-live (found b) = v

  pub find-live : (key : ℕ) → Live rs origin (Calls.find key d).now
  unfolding Calls.find
  find-live key =
      by-test _ 10 1 _ v (λ sized. by_value _ 10 2 _ v (λ g e. by-test _ 10 9 _ v (λ shut. answered-live _)))

  pub list-live : (low high : ℕ) → Live rs origin (Calls.list low high d).now
  unfolding Calls.list
  list-live low high =
      by-test _ 2 1 _ v (λ sized. by_value _ 2 2 _ v (λ g e. by-test _ 2 9 _ v (λ shut. by-test _ 2 3 _ v (λ form. by-test _ 2 8 _ v (λ well.
      live-bytes _ (bytes-written low high d.work d.bytes (work-pages U d here).sized.1 v.bytes) v)))))
