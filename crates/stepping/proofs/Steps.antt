-- The answers of step, each as a law over what the code has there; and what holds of the log once a step was appended. Assumes nothing.
use Prim.Native.Nat.{ℕ, ◌+◌, ◌-◌, ◌*◌, ◌≤◌, ◌<◌}
use native.Mathlib.Omega.{arith}
use mathlib.Core.Path.{◌≡◌, refl, sym, ap, ◌∙◌}
use mathlib.Core.Bool.{Bool, true, false, not}
use mathlib.Core.List.{List, [], ◌∷◌}
use mathlib.Core.Option.{some, none, some-injective}
use lib.ListN.{length, take, drop}
use borrow.Author.Tests.{not-true, not-false}
use Rattle.field.specs.Test.{pick, need, given}
use Rattle.field.specs.Bytes.{Bytes, put}
use Rattle.field.proofs.Test.{pick_true, pick-false, need-true, need-false, given-some, given-none, bind-some, when-some}
use Rattle.page.specs.Page.{formed}
use Rattle.page.specs.Pages.{page}
use Rattle.page.proofs.Pages.{lent-page}
use Rattle.field.specs.declared.PageNo.{PageNo}
use Rattle.field.specs.declared.UnitNo.{UnitNo}
use Rattle.logs.specs.Record.{saves, Rec, encode}
use Rattle.logs.specs.Plan.{Step, take_out, bring_in, point, close}
use Rattle.logs.specs.Log.{Open, State, saves_at, after, Log, read_log, at_end}
use Rattle.logs.specs.Scan.{shown, scanned, turned, Ready}
use Rattle.logs.specs.Steps.{step_of}
use Rattle.logs.specs.declared.scan.Scan.{Scan}
use Rattle.logs.specs.declared.scan.Walk.{Walk}
use Rattle.logs.specs.declared.steps.Planned.{Planned}
use Rattle.logs.specs.declared.steps.Planned.TheVariants.{Out, In, Point, Close}
use Rattle.logs.proofs.Append.{at_end-grown}
use Rattle.logs.proofs.Toward.{scanned-walk, turn-grown}
use Rattle.unit.specs.Next.{target_of}
use Rattle.unit.proofs.Places.{StepKeeps}
use Rattle.store.specs.Calls.{Lent, lent, Left, left, refused, two_sized, known, Went, stopped, went, conclude, lacked_by, formed_at, step_with, step_open, stepped, step}
use Rattle.store.specs.Knows.{knows}
use Rattle.unit.specs.Again.{next_step}
use Rattle.forward.specs.Appends.{append_first, append_open, append_next, reply_in, work_in, log_in, Goes, Opened}
use Rattle.store.proofs.Chain.{two-no-work, two-no-log, two_sized_lem}
use Rattle.store.proofs.Passed.{Knows, knows-yes, knows-no, is-shut}
use Rattle.store.proofs.Replies.{refused_as}
use Rattle.forward.proofs.Stands.{Ends, ends, Stands, todo-is, step_keeps}
use Rattle.forward.proofs.Next.{open-speaks, Gone, next-open, next_grows}
use Rattle.stepping.specs.Formed.{first_formed, open_formed, next_formed}

-- ---- each way through its tests

module _ (d : Lent) where
  pub step-unsized : two_sized d ≡ false → step d ≡ refused 0 1 d
  unfolding step
  step-unsized e = need-false (two_sized d) (refused 0 1 d) _ e

  module _ (s : two_sized d ≡ true) where
    pub step-unknown : known d ≡ none → step d ≡ refused 0 2 d
    unfolding step
    step-unknown e = need-true (two_sized d) (refused 0 1 d) _ s ∙ given-none (known d) (refused 0 2 d) _ e

    module _ (g : Log) (k : known d ≡ some g) where
      pub step-shut : (at_end g).opened ≡ none → step d ≡ refused 0 10 d
      unfolding step
      step-shut e =
          need-true (two_sized d) (refused 0 1 d) _ s ∙ given-some (known d) g (refused 0 2 d) _ k ∙ given-none (at_end g).opened (refused 0 10 d) _ e

      pub step-goes-on : (o : Open) → (at_end g).opened ≡ some o → step d ≡ stepped d (step_open o (at_end g) d.work d.log)
      unfolding step
      step-goes-on o e =
          need-true (two_sized d) (refused 0 1 d) _ s ∙ given-some (known d) g (refused 0 2 d) _ k ∙ given-some (at_end g).opened o (refused 0 10 d) _ e

-- the log that test 2 finds is the one that is read
known_read : (d : Lent) (g : Log) → known d ≡ some g → read_log d.log ≡ some g
unfolding known
known_read d g e = let b = bind-some (read_log d.log) _ g e in b.was ∙ ap some (when-some _ b.from g b.gives).1

-- ---- what an appended step has left

-- a reply other than 0: nothing has changed
stopped_by : (o : Went) (w l : List ℕ) (r : ℕ) (v m : List ℕ) → Goes o w l r v m → (r ≡ 0 → ⊥) → (o ≡ stopped r) × (v ≡ w) × (m ≡ l)
unfolding reply_in work_in log_in
stopped_by (stopped q) w l r v m g h = (ap stopped (sym g.reply-is), g.work-is, g.log_is)
stopped_by (went s x y) w l r v m g h = absurd (h g.reply-is)

-- reply 0: the step was made
went-by : (o : Went) (w l : List ℕ) (r : ℕ) (v m : List ℕ) → ((q : ℕ) → o ≡ stopped q → q ≡ 0 → ⊥) → Goes o w l r v m → r ≡ 0 → (s : State) × (o ≡ went s v m)
unfolding reply_in work_in log_in
went-by (stopped q) w l r v m f g h = absurd (f q refl (sym g.reply-is ∙ h))
went-by (went s x y) w l r v m f g h = (s, ap (went s x) (sym g.log_is) ∙ ap (λ (z : List ℕ). went s z m) (sym g.work-is))

-- the state after it, and that a turn of the pass over the log l leads there from the numbers w
pub record Stepped (work l : List ℕ) (w : Walk) (v m : List ℕ) : Type 0 where
  pub state : State
  pub is : append_next work l ≡ went state v m
  pub ready : Ready m w
  pub shows : turned m w ≡ shown state
  pub inside : state.at ≤ 8192

shown-at : (s : State) → (shown s).at ≡ s.at
unfolding shown
shown-at s = refl

shown_ok : (s : State) → (shown s).ok ≡ true
unfolding shown
shown_ok s = refl

turned_as : (l m : List ℕ) (w : Walk) (g : Log) (r : Rec) (t : State) → m ≡ put (at_end g).at (encode ((at_end g).number + 1) r) l → w ≡ shown (at_end g)
    → t ≡ after (at_end g) r
    → Ready (put (at_end g).at (encode ((at_end g).number + 1) r) l) (shown (at_end g))
    × (turned (put (at_end g).at (encode ((at_end g).number + 1) r) l) (shown (at_end g)) ≡ shown (after (at_end g) r))
    → Ready m w × (turned m w ≡ shown t)
turned_as l m w g r t e q h p = (rw (e, q) p.0, rw (e, q, h) p.1)

module _ (work : List ℕ) {l : List ℕ} {w : Walk} (e : Ends l w) where
  pub went_on : length work ≡ 16384 → length l ≡ 8192 → Bytes work → Bytes l → (r : ℕ) (v m : List ℕ) → Goes (append_next work l) work l r v m → r ≡ 0 → Stepped work l w v m
  went_on whole long bw bl r v m g z =
      let (t, q) =
      went-by (append_next work l) work l r v m (λ q i. open-speaks e.unit (at_end e.log) work l q (sym (next-open e work) ∙ i)) g z in
      let n : Gone e.log work l t v m = next_grows e work whole long bw bl t v m q in
      let k = n.grown in
      let p =
      turned_as l m w e.log n.added t k.written e.walk (k.state ∙ at_end-grown e.log n.added) (turn-grown l e.log n.added bl e.read k.fits) in
      record { state = t; is = q; ready = p.0; shows = p.1; inside = k.inside }

-- the log's end after it
pub end_is : {work l : List ℕ} {w : Walk} {v m : List ℕ} (c : Stepped work l w v m) (y : Walk) → y ≡ turned m w → y.at ≡ c.state.at
end_is c y q = ap (λ (x : Walk). x.at) (q ∙ c.shows) ∙ shown-at c.state

-- ---- test 3

pub lent-formed! : (work : List ℕ) (p : ℕ) (r : Bool) → r ≡ formed p (take (256 * p + 256 - 256 * p) (drop (256 * p) work)) → r ≡ formed p (page p work)
lent-formed! work p r e = e ∙ rw (lent-page p work)

some-eq : (a b : ℕ) → some a ≡ some b → a ≡ b
some-eq a b e = cc

some-none : (a : ℕ) → none ≡ some a → ⊥
some-none a e = let z : ◌≡◌ {A = ℕ} 0 1 = cc in omega arith

-- the page that a step changes is one of the 64
target_small : (x : Step) → StepKeeps x → (p : ℕ) → target_of x ≡ some p → p < 64
unfolding target_of
target_small (take_out org dest) k p e = omega (arith, some-eq org p e, k.1)
target_small (bring_in org dest back) k p e = omega (arith, some-eq dest p e, k.1)
target_small (point base old new other) k p e = omega (arith, some-eq base p e, k.0.1)
target_small (close unit) k p e = absurd (some-none p e)

module _ (work : List ℕ) (x : Planned) where
  module _ (r : Bool) where
    pub target-out! : {org dest : PageNo} → x ≡ Out org dest → r ≡ formed org.0 (page org.0 work) → r ≡ formed_at (target_of (step_of x)) work
    unfolding formed_at target_of step_of
    target-out! q e = rw q e

    pub target-in! : {org dest : PageNo} {back : ℕ} → x ≡ In org dest back → r ≡ formed dest.0 (page dest.0 work) → r ≡ formed_at (target_of (step_of x)) work
    unfolding formed_at target_of step_of
    target-in! q e = rw q e

    pub target-point! : {base old new : PageNo} {other : Bool} → x ≡ Point base old new other → r ≡ formed base.0 (page base.0 work) → r ≡ formed_at (target_of (step_of x)) work
    unfolding formed_at target_of step_of
    target-point! q e = rw q e

  pub target-close! : {unit : UnitNo} → x ≡ Close unit → true ≡ formed_at (target_of (step_of x)) work
  unfolding formed_at target_of step_of
  target-close! q = rw q

  -- the page of each
  module _ (small : (p : ℕ) → target_of (step_of x) ≡ some p → p < 64) where
    pub out-small : {org dest : PageNo} → x ≡ Out org dest → org.0 < 64
    unfolding target_of step_of
    out-small {org} q = small org.0 (rw q)

    pub in_small : {org dest : PageNo} {back : ℕ} → x ≡ In org dest back → dest.0 < 64
    unfolding target_of step_of
    in_small {dest = dest} q = small dest.0 (rw q)

    pub base-small : {base old new : PageNo} {other : Bool} → x ≡ Point base old new other → base.0 < 64
    unfolding target_of step_of
    base-small {base} q = small base.0 (rw q)

-- ---- step's answers

with_first : (todo : List Step) (s : State) (w l : List ℕ) → step_with todo s w l ≡ need (first_formed todo w) (stopped 3) (append_first todo s w l)
unfolding step_with first_formed append_first need
with_first [] s w l = refl
with_first (x ∷ xs) s w l = refl

-- test 3 and then the record
pub with_open : (o : Open) (s : State) (w l : List ℕ) → step_open o s w l ≡ need (open_formed o w) (stopped 3) (append_open o s w l)
unfolding step_open open_formed append_open
with_open o s w l = by_kind (saves o.start)
  where
    by_kind : (t : Bool) → pick t (conclude 1 (lacked_by o s w) s w l) (step_with o.todo s w l)
        ≡ need (pick t true (first_formed o.todo w)) (stopped 3) (pick t (conclude 1 (lacked_by o s w) s w l) (append_first o.todo s w l))
    by_kind true = unfold pick need in refl
    by_kind false = unfold pick in (with_first o.todo s w l)

module _ {l : List ℕ} {w : Walk} (e : Ends l w) where
  formed_open : (work : List ℕ) → next_formed work l ≡ open_formed e.unit work
  unfolding next_formed given
  formed_open work = rw (e.read, e.opened)

  -- a put or delete
  pub formed-save! : (work : List ℕ) → saves_at (drop w.begin l) ≡ true → true ≡ next_formed work l
  unfolding open_formed
  formed-save! work v = sym (formed_open work ∙ pick_true _ _ _ (sym e.bears ∙ v))

module _ (work : List ℕ) {l : List ℕ} {w : Walk} (s : Stands l w) (x : Step) (next : next_step l w ≡ x) where
  pub next-target : (q : ℕ) → target_of x ≡ some q → q < 64
  next-target = target_small x (step_keeps s x next)

  -- another unit
  pub formed-step : (r : Bool) → r ≡ formed_at (target_of x) work → r ≡ next_formed work l
  unfolding next_formed open_formed first_formed given
  formed-step r e = e ∙ sym (rw (s.read, s.opened) (pick-false _ _ _ s.plain ∙ rw (todo-is s x next)))

module _ (used forced : ℕ) (work log : List ℕ) where
  abbrev d : Lent
  d = lent used forced work [] log []

  -- what the code returns
  module _ (v u f : ℕ) where
    abbrev got : Left
    got = left v [] (lent u f work [] log [])

    pub step-no-work : (v ≡ 1) × (u ≡ used) × (f ≡ forced) → (length work ≡ 16384 → ⊥) → got ≡ step d
    step-no-work s a = refused_as d 1 v u f (step d) (step-unsized d (two-no-work d a)) s

    pub step-no-log : (v ≡ 1) × (u ≡ used) × (f ≡ forced) → length work ≡ 16384 → (length log ≡ 8192 → ⊥) → got ≡ step d
    step-no-log s a b = refused_as d 1 v u f (step d) (step-unsized d (two-no-log d a b)) s

    pub step-no-form : (v ≡ 2) × (u ≡ used) × (f ≡ forced) → length work ≡ 16384 → length log ≡ 8192 → (t : Scan) → t ≡ scanned forced log
        → knows t used ≡ false → got ≡ step d
    step-no-form s a b t e k = refused_as d 2 v u f (step d) (step-unknown d (two_sized_lem d a b) (knows-no d t e k)) s

    pub step-no-unit : (v ≡ 10) × (u ≡ used) × (f ≡ forced) → length work ≡ 16384 → length log ≡ 8192 → (t : Scan) → t ≡ scanned forced log
        → knows t used ≡ true → t.walk.opened ≡ false → got ≡ step d
    step-no-unit s a b t e k o =
        let g : Knows d t = knows-yes d t e k in
        refused_as d 10 v u f (step d) (step-shut d (two_sized_lem d a b) g.log g.is (is-shut d t g o)) s

-- past test 2, where a unit is open
pub record Past (used forced : ℕ) (work log : List ℕ) (t : Scan) : Type 0 where
  pub whole : length work ≡ 16384
  pub long : length log ≡ 8192
  pub scan : t ≡ scanned forced log
  pub passed : knows t used ≡ true
  pub unit : t.walk.opened ≡ true
  pub work-bytes : Bytes work
  pub log-bytes : Bytes log

module _ {used forced : ℕ} {work log : List ℕ} {t : Scan} (p : Past used forced work log t) where
  knew : Knows (lent used forced work [] log []) t
  knew = knows-yes (lent used forced work [] log []) t p.scan p.passed

  reads : read_log log ≡ some knew.log
  reads = known_read (lent used forced work [] log []) knew.log knew.is

  pub past-opened : Opened log t.walk
  past-opened =
      record {
        walk = knew.walk ∙ sym (scanned-walk 0 log knew.log reads);
        ok = ap (λ (w : Walk). w.ok) knew.walk ∙ shown_ok (at_end knew.log);
        unit = p.unit;
      }

  pub past-ends : Ends log t.walk
  past-ends = ends log t.walk p.log-bytes past-opened

  same_log : knew.log ≡ past-ends.log
  same_log = some-injective _ _ (sym reads ∙ past-ends.read)

  goes : step (lent used forced work [] log []) ≡ stepped (lent used forced work [] log []) (need (next_formed work log) (stopped 3) (append_next work log))
  goes =
      let d : Lent = lent used forced work [] log [] in
      step-goes-on d (two_sized_lem d p.whole p.long) past-ends.log (knew.is ∙ ap some same_log) past-ends.unit past-ends.opened
      ∙ ap (stepped d)
      (with_open past-ends.unit (at_end past-ends.log) work log
      ∙ ap (λ (o : Went). need (open_formed past-ends.unit work) (stopped 3) o) (sym (next-open past-ends work))
      ∙ ap (λ (b : Bool). need b (stopped 3) (append_next work log)) (sym (formed_open past-ends work)))

  module _ (z : Bool) (e : z ≡ next_formed work log) where
    pub step-no-page : not z ≡ true → (v u f : ℕ) → (v ≡ 3) × (u ≡ used) × (f ≡ forced)
        → left v [] (lent u f work [] log []) ≡ step (lent used forced work [] log [])
    unfolding stepped
    step-no-page h v u f s =
        let d : Lent = lent used forced work [] log [] in
        refused_as d 3 v u f (step d) (goes ∙ ap (stepped d) (need-false _ (stopped 3) _ (sym e ∙ not-true z h))) s

    module _ (h : not z ≡ false) where
      made : step (lent used forced work [] log []) ≡ stepped (lent used forced work [] log []) (append_next work log)
      made = goes ∙ ap (stepped (lent used forced work [] log [])) (need-true _ (stopped 3) _ (sym e ∙ not-false z h))

      -- a reply of the unit's tests
      pub step-stops : (r : ℕ) (w' l' : List ℕ) → Goes (append_next work log) work log r w' l' → (r ≡ 0 → ⊥) → (v u f : ℕ)
          → (v ≡ r) × (u ≡ used) × (f ≡ forced) → left v [] (lent u f w' [] l' []) ≡ step (lent used forced work [] log [])
      unfolding stepped
      step-stops r w' l' g i v u f s =
          let d : Lent = lent used forced work [] log [] in
          let q = stopped_by (append_next work log) work log r w' l' g i in
          rw (q.1, q.2) (refused_as d r v u f (step d) (made ∙ ap (stepped d) q.0) s)

      -- the step was made: used is the log's end after it
      pub step-steps : (w' l' : List ℕ) (c : Stepped work log t.walk w' l') (y : Walk) → y ≡ turned l' t.walk
          → left 0 [] (lent y.at forced w' [] l' []) ≡ step (lent used forced work [] log [])
      unfolding stepped
      step-steps w' l' c y q = rw (end_is c y q) (sym (made ∙ ap (stepped (lent used forced work [] log [])) c.is))
