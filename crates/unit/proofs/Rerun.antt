-- The log's records repeated one after the other: what the walk has reached, and that the whole's answer is that of the records still to
-- come. Assumes nothing.
use Prim.Native.Nat.{ℕ, zero, suc, ◌+◌, ◌-◌, ◌≤◌, ◌<◌}
use native.Mathlib.Omega.{arith}
use mathlib.Core.Path.{◌≡◌, refl, sym, ap, ◌∙◌, subst}
use mathlib.Core.Bool.{Bool, true, false, not, false≢true}
use mathlib.Core.List.{List, [], ◌∷◌}
use mathlib.Core.Option.{Option, some, none}
use lib.ListN.{length, take, drop, get_or, length-drop}
use borrow.Author.Tests.{not-true, not-false}
use borrow.Author.Rules.{part_to_end}
use Rattle.field.specs.Test.{pick, given, bind, there}
use Rattle.field.specs.Bytes.{Bytes, le2}
use Rattle.field.proofs.Test.{pick_true, pick-false, bind-intro}
use Rattle.field.proofs.Number.{le2-drop}
use Rattle.logs.specs.Record.{Begin, saves, Rec, LB, LM, size, kind_of, carried, length_of}
use Rattle.logs.specs.Plan.{Step, take_out, bring_in, point, close, plan}
use Rattle.logs.specs.Log.{Open, State, first, after, begin_ok, saves_at, read_begin, Log, read_log}
use Rattle.logs.specs.Scan.{shown, turned, Ready, topped, live}
use Rattle.logs.specs.Steps.{step_of}
use Rattle.logs.specs.Source.{record_at, saved_at}
use Rattle.logs.specs.declared.scan.Walk.{Walk}
use Rattle.logs.specs.declared.steps.Planned.{Planned}
use Rattle.logs.specs.Valid.{Moved}
use Rattle.logs.proofs.Record.{size-least}
use Rattle.logs.proofs.Held.{keeps, saves-of, images-on}
use Rattle.logs.proofs.Laid.{Sourced}
use Rattle.logs.proofs.Toward.{Toward, toward-first, toward-comes, toward-over, toward-ready, turned-ok, toward-turned, toward-room, toward-fits}
use Rattle.logs.proofs.Toward.{toward-rest, toward-less, Comes, topped-read, shown-opened, shown-shut, Next, toward-next, toward-source, Takes}
use Rattle.logs.proofs.Toward.{toward-begins, toward-record, toward-takes, toward-saved}
use Rattle.unit.specs.Next.{targets, repeat, repeat_all}
use Rattle.unit.specs.Made.{Did}
use Rattle.unit.specs.Again.{Reads, SaveReads, next_step, Ahead, redone, repeated, Repeated}
use Rattle.unit.proofs.Places.{StepKeeps, Keeping, no_step, one_more, plan-keeps}
use Rattle.unit.proofs.Pagewise.{repeat-stays}
use Rattle.unit.proofs.Applied.{did-some}

-- ---- one record, by numbers

-- the step that the code has found
pub step-lent : (l : List ℕ) (w : Walk) (p : Planned)
    → step_of p ≡ get_or (plan (read_begin w.unit.0 (take (length l - w.begin) (drop w.begin l)))) w.done (close w.unit.0) → step_of p ≡ next_step l w
unfolding next_step
step-lent l w p e = rw part_to_end at e

-- the begin record that it is found in
pub begin-lent : (l : List ℕ) (w : Walk) → w.begin + 44 ≤ length l → begin_ok (read_begin w.unit.0 (drop w.begin l)) ≡ true
    → (44 ≤ length (take (length l - w.begin) (drop w.begin l))) × (begin_ok (read_begin w.unit.0 (take (length l - w.begin) (drop w.begin l))) ≡ true)
begin-lent l w h e = rw part_to_end (simp length-drop (omega arith), e)

module _ (l : List ℕ) (w : Walk) (v : List ℕ) where
  -- where no unit is open
  pub redone-shut! : not w.opened ≡ true → Did (redone l w v) v true v
  unfolding redone
  redone-shut! h = did-some _ v v v (pick-false _ _ _ (not-true w.opened h)) refl

  -- where a put or delete is open
  module _ (h : not w.opened ≡ false) (z : Bool) (ez : z ≡ saves_at (take (length l - w.begin) (drop w.begin l))) where
    saves-lent : z ≡ saves_at (drop w.begin l)
    saves-lent = rw part_to_end at ez

    pub redone-saves : Ahead l w → z ≡ true → SaveReads l w
    redone-saves a t = a.saves (not-false w.opened h) (sym saves-lent ∙ t)

    pub redone-saved! : z ≡ true → (r : Bool) (v' : List ℕ) → Did (repeat (w.number.0 + 1) (saved_at l w) v) v r v' → Did (redone l w v) v r v'
    unfolding redone
    redone-saved! t r v' d =
        let q : redone l w v ≡ repeat (w.number.0 + 1) (saved_at l w) v = unfold redone in
        (pick_true _ _ _ (not-false w.opened h) ∙ ap (λ (x : Rec). repeat (w.number.0 + 1) x v) (pick_true _ _ _ (sym saves-lent ∙ t))) in
        rw q d

  module _ (h : not w.opened ≡ false) (z : Bool) (ez : z ≡ saves_at (take (length l - w.begin) (drop w.begin l))) (t : z ≡ false) (p : Planned) (e : step_of p ≡ next_step l w) where
    pub redone-reads : Ahead l w → Reads l w (step_of p)
    redone-reads a = subst (Reads l w) (sym e) (a.reads (not-false w.opened h) (sym (saves-lent h z ez) ∙ t))

    pub redone-open! : (r : Bool) (v' : List ℕ) → Did (repeat (w.number.0 + 1) (record_at l w (step_of p)) v) v r v' → Did (redone l w v) v r v'
    redone-open! r v' d =
        let q : redone l w v ≡ repeat (w.number.0 + 1) (record_at l w (step_of p)) v = unfold redone in
        (pick_true _ _ _ (not-false w.opened h) ∙ ap (λ (x : Rec). repeat (w.number.0 + 1) x v) (pick-false _ _ _ (sym (saves-lent h z ez) ∙ t))
        ∙ ap (λ (x : Step). repeat (w.number.0 + 1) (record_at l w x) v) (sym e)) in
        rw q d

-- ---- the record that comes next

-- the pages of a step
keeps-at : {xs : List Step} (i u : ℕ) → Keeping xs → StepKeeps (get_or xs i (close u))
keeps-at zero u no_step = tt
keeps-at (suc i) u no_step = tt
keeps-at zero u (one_more h k) = h
keeps-at (suc i) u (one_more h k) = keeps-at i u k

modify-size : (r : Rec) (base old new key : ℕ) → r ≡ LM base old new key → size r ≡ 28
unfolding size kind_of carried length_of
modify-size r base old new key e = rw e

shown-at : (s : State) → (shown s).at ≡ s.at
unfolding shown
shown-at s = refl

module _ {l : List ℕ} {s : State} {r : Rec} {rs : List Rec} {o : Open} (t : Toward l s (r ∷ rs)) (op : s.opened ≡ some o) (v : saves o.start ≡ false) where
  reads_of : (x : Step) (xs : List Step) → o.todo ≡ x ∷ xs → StepKeeps x → (shown s).begin + 44 ≤ length l → Reads l (shown s) x
  unfolding record_at
  reads_of (take_out org dest) xs e k h =
      let a : Takes l s.at = toward-takes t op v e in
      let q : le2 (drop s.at l) 16 ≡ le2 l ((shown s).at + 16) = le2-drop s.at 16 l ∙ ap (λ (i : ℕ). le2 l (i + 16)) (sym (shown-at s)) in
      (omega (arith, k.1), omega (arith, a.room, shown-at s))
  reads_of (bring_in org dest back) xs e k h =
      let a : Sourced l s o.did back = toward-source t op v e in
      let m : Moved _ = a.moved in
      (omega (arith, k.1), h, omega (arith, a.count, m.some-rows), omega (arith, a.count, m.few-rows), a.room, rw a.rows m.order)
  reads_of (point base old new other) xs e k h =
      (omega (arith, k.0.1), omega (arith, toward-room t, shown-at s, modify-size r base old new _ (toward-record t op v e)))
  reads_of (close unit) xs e k h = tt

begin-repeats : (n : ℕ) (g : Begin) (v : List ℕ) → repeat n (LB g) v ≡ some v
unfolding targets
begin-repeats n g v = repeat-stays n (LB g) v refl

shown-number : (s : State) → (shown s).number.0 ≡ s.number
unfolding shown
shown-number s = refl

next-is : {l : List ℕ} {s : State} {o : Open} (x : Next l s o) → next_step l (shown s) ≡ x.step
unfolding next_step
next-is x = x.at

module _ {l : List ℕ} {s : State} {r : Rec} {rs : List Rec} (b : Bytes l) (t : Toward l s (r ∷ rs)) where
  -- the unit that is open saves where its begin record says so
  saves-by : (o : Open) → s.opened ≡ some o → saves o.start ≡ saves_at (drop (shown s).begin l)
  saves-by o op = ap saves (t.holds.anchored o op).start ∙ saves-of s.unit _

  reads-by : (o : Open) → s.opened ≡ some o → saves o.start ≡ false → Reads l (shown s) (next_step l (shown s))
  reads-by o op v =
      let x = toward-next t op v in
      let k : StepKeeps (next_step l (shown s)) = unfold next_step in keeps-at (shown s).done (shown s).unit.0 (plan-keeps _ x.ok) in
      subst (Reads l (shown s)) (sym (next-is x)) (reads_of t op v x.step x.others x.todo (subst StepKeeps (next-is x) k) x.room)

  ahead : Ahead l (shown s)
  ahead =
      let y : Ready l (shown s) = toward-ready t in
      record {
        number = omega (arith, (toward-fits t b).room, shown-number s);
        room = y.room;
        start = y.start;
        reads = λ h v. let o = shown-opened s h in reads-by o.unit o.is (saves-by o.unit o.is ∙ v);
        saves = λ h v.
            let o = shown-opened s h in
            let w : saves o.unit.start ≡ true = saves-by o.unit o.is ∙ v in
            record {
              mark = omega (arith, toward-room t, size-least r, shown-at s);
              laid = y.saving h v;
              filed = rw (images-on l s o.unit o.is w (t.holds.anchored o.unit o.is)) (keeps s o.unit t.holds.sound o.is w).filed;
            };
      }

  redone-by : (v : List ℕ) (z : Bool) → (shown s).opened ≡ z → redone l (shown s) v ≡ repeat (s.number + 1) r v
  unfolding redone
  redone-by v true h =
      let o = shown-opened s h in
      pick_true _ _ _ h
      ∙ ap (λ (n : ℕ). repeat (n + 1) (pick (saves_at (drop (shown s).begin l)) (saved_at l (shown s)) (record_at l (shown s) (next_step l (shown s)))) v) (shown-number s)
      ∙ ap (λ (y : Rec). repeat (s.number + 1) y v) (sym (record-by o.unit o.is (saves o.unit.start) refl))
    where
      record-by : (o : Open) → s.opened ≡ some o → (z : Bool) → saves o.start ≡ z
          → r ≡ pick (saves_at (drop (shown s).begin l)) (saved_at l (shown s)) (record_at l (shown s) (next_step l (shown s)))
      record-by o op true w = toward-saved t op w ∙ sym (pick_true _ _ _ (sym (saves-by o op) ∙ w))
      record-by o op false w =
          let x = toward-next t op w in
          toward-record t op w x.todo ∙ sym (pick-false _ _ _ (sym (saves-by o op) ∙ w) ∙ ap (record_at l (shown s)) (next-is x))
  redone-by v false h =
      pick-false _ _ _ h ∙ sym (ap (λ (y : Rec). repeat (s.number + 1) y v) (toward-begins t (shown-shut s h)) ∙ begin-repeats (s.number + 1) _ v)

  redone-is : (v : List ℕ) → redone l (shown s) v ≡ repeat (s.number + 1) r v
  redone-is v = redone-by v (shown s).opened refl

-- ---- the loop

-- the walk w stands for a state of the log l, and repeating all on the pages v is repeating what is to come on the pages u
pub record Going (l v : List ℕ) (w : Walk) (u : List ℕ) : Type 0 where
  pub state : State
  pub recs : List Rec
  pub toward : Toward l state recs
  pub shows : w ≡ shown state
  pub whole : length u ≡ 16384
  pub same : repeated l v ≡ repeat_all (state.number + 1) recs u

there-log : (o : Option Log) → there o ≡ true → (g : Log) × (o ≡ some g)
unfolding there
there-log none h = absurd (false≢true h)
there-log (some g) h = (g, refl)

first-number : (g : Log) → (first g.top).number ≡ g.top.number
unfolding first
first-number g = refl

pub going_start : (l v : List ℕ) (w : Walk) → Bytes l → length v ≡ 16384 → there (read_log l) ≡ true → w ≡ topped l → Going l v w v
unfolding repeated
going_start l v w b n h e =
    let x = there-log (read_log l) h in
    let g : Log = x.0 in
    record {
      state = first g.top;
      recs = g.recs;
      toward = toward-first l g b x.1;
      shows = e ∙ topped-read l g x.1;
      whole = n;
      same = bind-intro (read_log l) _ g x.1 ∙ ap (λ (k : ℕ). repeat_all (k + 1) g.recs v) (sym (first-number g));
    }

-- the answer at its end
pub going_end : (l v : List ℕ) (w : Walk) (u : List ℕ) → Going l v w u → live l w ≡ false → Repeated l v true u
unfolding repeat_all there
going_end l v w u p h =
    let q : p.recs ≡ [] = toward-over p.toward (sym (ap (live l) p.shows) ∙ h) in
    let e : repeated l v ≡ some u = p.same ∙ ap (λ (rs : List Rec). repeat_all (p.state.number + 1) rs u) q in
    record { said = rw e; left = λ z. e }

module _ (l v : List ℕ) (w : Walk) (u : List ℕ) (b : Bytes l) (p : Going l v w u) (h : live l w ≡ true) where
  comes : Comes p.recs
  comes = toward-comes p.toward (sym (ap (live l) p.shows) ∙ h)

  here : Toward l p.state (comes.next ∷ comes.others)
  here = subst (Toward l p.state) comes.is p.toward

  pub going-ahead : Ahead l w
  going-ahead = subst (Ahead l) (sym p.shows) (ahead b here)

  turned-is : turned l w ≡ shown (after p.state comes.next)
  turned-is = ap (turned l) p.shows ∙ toward-turned here

  pub going-past : Ready l w × ((turned l w).ok ≡ true)
  going-past = (subst (Ready l) (sym p.shows) (toward-ready p.toward), turned-ok l w (after p.state comes.next) turned-is)

  next-redone : redone l w u ≡ repeat (p.state.number + 1) comes.next u
  next-redone = ap (λ (x : Walk). redone l x u) p.shows ∙ redone-is b here u

  next-same : repeated l v ≡ bind (redone l w u) (repeat_all (p.state.number + 1 + 1) comes.others)
  unfolding repeat_all
  next-same =
      p.same ∙ ap (λ (rs : List Rec). repeat_all (p.state.number + 1) rs u) comes.is
      ∙ ap (λ (y : Option (List ℕ)). bind y (repeat_all (p.state.number + 1 + 1) comes.others)) (sym next-redone)

  module _ (z : Bool) (u' : List ℕ) (d : Did (redone l w u) u z u') where
    stops-by : (y : Option (List ℕ)) → redone l w u ≡ y → there y ≡ false → Repeated l v false u'
    unfolding there bind
    stops-by none e q =
        let n : repeated l v ≡ none = next-same ∙ ap (λ (y : Option (List ℕ)). bind y (repeat_all (p.state.number + 1 + 1) comes.others)) e in
        record { said = rw n; left = λ i. absurd (false≢true i) }
    stops-by (some x) e q = absurd (false≢true (sym q))

    pub going-stops : not z ≡ true → Repeated l v false u'
    going-stops n = stops-by (redone l w u) refl (sym d.said ∙ not-true z n)

    left_by : (y : Option (List ℕ)) → redone l w u ≡ y → there y ≡ true → redone l w u ≡ some u'
    unfolding there given
    left_by none e q = absurd (false≢true q)
    left_by (some x) e q = let k : u' ≡ x = rw e at d.left in e ∙ ap some (sym k)

    left : not z ≡ false → redone l w u ≡ some u'
    left n = left_by (redone l w u) refl (sym d.said ∙ not-false z n)

    module _ (n : not z ≡ false) (w' : Walk) (e : w' ≡ turned l w) where
      turns : w' ≡ shown (after p.state comes.next)
      turns = e ∙ turned-is

      pub going_more : length u' ≡ length u → Going l v w' u'
      unfolding after
      going_more k =
          record {
            state = after p.state comes.next;
            recs = comes.others;
            toward = toward-rest here b;
            shows = turns;
            whole = k ∙ p.whole;
            same = next-same ∙ bind-intro (redone l w u) _ u' (left n);
          }

      pub going_less : length l - w'.at < length l - w.at
      going_less =
          subst (λ (x : Walk). length l - x.at < length l - w.at) (sym turns)
          (subst (λ (x : Walk). length l - (shown (after p.state comes.next)).at < length l - x.at) (sym p.shows) (toward-less here))
