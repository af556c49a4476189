-- The way through a log that reads, for those who go it again: at each state, the records still to come, where the LO of the next LI
-- stands, which step is next and which record it left; and the same of a log that has grown by a record. Assumes nothing.
use Prim.Native.Nat.{ℕ, zero, suc, ◌+◌, ◌-◌, ◌*◌, ◌≤◌, ◌<◌}
use native.Mathlib.Nat.{add-zero}
use native.Mathlib.Omega.{arith}
use mathlib.Core.Path.{◌≡◌, refl, sym, ap, ◌∙◌, subst}
use mathlib.Core.Bool.{Bool, true, false, not, false≢true}
use mathlib.Core.List.{List, [], ◌∷◌, ◌++◌, append-nil}
use mathlib.Core.Option.{Option, some, none, some-injective, none-ne-some}
use lib.ListN.{length, drop, get_or, length-drop}
use lib.Seq.{drop-drop, get_or-drop}
use lib.Dec.{eqb, leb}
use borrow.Author.Tests.{leb-true}
use Rattle.field.specs.Test.{both, all, pick, given, there}
use Rattle.field.specs.Bytes.{put, all_zero, Bytes, le2}
use Rattle.field.proofs.Test.{all_head, all_tail, when-some, bind-some}
use Rattle.field.proofs.Byte.{bytes_drop}
use Rattle.page.specs.Page.{rows_of, ascend_records}
use Rattle.page.proofs.Rows.{length-rows_of}
use Rattle.logs.specs.Record.{Check, Begin, saves, Image, Rec, LB, LO, LI, LG, LE, image, length_of, kind_of, carried, size, encode}
use Rattle.logs.specs.Plan.{Step, take_out, bring_in, point, close, plan}
use Rattle.logs.specs.Log.{Open, State, first, after, after_all, saves_at, read_begin, begin_ok, taken, planned, images_of, read_image, read_rec, read_recs, read_check, Log, read_log, at_end}
use Rattle.logs.specs.Scan.{shown, lost, turned, Ready, topped, answer, scanned, live}
use Rattle.logs.specs.Source.{sourced, record_at, saved_at}
use Rattle.logs.specs.declared.scan.Walk.{Walk}
use Rattle.logs.proofs.Record.{size-least}
use Rattle.logs.specs.Valid.{Fits}
use Rattle.logs.proofs.Sound.{Awaits, awaits-todo}
use Rattle.logs.proofs.Read.{ReadOff, read_rec-facts, read_check-facts}
use Rattle.logs.proofs.Append.{grown, read_log-put, bytes-grown}
use Rattle.logs.proofs.Held.{Anchored, Holds, Back, Cons, ending-cons, head-drop, plan-back, awaits, done-some, saves-of, begin-read, keeps, saved_read, images-on, ready, turn-reads, holds_after, holds-first}
use Rattle.logs.proofs.Pass.{more_of, end_of, walk-some, at_after}
use Rattle.logs.proofs.Laid.{read-planned, Stood, stood-after, Sourced, sourced-next}

-- the state s is reached on the way through the log l, and the records rs come behind it
pub record Toward (l : List ℕ) (s : State) (rs : List Rec) : Type 0 where
  pub holds : Holds l s
  pub stood : (o : Open) → s.opened ≡ some o → Stood l s o
  pub fuel : ℕ
  pub reads : read_recs fuel s (drop s.at l) ≡ some rs

-- ---- the records that are read

record More (s : State) (m : List ℕ) (r : Rec) (rs : List Rec) : Type 0 where
  fuel : ℕ
  byte : eqb (get_or m 0 0) 0 ≡ false
  one : read_rec s m ≡ some r
  rest : read_recs fuel (after s r) (drop (size r) m) ≡ some rs

cons_head : {A : Type 0} (a b : A) (x y : List A) → a ∷ x ≡ b ∷ y → a ≡ b
cons_head a b x y e = cc

cons_tail : {A : Type 0} (a b : A) (x y : List A) → a ∷ x ≡ b ∷ y → x ≡ y
cons_tail a b x y e = cc

nil-cons : {A : Type 0} (a : A) (x : List A) → [] ≡ a ∷ x → ⊥
nil-cons a x e = let z : ◌≡◌ {A = ℕ} 0 1 = cc in absurd (omega arith)

more_by : (f : ℕ) (s : State) (m : List ℕ) (r : Rec) (rs : List Rec) (t : Bool) → eqb (get_or m 0 0) 0 ≡ t → read_recs (suc f) s m ≡ some (r ∷ rs) → More s m r rs
more_by f s m r rs true z e = absurd (nil-cons r rs (when-some (all_zero m) [] (r ∷ rs) (sym (end_of f s m z) ∙ e)).1)
more_by f s m r rs false z e =
    let b = bind-some (read_rec s m) _ (r ∷ rs) (sym (more_of f s m z) ∙ e) in
    let c = bind-some (read_recs f (after s b.from) (drop (size b.from) m)) _ (r ∷ rs) b.gives in
    let q : b.from ∷ c.from ≡ r ∷ rs = some-injective _ _ c.gives in
    let h : b.from ≡ r = cons_head _ _ _ _ q in
    let t : c.from ≡ rs = cons_tail _ _ _ _ q in
    record {
      fuel = f;
      byte = z;
      one = b.was ∙ ap (λ (y : Rec). some y) h;
      rest = subst (λ (y : Rec). read_recs f (after s y) (drop (size y) m) ≡ some rs) h (c.was ∙ ap (λ (y : List Rec). some y) t);
    }

recs-more : (f : ℕ) (s : State) (m : List ℕ) (r : Rec) (rs : List Rec) → read_recs f s m ≡ some (r ∷ rs) → More s m r rs
unfolding read_recs
recs-more zero s m r rs e = absurd (none-ne-some (r ∷ rs) e)
recs-more (suc f) s m r rs e = more_by f s m r rs (eqb (get_or m 0 0) 0) refl e

none-by : (f : ℕ) (s : State) (m : List ℕ) (t : Bool) → eqb (get_or m 0 0) 0 ≡ t → read_recs (suc f) s m ≡ some [] → t ≡ true
none-by f s m true z e = refl
none-by f s m false z e =
    let b = bind-some (read_rec s m) _ [] (sym (more_of f s m z) ∙ e) in
    let c = bind-some (read_recs f (after s b.from) (drop (size b.from) m)) _ [] b.gives in
    absurd (nil-cons b.from c.from (sym (some-injective _ _ c.gives)))

recs-none : (f : ℕ) (s : State) (m : List ℕ) → read_recs f s m ≡ some [] → eqb (get_or m 0 0) 0 ≡ true
unfolding read_recs
recs-none zero s m e = absurd (none-ne-some [] e)
recs-none (suc f) s m e = none-by f s m (eqb (get_or m 0 0) 0) refl e

live-is : (l : List ℕ) (s : State) (t : Bool) → eqb (get_or (drop s.at l) 0 0) 0 ≡ t → live l (shown s) ≡ not t
unfolding live shown both
live-is l s t e =
    let g : get_or (drop s.at l) 0 0 ≡ get_or l s.at 0 = get_or-drop s.at l 0 0 ∙ ap (λ (x : ℕ). get_or l x 0) (add-zero s.at) in
    ap not (ap (λ (x : ℕ). eqb x 0) (sym g) ∙ e)

-- ---- one record more

module _ {l : List ℕ} {s : State} {r : Rec} {rs : List Rec} (t : Toward l s (r ∷ rs)) where
  more : More s (drop s.at l) r rs
  more = recs-more t.fuel s (drop s.at l) r rs t.reads

  -- another record comes
  pub toward-live : live l (shown s) ≡ true
  toward-live = live-is l s false more.byte

  -- it is read
  pub toward-read : read_rec s (drop s.at l) ≡ some r
  toward-read = more.one

  -- a turn goes past it
  pub toward-turned : turned l (shown s) ≡ shown (after s r)
  toward-turned =
      turn-reads l s t.holds ∙ ap (λ (y : Option Rec). given y lost (λ r. shown (after s r))) more.one ∙ walk-some s r

  -- it ends in the log
  pub toward-room : s.at + size r ≤ length l
  toward-room =
      let f : ReadOff s (drop s.at l) r = read_rec-facts s (drop s.at l) r more.one in
      let d : length (drop s.at l) ≡ length l - s.at = length-drop s.at l in
      omega (arith, f.short, size-least r, t.holds.inside)

  -- it may come next
  pub toward-fits : Bytes l → Fits s r
  toward-fits b = (read_rec-facts s (drop s.at l) r more.one).fits (bytes_drop s.at l b)

  -- the others come behind it
  pub toward-rest : Bytes l → Toward l (after s r) rs
  toward-rest b =
      let d : drop (size r) (drop s.at l) ≡ drop (after s r).at l = drop-drop (size r) s.at l ∙ ap (λ (x : ℕ). drop x l) (sym (at_after s r)) in
      record {
        holds = holds_after l s r b t.holds more.one;
        stood = stood-after l s r t.stood more.one s.opened refl (toward-fits b).follows;
        fuel = more.fuel;
        reads = subst (λ (m : List ℕ). read_recs more.fuel (after s r) m ≡ some rs) d more.rest;
      }

pub toward-more : {l : List ℕ} {s : State} {r : Rec} {rs : List Rec} → Bytes l → Toward l s (r ∷ rs)
    → (live l (shown s) ≡ true) × (read_rec s (drop s.at l) ≡ some r) × (turned l (shown s) ≡ shown (after s r)) × Toward l (after s r) rs
toward-more b t = (toward-live t, toward-read t, toward-turned t, toward-rest t b)

-- no record comes
pub toward-none : {l : List ℕ} {s : State} → Toward l s [] → live l (shown s) ≡ false
toward-none {l} {s} t = live-is l s true (recs-none t.fuel s (drop s.at l) t.reads)

-- a turn leaves less of the log
pub toward-less : {l : List ℕ} {s : State} {r : Rec} {rs : List Rec} → Toward l s (r ∷ rs) → length l - (shown (after s r)).at < length l - (shown s).at
unfolding shown
toward-less {l} {s} {r} t = omega (arith, toward-room t, size-least r, at_after s r)

-- whether another record comes tells whether there is one
pub record Comes (rs : List Rec) : Type 0 where
  pub next : Rec
  pub others : List Rec
  pub is : rs ≡ next ∷ others

comes-by : {l : List ℕ} {s : State} (rs : List Rec) → Toward l s rs → live l (shown s) ≡ true → Comes rs
comes-by [] t h = absurd (false≢true (sym (toward-none t) ∙ h))
comes-by (r ∷ rs) t h = record { next = r; others = rs; is = refl }

pub toward-comes : {l : List ℕ} {s : State} {rs : List Rec} → Toward l s rs → live l (shown s) ≡ true → Comes rs
toward-comes {rs = rs} t h = comes-by rs t h

over_by : {l : List ℕ} {s : State} (rs : List Rec) → Toward l s rs → live l (shown s) ≡ false → rs ≡ []
over_by [] t h = refl
over_by (r ∷ rs) t h = absurd (false≢true (sym h ∙ toward-live t))

pub toward-over : {l : List ℕ} {s : State} {rs : List Rec} → Toward l s rs → live l (shown s) ≡ false → rs ≡ []
toward-over {rs = rs} t h = over_by rs t h

-- a turn may be made
pub toward-ready : {l : List ℕ} {s : State} {rs : List Rec} → Toward l s rs → Ready l (shown s)
toward-ready {l} {s} t = ready l s t.holds

-- a turn that leads to a state's numbers found its record
pub turned-ok : (l : List ℕ) (w : Walk) (s : State) → turned l w ≡ shown s → (turned l w).ok ≡ true
unfolding shown
turned-ok l w s e = ap (λ (y : Walk). y.ok) e

-- past some of the records
pub toward-past : {l : List ℕ} → Bytes l → (s : State) (a b : List Rec) → Toward l s (a ++ b) → Toward l (after_all s a) b
unfolding after_all
toward-past h s [] b t = t
toward-past h s (r ∷ a) b t = toward-past h (after s r) a b (toward-rest t h)

-- ---- a log that is read

-- the check record and the others
top-is : (c : Check) → given (some c) lost (λ c. shown (first c)) ≡ shown (first c)
unfolding given
top-is c = refl

record Read (l : List ℕ) (g : Log) : Type 0 where
  top : read_check l ≡ some g.top
  recs : read_recs (length l) (first g.top) (drop 24 l) ≡ some g.recs

read-parts : (l : List ℕ) (g : Log) → read_log l ≡ some g → Read l g
unfolding read_log length_of
read-parts l g e =
    let b = bind-some (read_check l) _ g e in
    let c = bind-some (read_recs (length l) (first b.from) (drop 24 l)) _ g b.gives in
    subst (Read l) (some-injective _ g c.gives) (record { top = b.was; recs = c.was })

first-at : (c : Check) → (first c).at ≡ 24
unfolding first length_of
first-at c = refl

first-opened : (c : Check) → (first c).opened ≡ none
unfolding first
first-opened c = refl

-- the numbers at its start
pub topped-read : (l : List ℕ) (g : Log) → read_log l ≡ some g → topped l ≡ shown (first g.top)
unfolding topped
topped-read l g e = ap (λ (y : Option Check). given y lost (λ c. shown (first c))) (read-parts l g e).top ∙ top-is g.top

-- the numbers at its end
pub scanned-walk : (f : ℕ) (l : List ℕ) (g : Log) → read_log l ≡ some g → (scanned f l).walk ≡ shown (at_end g)
unfolding scanned given answer
scanned-walk f l g e = rw e

module _ (l : List ℕ) (g : Log) (b : Bytes l) (e : read_log l ≡ some g) where
  -- all of its records come behind its start
  pub toward-first : Toward l (first g.top) g.recs
  toward-first =
      let t = read_check-facts l g.top (read-parts l g e).top in
      record {
        holds = holds-first l g.top (t.small b) t.short;
        stood = λ o q. absurd (none-ne-some o (sym (first-opened g.top) ∙ q));
        fuel = length l;
        reads = subst (λ (a : ℕ). read_recs (length l) (first g.top) (drop a l) ≡ some g.recs) (sym (first-at g.top)) (read-parts l g e).recs;
      }

  -- behind the first of them come the others
  pub toward-at : (a c : List Rec) → g.recs ≡ a ++ c → Toward l (after_all (first g.top) a) c
  toward-at a c q = toward-past b (first g.top) a c (subst (Toward l (first g.top)) q toward-first)

  -- at its end comes none
  pub toward-end : Toward l (at_end g) []
  unfolding at_end
  toward-end = toward-at g.recs [] (sym (append-nil g.recs))

-- ---- whether a unit is open, by the numbers

pub record Opened (s : State) : Type 0 where
  pub unit : Open
  pub is : s.opened ≡ some unit

opened-by : (s : State) (x : Option Open) → s.opened ≡ x → there x ≡ true → Opened s
unfolding there
opened-by s none e h = absurd (false≢true h)
opened-by s (some o) e h = record { unit = o; is = e }

pub shown-opened : (s : State) → (shown s).opened ≡ true → Opened s
unfolding shown
shown-opened s h = opened-by s s.opened refl h

shut_by : (x : Option Open) → there x ≡ false → x ≡ none
unfolding there
shut_by none h = refl
shut_by (some o) h = absurd (false≢true (sym h))

pub shown-shut : (s : State) → (shown s).opened ≡ false → s.opened ≡ none
unfolding shown
shown-shut s h = shut_by s.opened h

-- ---- the open unit's next step

-- the next step and those behind it; by numbers, where the unit's begin record stands and what it says, the steps to come, how many are
-- done, and the next of them
pub record Next (l : List ℕ) (s : State) (o : Open) : Type 0 where
  pub step : Step
  pub others : List Step
  pub plain : saves_at (drop (shown s).begin l) ≡ false
  pub todo : o.todo ≡ step ∷ others
  pub room : (shown s).begin + 44 ≤ length l
  pub start : read_begin (shown s).unit.0 (drop (shown s).begin l) ≡ o.start
  pub ok : begin_ok (read_begin (shown s).unit.0 (drop (shown s).begin l)) ≡ true
  pub rest : drop (shown s).done (plan (read_begin (shown s).unit.0 (drop (shown s).begin l))) ≡ o.todo
  pub less : (shown s).done < length (plan (read_begin (shown s).unit.0 (drop (shown s).begin l)))
  pub at : get_or (plan (read_begin (shown s).unit.0 (drop (shown s).begin l))) (shown s).done (close (shown s).unit.0) ≡ step
  pub back : Back (length o.did) step

drop-less : (n : ℕ) (p : List Step) (x : Step) (xs : List Step) → drop n p ≡ x ∷ xs → n < length p
drop-less n p x xs e =
    let k : length (drop n p) ≡ length p - n = length-drop n p in
    let j : length (drop n p) ≡ suc (length xs) = ap (λ (y : List Step). length y) e in
    omega arith

unit-is : (s : State) → (shown s).unit.0 ≡ s.unit
unfolding shown
unit-is s = refl

next-of : (l : List ℕ) (s : State) (o : Open) → Holds l s → s.opened ≡ some o → saves o.start ≡ false → Next l s o
next-of l s o h e v =
    let a : Anchored l s o = h.anchored o e in
    let w : Awaits s.unit o = awaits s o h.sound e v in
    let c : Cons o.todo = ending-cons w.todo in
    let b : read_begin (shown s).unit.0 (drop (shown s).begin l) ≡ o.start =
    ap (λ (u : ℕ). read_begin u (drop (shown s).begin l)) (unit-is s) ∙ sym a.start in
    let p : List Step = plan (read_begin (shown s).unit.0 (drop (shown s).begin l)) in
    let t : drop (shown s).done p ≡ o.todo =
    ap (λ (n : ℕ). drop n p) (done-some s o e) ∙ ap (λ (g : Begin). drop (length o.did) (plan g)) b ∙ sym (awaits-todo w) in
    let x : get_or p (shown s).done (close (shown s).unit.0) ≡ c.head = head-drop (shown s).done p (close (shown s).unit.0) c.head c.tail (t ∙ c.is) in
    let y : get_or (plan o.start) (length o.did) (close s.unit) ≡ c.head =
    head-drop (length o.did) (plan o.start) (close s.unit) c.head c.tail (sym (awaits-todo w) ∙ c.is) in
    record {
      step = c.head;
      others = c.tail;
      plain = sym (ap saves a.start ∙ saves-of s.unit _) ∙ v;
      todo = c.is;
      room = a.room;
      start = b;
      ok = rw b w.ok;
      rest = t;
      less = drop-less (shown s).done p c.head c.tail (t ∙ c.is);
      at = x;
      back = subst (Back (length o.did)) y (plan-back o.start s.unit (length o.did));
    }

module _ {l : List ℕ} {s : State} {rs : List Rec} {o : Open} (t : Toward l s rs) (op : s.opened ≡ some o) (v : saves o.start ≡ false) where
  -- an open unit that is no put or delete has a next step
  pub toward-next : Next l s o
  toward-next = next-of l s o t.holds op v

  -- its numbers show it
  pub toward-step : {x : Step} {xs : List Step} → o.todo ≡ x ∷ xs
      → get_or (plan (read_begin (shown s).unit.0 (drop (shown s).begin l))) (shown s).done (close (shown s).unit.0) ≡ x
  toward-step e = toward-next.at ∙ cons_head _ _ _ _ (sym toward-next.todo ∙ e)

  -- the LO of an LI that comes next
  pub toward-source : {org dest back : ℕ} {xs : List Step} → o.todo ≡ bring_in org dest back ∷ xs → Sourced l s o.did back
  toward-source {org} {dest} {back} {xs} e =
      sourced-next l s o org dest back xs op t.holds.inside (awaits s o t.holds.sound op v) (t.stood o op) e
      (subst (Back (length o.did)) (cons_head _ _ _ _ (sym toward-next.todo ∙ e)) toward-next.back)

-- ---- the record that comes next

-- the LO that stands at the offset a: 1 to 15 records that bear marks and ascend
pub record Takes (l : List ℕ) (a : ℕ) : Type 0 where
  pub some-rows : 1 ≤ le2 (drop a l) 16
  pub few-rows : le2 (drop a l) 16 ≤ 15
  pub order : ascend_records 0 (rows_of 16 (le2 (drop a l) 16) (drop 20 (drop a l))) ≡ true
  pub room : a + 20 + 16 * le2 (drop a l) 16 ≤ length l

planned-at : (l : List ℕ) (s : State) (did : List Rec) (x : Step) (r : Rec) → planned x did (drop s.at l) ≡ some r
    → ((org dest back : ℕ) → x ≡ bring_in org dest back → sourced l (shown s) back ≡ taken back did) → r ≡ record_at l (shown s) x
unfolding planned record_at shown
planned-at l s did (take_out org dest) r e f = sym (when-some _ _ r e).1
planned-at l s did (bring_in org dest back) r e f = sym (some-injective _ r e) ∙ ap (LI org dest back) (sym (f org dest back refl))
planned-at l s did (point base old new other) r e f = sym (some-injective _ r e)
planned-at l s did (close unit) r e f = sym (some-injective _ r e)

takes_of : (l : List ℕ) (s : State) (did : List Rec) (org dest : ℕ) (r : Rec) → planned (take_out org dest) did (drop s.at l) ≡ some r → s.at + size r ≤ length l
    → Takes l s.at
unfolding planned size carried kind_of length_of
takes_of l s did org dest r e h =
    let m : List ℕ = drop s.at l in
    let k : ℕ = le2 m 16 in
    let rs : List (List ℕ) = rows_of 16 k (drop 20 m) in
    let w = when-some (all (leb 1 k ∷ leb k 15 ∷ ascend_records 0 rs ∷ [])) (LO org dest rs) r e in
    let u = all_tail _ _ w.0 in
    let n : length rs ≡ k = length-rows_of 16 k (drop 20 m) in
    let j : s.at + (20 + 16 * length rs) ≤ length l = rw (← w.1) at h in
    record {
      some-rows = leb-true 1 k (all_head _ _ w.0);
      few-rows = leb-true k 15 (all_head _ _ u);
      order = all_head _ _ (all_tail _ _ u);
      room = omega (arith, n);
    }

module _ {l : List ℕ} {s : State} {r : Rec} {rs : List Rec} (t : Toward l s (r ∷ rs)) where
  -- where no unit is open, an LB
  pub toward-begins : s.opened ≡ none → r ≡ LB (read_begin (s.unit + 1) (drop s.at l))
  toward-begins e = begin-read s (drop s.at l) r e (toward-read t)

  module _ {o : Open} (op : s.opened ≡ some o) where
    -- where one is open, the record of its next step
    pub toward-record : saves o.start ≡ false → {x : Step} {xs : List Step} → o.todo ≡ x ∷ xs → r ≡ record_at l (shown s) x
    toward-record v {x} {xs} e =
        planned-at l s o.did x r (read-planned s o x xs (drop s.at l) r op v e (toward-read t))
        (λ org dest back q. (toward-source t op v (e ∙ ap (λ (y : Step). y ∷ xs) q)).rows)

    -- of an LO, its rows
    pub toward-takes : saves o.start ≡ false → {org dest : ℕ} {xs : List Step} → o.todo ≡ take_out org dest ∷ xs → Takes l s.at
    toward-takes v {org} {dest} {xs} e =
        takes_of l s o.did org dest r (read-planned s o (take_out org dest) xs (drop s.at l) r op v e (toward-read t)) (toward-room t)

    -- of a put or delete, an LG or the LE, with the images before it
    pub toward-saved : saves o.start ≡ true → r ≡ saved_at l (shown s)
    unfolding saved_at
    toward-saved w =
        let a : Anchored l s o = t.holds.anchored o op in
        let u : (shown s).unit.0 ≡ o.start.unit = unit-is s ∙ sym (keeps s o t.holds.sound op w).start in
        let k : (shown s).at ≡ s.at = unfold shown in refl in
        let is : List Image = images_of o.did [] in
        saved_read s o (drop s.at l) r op w (toward-read t)
        ∙ ap (λ (x : ℕ). pick (eqb (get_or (drop x l) 1 0) image.sign) (LG (read_image (drop x l))) (LE o.start.unit is)) (sym k)
        ∙ ap (λ (x : ℕ). pick (eqb (get_or (drop (shown s).at l) 1 0) image.sign) (LG (read_image (drop (shown s).at l))) (LE x is)) (sym u)
        ∙ ap (λ (x : List Image). pick (eqb (get_or (drop (shown s).at l) 1 0) image.sign) (LG (read_image (drop (shown s).at l))) (LE (shown s).unit.0 x))
        (sym (images-on l s o op w a))

-- ---- a log that has grown by a record

module _ (l : List ℕ) (g : Log) (r : Rec) (b : Bytes l) (e : read_log l ≡ some g) (f : Fits (at_end g) r) where
  -- the record comes behind the log's end
  pub toward-grown : Toward (put (at_end g).at (encode ((at_end g).number + 1) r) l) (at_end g) (r ∷ [])
  unfolding at_end
  toward-grown =
      toward-at (put (at_end g).at (encode ((at_end g).number + 1) r) l) (grown g r) (bytes-grown l (at_end g) r b f) (read_log-put l g r b e f) g.recs (r ∷ []) refl

  -- a turn may be made, and goes past it
  pub turn-grown : Ready (put (at_end g).at (encode ((at_end g).number + 1) r) l) (shown (at_end g))
      × (turned (put (at_end g).at (encode ((at_end g).number + 1) r) l) (shown (at_end g)) ≡ shown (after (at_end g) r))
  turn-grown = (toward-ready toward-grown, toward-turned toward-grown)

  -- behind it comes none
  pub toward-grown-end : Toward (put (at_end g).at (encode ((at_end g).number + 1) r) l) (after (at_end g) r) []
  toward-grown-end = toward-rest toward-grown (bytes-grown l (at_end g) r b f)
