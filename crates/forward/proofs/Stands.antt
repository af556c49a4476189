-- What the numbers of one pass say where a unit is open at the log's end: the log that was read, its open unit, the steps to come and the LM
-- before a swap's second one. Assumes nothing.
use Prim.Native.Nat.{ℕ, zero, suc, ◌+◌, ◌-◌, ◌≤◌, ◌<◌}
use native.Mathlib.Omega.{arith}
use mathlib.Core.Path.{◌≡◌, refl, sym, ap, ◌∙◌, subst}
use mathlib.Core.Bool.{Bool, true, false, false≢true}
use mathlib.Core.List.{List, [], ◌∷◌, ◌++◌, reverse, reverse_aux, reverse_aux-eq}
use mathlib.Core.Option.{Option, some, none}
use lib.ListN.{length, take, drop, get_or, length-reverse}
use lib.Seq.{drop_at}
use lib.Dec.{eqb}
use borrow.Author.Rules.{part_to_end}
use Rattle.field.specs.Test.{pick, given, when}
use Rattle.field.specs.Bytes.{Bytes, most4}
use Rattle.field.proofs.Test.{pick-either}
use Rattle.field.specs.declared.PageNo.{PageNo}
use Rattle.field.specs.declared.UnitNo.{UnitNo}
use Rattle.logs.specs.Record.{Begin, saves, Rec, LE}
use Rattle.logs.specs.Plan.{Step, take_out, bring_in, point, close, gather, removals, others, replacing, compact_plan, move_plan, swap_plan, plan}
use Rattle.logs.specs.Log.{Open, State, saves_at, begin_ok, read_begin, Log, read_log, at_end}
use Rattle.logs.specs.Scan.{key_in, shown, lost, answer, scanned}
use Rattle.logs.specs.Steps.{step_of}
use Rattle.logs.specs.declared.scan.Walk.{Walk}
use Rattle.logs.specs.declared.steps.Planned.{Planned}
use Rattle.logs.specs.declared.steps.Planned.TheVariants.{Out, In, Point, Close}
use Rattle.logs.specs.Valid.{Does, does-point, does-out, does-in, does-close}
use Rattle.logs.proofs.Sound.{Done, Awaits}
use Rattle.logs.proofs.Read.{read_log-facts}
use Rattle.logs.proofs.Held.{awaits, saves-of}
use Rattle.logs.proofs.Toward.{Toward, Next, scanned-walk, toward-end, toward-next, shown-opened}
use Rattle.unit.specs.Next.{key_before, skipped}
use Rattle.unit.proofs.Places.{StepKeeps, Keeping, one_more, OpenKeeps, end-keeps}
use Rattle.unit.specs.Again.{next_step}
use Rattle.forward.specs.Appends.{Opened, Tidies, to_come}

-- ---- the log that was read, and its open unit

pub record Ends (l : List ℕ) (w : Walk) : Type 0 where
  pub log : Log
  pub read : read_log l ≡ some log
  pub walk : w ≡ shown (at_end log)
  pub unit : Open
  pub opened : (at_end log).opened ≡ some unit
  pub toward : Toward l (at_end log) []
  pub bears : saves_at (drop w.begin l) ≡ saves unit.start

none-lost : (l : List ℕ) → read_log l ≡ none → (scanned 0 l).walk.ok ≡ false
unfolding scanned given answer lost
none-lost l e = rw e

by_read : (l : List ℕ) (w : Walk) → Bytes l → Opened l w → (o : Option Log) → read_log l ≡ o → Ends l w
by_read l w b h none e = absurd (false≢true (sym (none-lost l e) ∙ sym (ap (λ (x : Walk). x.ok) h.walk) ∙ h.ok))
by_read l w b h (some g) e =
    let q : w ≡ shown (at_end g) = h.walk ∙ scanned-walk 0 l g e in
    let o = shown-opened (at_end g) (sym (ap (λ (x : Walk). x.opened) q) ∙ h.unit) in
    let t : Toward l (at_end g) [] = toward-end l g b e in
    record {
      log = g;
      read = e;
      walk = q;
      unit = o.unit;
      opened = o.is;
      toward = t;
      bears = ap (λ (x : Walk). saves_at (drop x.begin l)) q ∙ sym (ap saves (t.holds.anchored o.unit o.is).start ∙ saves-of (at_end g).unit _);
    }

pub ends : (l : List ℕ) (w : Walk) → Bytes l → Opened l w → Ends l w
ends l w b h = by_read l w b h (read_log l) refl

-- the same of a unit that tidies, with its steps to come
pub record Stands (l : List ℕ) (w : Walk) : Type 0 where
  pub log : Log
  pub read : read_log l ≡ some log
  pub walk : w ≡ shown (at_end log)
  pub unit : Open
  pub opened : (at_end log).opened ≡ some unit
  pub toward : Toward l (at_end log) []
  pub plain : saves unit.start ≡ false
  pub next : Next l (at_end log) unit
  pub keeps : Keeping unit.todo

pub stands : (l : List ℕ) (w : Walk) → Bytes l → Tidies l w → Stands l w
stands l w b h =
    let e : Ends l w = ends l w b h.opened in
    let v : saves e.unit.start ≡ false = sym e.bears ∙ h.plain in
    record {
      log = e.log;
      read = e.read;
      walk = e.walk;
      unit = e.unit;
      opened = e.opened;
      toward = e.toward;
      plain = v;
      next = toward-next e.toward e.opened v;
      keeps = (subst OpenKeeps e.opened (end-keeps e.log ((read_log-facts l e.log e.read).good b))).0;
    }

-- ---- by numbers

shown-at : (s : State) → (shown s).at ≡ s.at
unfolding shown
shown-at s = refl

shown-number : (s : State) → (shown s).number.0 ≡ s.number
unfolding shown
shown-number s = refl

keeping-first : (x : Step) (xs : List Step) → Keeping (x ∷ xs) → StepKeeps x
keeping-first x xs (one_more h k) = h

module _ {l : List ℕ} {w : Walk} (s : Stands l w) where
  pub at-is : w.at ≡ (at_end s.log).at
  at-is = ap (λ (x : Walk). x.at) s.walk ∙ shown-at (at_end s.log)

  pub number_is : w.number.0 ≡ (at_end s.log).number
  number_is = ap (λ (x : Walk). x.number.0) s.walk ∙ shown-number (at_end s.log)

  pub number-few : w.number.0 ≤ most4
  number-few = omega (arith, number_is, s.toward.holds.sound.number)

  pub at-inside : w.at ≤ length l
  at-inside = omega (arith, at-is, s.toward.holds.inside)

  pub begin-room : w.begin + 44 ≤ length l
  begin-room = rw s.walk s.next.room

  pub begin-ok : begin_ok (read_begin w.unit.0 (drop w.begin l)) ≡ true
  begin-ok = rw s.walk s.next.ok

  pub done-less : w.done < length (plan (read_begin w.unit.0 (drop w.begin l)))
  done-less = rw s.walk s.next.less

  pub steps-are : to_come l w ≡ s.unit.todo
  unfolding to_come
  steps-are = rw s.walk s.next.rest

  module _ (x : Step) (e : next_step l w ≡ x) where
    step_is : s.next.step ≡ x
    unfolding next_step
    step_is = sym s.next.at ∙ rw (← s.walk) e

    pub todo-is : s.unit.todo ≡ x ∷ s.next.others
    todo-is = rw (← step_is) s.next.todo

    pub step_keeps : StepKeeps x
    step_keeps = keeping-first x s.next.others (subst Keeping todo-is s.keeps)

-- the next step, as the code reads it off the part of the log from the begin record on
module _ (l : List ℕ) (w : Walk) (x : Planned)
    (e : step_of x ≡ get_or (plan (read_begin w.unit.0 (take (length l - w.begin) (drop w.begin l)))) w.done (close w.unit.0)) where
  pub step-read : next_step l w ≡ step_of x
  unfolding next_step
  step-read = sym (e ∙ rw part_to_end)

  pub next-out : {org dest : PageNo} → x ≡ Out org dest → next_step l w ≡ take_out org.0 dest.0
  unfolding step_of
  next-out q = step-read ∙ rw q

  pub next-in : {org dest : PageNo} {back : ℕ} → x ≡ In org dest back → next_step l w ≡ bring_in org.0 dest.0 back
  unfolding step_of
  next-in q = step-read ∙ rw q

  pub next-point : {base old new : PageNo} {other : Bool} → x ≡ Point base old new other → next_step l w ≡ point base.0 old.0 new.0 other
  unfolding step_of
  next-point q = step-read ∙ rw q

  pub next-close : {unit : UnitNo} → x ≡ Close unit → next_step l w ≡ close unit.0
  unfolding step_of
  next-close q = step-read ∙ rw q

-- ---- a step that is not to take the entry of the LM before stands behind an LM

-- an LM's step
pub data Points : Step → Type 0 where
  points : {base old new : ℕ} {other : Bool} → Points (point base old new other)

-- no step but an LM's, and that with no entry to leave out
Plain : Step → Type 0
Plain x = (base old new : ℕ) → x ≡ point base old new true → ⊥

data Plains : List Step → Type 0 where
  nil : Plains []
  cons : {x : Step} {xs : List Step} → Plain x → Plains xs → Plains (x ∷ xs)

plain_out : (a d : ℕ) → Plain (take_out a d)
unfolding Plain
plain_out a d base old new e = let z : ◌≡◌ {A = ℕ} 0 1 = cc in omega arith

plain_in : (a d k : ℕ) → Plain (bring_in a d k)
unfolding Plain
plain_in a d k base old new e = let z : ◌≡◌ {A = ℕ} 0 1 = cc in omega arith

plain-point : (p a d : ℕ) → Plain (point p a d false)
unfolding Plain
plain-point p a d base old new e = let z : false ≡ true = cc in false≢true z

plain-close : (u : ℕ) → Plain (close u)
unfolding Plain
plain-close u base old new e = let z : ◌≡◌ {A = ℕ} 0 1 = cc in omega arith

plains-append : {a b : List Step} → Plains a → Plains b → Plains (a ++ b)
plains-append nil q = q
plains-append (cons h p) q = cons h (plains-append p q)

plains-gather : (dest : ℕ) (ps : List ℕ) → Plains (gather dest ps)
unfolding gather
plains-gather dest [] = nil
plains-gather dest (p ∷ ps) =
    pick-either Plains (eqb p dest) (gather dest ps) (take_out p dest ∷ bring_in p dest 1 ∷ gather dest ps) (plains-gather dest ps)
    (cons (plain_out p dest) (cons (plain_in p dest 1) (plains-gather dest ps)))

plains-removals : (base : ℕ) (ps : List ℕ) → Plains (removals base ps)
unfolding removals
plains-removals base [] = nil
plains-removals base (p ∷ ps) = cons (plain-point base p 0) (plains-removals base ps)

plains-replacing : (base c dest : ℕ) → Plains (replacing base c dest)
unfolding replacing
plains-replacing base c dest = pick-either Plains (eqb c dest) [] (point base c dest false ∷ []) nil (cons (plain-point base c dest) nil)

plains-compact : (base dest : ℕ) (ls : List ℕ) → Plains (compact_plan base dest ls)
unfolding compact_plan
plains-compact base dest ls = plains-append (plains-gather dest ls) (plains-append (plains-replacing base (get_or ls 0 0) dest) (plains-removals base (others ls)))

plains-move : (base org dest : ℕ) → Plains (move_plan base org dest)
unfolding move_plan
plains-move base org dest = cons (plain_out org dest) (cons (plain_in org dest 1) (cons (plain-point base org dest) nil))

-- of the steps xs: where one leaves out the entry of the LM before, that LM's step stands before it
Behind : (u : ℕ) (xs : List Step) → Type 0
Behind u xs = (i base old new : ℕ) → get_or xs i (close u) ≡ point base old new true → (1 ≤ i) × Points (get_or xs (i - 1) (close u))

plain_at : {xs : List Step} (u i : ℕ) → Plains xs → Plain (get_or xs i (close u))
plain_at u zero nil = plain-close u
plain_at u (suc i) nil = plain-close u
plain_at u zero (cons h p) = h
plain_at u (suc i) (cons h p) = plain_at u i p

behind-plain : (u : ℕ) (xs : List Step) → Plains xs → Behind u xs
unfolding Behind Plain
behind-plain u xs p i base old new e = absurd (plain_at u i p base old new e)

swap-behind : (p q a b v u : ℕ) → Behind u (swap_plan p q a b ++ (close v ∷ []))
unfolding Behind Plain swap_plan
swap-behind p q a b v u zero base old new e = absurd (plain_out a b base old new e)
swap-behind p q a b v u (suc zero) base old new e = absurd (plain_out b a base old new e)
swap-behind p q a b v u (suc (suc zero)) base old new e = absurd (plain_in b a 1 base old new e)
swap-behind p q a b v u (suc (suc (suc zero))) base old new e = absurd (plain_in a b 3 base old new e)
swap-behind p q a b v u (suc (suc (suc (suc zero)))) base old new e = absurd (plain-point q b a base old new e)
swap-behind p q a b v u (suc (suc (suc (suc (suc zero))))) base old new e = (omega arith, points)
swap-behind p q a b v u (suc (suc (suc (suc (suc (suc zero)))))) base old new e = absurd (plain-close v base old new e)
swap-behind p q a b v u (suc (suc (suc (suc (suc (suc (suc i))))))) base old new e = absurd (plain-close u base old new e)

plan-behind : (g : Begin) (u : ℕ) → Behind u (plan g)
unfolding plan
plan-behind g u =
    let end : List Step = close g.unit ∷ [] in
    let last : Plains end = cons (plain-close g.unit) nil in
    let p : ℕ = get_or g.bases 0 0 in
    let q : ℕ = get_or g.bases 1 p in
    let a : ℕ = get_or g.leaves 0 0 in
    let b : ℕ = get_or g.leaves 1 0 in
    let c : List Step = compact_plan p g.dest g.leaves in
    let m : List Step = move_plan p a g.dest in
    let n : List Step = pick (saves g) [] m in
    pick-either (λ (xs : List Step). Behind u (xs ++ end)) (eqb g.type 1) c (pick (eqb g.type 2) (swap_plan p q a b) n)
    (behind-plain u (c ++ end) (plains-append (plains-compact p g.dest g.leaves) last))
    (pick-either (λ (xs : List Step). Behind u (xs ++ end)) (eqb g.type 2) (swap_plan p q a b) n (swap-behind p q a b g.unit u)
    (behind-plain u (n ++ end) (plains-append (pick-either Plains (saves g) [] m nil (plains-move p a g.dest)) last)))

-- ---- so the record before is an LM, and its key is known

pub record Before (did : List Rec) : Type 0 where
  pub key : ℕ
  pub is : key_before did ≡ some key
  pub in-numbers : key_in (get_or did 0 (LE 0 [])) ≡ key

drop_past : (past xs p : List Step) → reverse_aux past xs ≡ p → drop (length past) p ≡ xs
drop_past past xs p e = rw (← e, reverse_aux-eq past xs) (drop_at (reverse past) xs (length past) (length-reverse past))

head_at : (n : ℕ) (p : List Step) (d y : Step) (ys : List Step) → drop n p ≡ y ∷ ys → get_or p n d ≡ y
head_at zero [] d y ys e = let z : ◌≡◌ {A = ℕ} 0 1 = cc in absurd (omega arith)
head_at zero (x ∷ p) d y ys e = cc
head_at (suc n) [] d y ys e = let z : ◌≡◌ {A = ℕ} 0 1 = cc in absurd (omega arith)
head_at (suc n) (x ∷ p) d y ys e = head_at n p d y ys e

did-point : {did : List Rec} {x : Step} {r : Rec} (rest : List Rec) → Does did x r → Points x → Before (r ∷ rest)
unfolding key_before key_in
did-point rest (does-out _) p = elim p [ ]
did-point rest (does-in _) p = elim p [ ]
did-point rest does-close p = elim p [ ]
did-point rest (does-point {key = key} h) points = record { key = key; is = refl; in-numbers = refl }

-- by the steps done, the latest first
by-past : (u : ℕ) (xs p : List Step) (base old new : ℕ) {past : List Step} {did : List Rec} → Done past did → reverse_aux past (point base old new true ∷ xs) ≡ p
    → Behind u p → Before did
unfolding Behind
by-past u xs p base old new Done.nil e f =
    let q : get_or p 0 (close u) ≡ point base old new true = head_at 0 p (close u) (point base old new true) xs (drop_past [] (point base old new true ∷ xs) p e) in
    absurd (let z : 1 ≤ 0 = (f 0 base old new q).0 in let y : ⊥ = omega arith in y)
by-past u xs p base old new (Done.cons {x = x} {past = past} {did = did} d h) e f =
    let ys : List Step = point base old new true ∷ xs in
    let q : get_or p (suc (length past)) (close u) ≡ point base old new true = head_at (suc (length past)) p (close u) (point base old new true) xs (drop_past (x ∷ past) ys p e) in
    let j : suc (length past) - 1 ≡ length past = omega arith in
    let v : get_or p (suc (length past) - 1) (close u) ≡ x = ap (λ (i : ℕ). get_or p i (close u)) j ∙ head_at (length past) p (close u) x ys (drop_past past (x ∷ ys) p e) in
    did-point did d (subst Points v (f (suc (length past)) base old new q).1)

key-is : (s : State) (o : Open) → s.opened ≡ some o → (shown s).key ≡ key_in (get_or o.did 0 (LE 0 []))
unfolding shown given
key-is s o e = rw e

module _ {l : List ℕ} {w : Walk} (s : Stands l w) where
  before : (base old new : ℕ) → next_step l w ≡ point base old new true → Before s.unit.did
  before base old new e =
      let a : Awaits (at_end s.log).unit s.unit = awaits (at_end s.log) s.unit s.toward.holds.sound s.opened s.plain in
      by-past 0 s.next.others (plan s.unit.start) base old new a.done
      (subst (λ (ys : List Step). reverse_aux a.past ys ≡ plan s.unit.start) (todo-is s (point base old new true) e) a.whole) (plan-behind s.unit.start 0)

  -- the key that an LM leaves out, by numbers
  pub skip_is : (base old new : ℕ) (other : Bool) → next_step l w ≡ point base old new other → when other w.key ≡ skipped other s.unit.did
  unfolding skipped when pick
  skip_is base old new false e = refl
  skip_is base old new true e =
      let b : Before s.unit.did = before base old new e in
      let k : w.key ≡ b.key = ap (λ (x : Walk). x.key) s.walk ∙ key-is (at_end s.log) s.unit s.opened ∙ b.in-numbers in
      rw k (sym b.is)
