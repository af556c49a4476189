-- A record that is appended: what its tests have shown, and the log that is read afterwards. Assumes nothing.
use Prim.Native.Nat.{ℕ, ◌+◌, ◌≤◌}
use native.Mathlib.Omega.{arith}
use mathlib.Core.Path.{◌≡◌, refl, sym, ap, ◌∙◌, subst}
use mathlib.Core.Bool.{Bool, true, false}
use mathlib.Core.List.{List, ◌∷◌}
use mathlib.Core.Option.{Option, some, none, some-injective}
use lib.ListN.{length}
use borrow.Author.Tests.{leb-true}
use Rattle.field.specs.Test.{need, given}
use Rattle.field.specs.Bytes.{Bytes, put, most4}
use Rattle.field.proofs.Test.{when-some, bind-some}
use Rattle.field.proofs.Byte.{bytes-nil}
use Rattle.page.specs.Pages.{page}
use Rattle.page.proofs.Rows.{length-rows}
use Rattle.page.proofs.Pages.{bytes-page}
use Rattle.logs.specs.Record.{saves, out, length_of, Rec, kind_of, carried, size, encode}
use Rattle.logs.specs.Plan.{Step, take_out, bring_in, point, close}
use Rattle.logs.specs.Log.{Open, State, after, Log, read_log, at_end}
use Rattle.logs.specs.Valid.{Does, Follows, goes, Fits, Good}
use Rattle.logs.proofs.Valid.{does-bears}
use Rattle.logs.proofs.Sound.{sound-at_end}
use Rattle.logs.proofs.Read.{read_log-facts}
use Rattle.logs.proofs.Append.{grown, at_end-grown, read_log-put, bytes-grown, length-grown}
use Rattle.tree.specs.Walk.{InForm}
use Rattle.unit.specs.Next.{apply, target_of, page_of, next_rec, step_size, room}
use Rattle.unit.proofs.Places.{end-keeps}
use Rattle.unit.proofs.Changed.{apply-bytes}
use Rattle.unit.proofs.Kept.{Stands, fits-stands, apply-form}
use Rattle.tidy.proofs.Next.{next-does}
use Rattle.store.specs.Calls.{Went, stopped, went, did_of, append, log_length}

-- ---- tests that did not stop, and those that did

pub stopped-not : (q : ℕ) (s : State) (w l : List ℕ) → stopped q ≡ went s w l → ⊥
stopped-not q s w l e = let z : ◌≡◌ {A = ℕ} 0 1 = cc in omega arith

went-not : (q : ℕ) (s : State) (w l : List ℕ) → went s w l ≡ stopped q → ⊥
went-not q s w l e = stopped-not q s w l (sym e)

pub record Gave {A : Type 0} (o : Option A) (f : A → Went) (y : Went) : Type 0 where
  pub from : A
  pub was : o ≡ some from
  pub gives : f from ≡ y

pub given-went : {A : Type 0} (o : Option A) (q : ℕ) (f : A → Went) (s : State) (w l : List ℕ) → given o (stopped q) f ≡ went s w l → Gave o f (went s w l)
unfolding given
given-went none q f s w l e = absurd (stopped-not q s w l e)
given-went (some a) q f s w l e = record { from = a; was = refl; gives = e }

pub need-went : (b : Bool) (q : ℕ) (y : Went) (s : State) (w l : List ℕ) → need b (stopped q) y ≡ went s w l → (b ≡ true) × (y ≡ went s w l)
unfolding need
need-went true q y s w l e = (refl, e)
need-went false q y s w l e = absurd (stopped-not q s w l e)

-- a chain that never stops with 0
abbrev pub Speaks : Went → Type 0
Speaks y = (q : ℕ) → y ≡ stopped q → q ≡ 0 → ⊥

pub stop-speaks : (r : ℕ) → (r ≡ 0 → ⊥) → Speaks (stopped r)
stop-speaks r h q e z = h (let i : r ≡ q = cc in i ∙ z)

pub given-speaks : {A : Type 0} (o : Option A) (r : ℕ) (f : A → Went) → (r ≡ 0 → ⊥) → ((a : A) → Speaks (f a)) → Speaks (given o (stopped r) f)
unfolding given
given-speaks none r f h k = stop-speaks r h
given-speaks (some a) r f h k = k a

pub need-speaks : (b : Bool) (r : ℕ) (y : Went) → (r ≡ 0 → ⊥) → Speaks y → Speaks (need b (stopped r) y)
unfolding need
need-speaks true r y h k = k
need-speaks false r y h k = stop-speaks r h

pub went-speaks : (s : State) (w l : List ℕ) → Speaks (went s w l)
went-speaks s w l q e z = went-not q s w l e

-- ---- what the tests have shown

pub record Added (x : Step) (xs : List Step) (s : State) (w l : List ℕ) (s' : State) (w' l' : List ℕ) : Type 0 where
  pub added : Rec
  pub next : next_rec x (did_of s.opened) (page_of (target_of x) w) ≡ some added
  pub applied : apply (s.number + 1) added w ≡ some w'
  pub fits : s.at + room w (x ∷ xs) ≤ log_length
  pub numbered : s.number + 1 ≤ most4
  pub state : s' ≡ after s added
  pub written : l' ≡ put s.at (encode (s.number + 1) added) l

pub went-state : (a b : State) (w w' l l' : List ℕ) → went a w l ≡ went b w' l' → b ≡ a
went-state a b w w' l l' e = cc

pub went-work : (a b : State) (w w' l l' : List ℕ) → went a w l ≡ went b w' l' → w ≡ w'
went-work a b w w' l l' e = cc

pub went-log : (a b : State) (w w' l l' : List ℕ) → went a w l ≡ went b w' l' → l' ≡ l
went-log a b w w' l l' e = cc

module _ (x : Step) (xs : List Step) (s : State) (w l : List ℕ) where
  pub append-went : (s' : State) (w' l' : List ℕ) → append x xs s w l ≡ went s' w' l' → Added x xs s w l s' w' l'
  unfolding append
  append-went s' w' l' e =
      let a = given-went (next_rec x (did_of s.opened) (page_of (target_of x) w)) 5 _ s' w' l' e in
      let b = given-went (apply (s.number + 1) a.from w) 5 _ s' w' l' a.gives in
      let c = need-went _ 6 _ s' w' l' b.gives in
      let d = need-went _ 7 _ s' w' l' c.1 in
      record {
        added = a.from;
        next = a.was;
        applied = b.was ∙ ap some (went-work _ s' b.from w' _ l' d.1);
        fits = leb-true (s.at + room w (x ∷ xs)) log_length c.0;
        numbered = leb-true (s.number + 1) most4 d.0;
        state = went-state _ s' b.from w' _ l' d.1;
        written = went-log _ s' b.from w' _ l' d.1;
      }

  pub append-stops : (q : ℕ) → append x xs s w l ≡ stopped q → q ≡ 0 → ⊥
  unfolding append
  append-stops q e z =
      given-speaks (next_rec x (did_of s.opened) (page_of (target_of x) w)) 5 _ (λ i. omega (arith, i))
      (λ r. given-speaks (apply (s.number + 1) r w) 5 _ (λ i. omega (arith, i))
      (λ w'. need-speaks _ 6 _ (λ i. omega (arith, i)) (need-speaks _ 7 _ (λ i. omega (arith, i)) (went-speaks _ w' _)))) q e z

-- ---- the record's bytes are those counted for it

next-size : (x : Step) (did : List Rec) (w : List ℕ) (r : Rec) → next_rec x did (page_of (target_of x) w) ≡ some r → size r ≡ step_size w x
unfolding next_rec page_of target_of step_size size kind_of carried
next-size (take_out org dest) did w r e =
    let k = when-some _ _ _ e in
    rw (← k.1) (ap (length_of out) (length-rows 16 (page org w)))
next-size (bring_in org dest back) did w r e = rw (← (some-injective _ _ e))
next-size (point base old new other) did w r e = let k = bind-some _ _ _ e in rw (← (some-injective _ _ k.gives))
next-size (close unit) did w r e = rw (← (some-injective _ _ e))

pub page-bytes : (t : Option ℕ) (w : List ℕ) → Bytes w → Bytes (page_of t w)
unfolding page_of
page-bytes none w b = bytes-nil
page-bytes (some p) w b = bytes-page p w b

pub did_of_lem : (s : State) (o : Open) → s.opened ≡ some o → did_of s.opened ≡ o.did
unfolding did_of
did_of_lem s o e = rw e

-- ---- the log with the record more

-- the record r was appended to the log l, which reads as g, and applied to the pages w
pub record Grown (g : Log) (r : Rec) (w l : List ℕ) (s' : State) (w' l' : List ℕ) : Type 0 where
  pub fits : Fits (at_end g) r
  pub applied : apply ((at_end g).number + 1) r w ≡ some w'
  pub written : l' ≡ put (at_end g).at (encode ((at_end g).number + 1) r) l
  pub state : s' ≡ at_end (grown g r)
  pub read : read_log l' ≡ some (grown g r)
  pub higher : s'.at ≡ (at_end g).at + size r
  pub inside : s'.at ≤ log_length
  pub later : s'.number ≡ (at_end g).number + 1
  pub work : Bytes w'
  pub log : Bytes l'
  pub long : length l' ≡ length l
  pub form : InForm w → InForm w'

-- a record that may come next, applied and appended
pub grows : (g : Log) (r : Rec) (w l : List ℕ) (s' : State) (w' l' : List ℕ) → length l ≡ 8192 → Bytes w → Bytes l → read_log l ≡ some g → Fits (at_end g) r
    → apply ((at_end g).number + 1) r w ≡ some w' → (at_end g).at + size r ≤ log_length → s' ≡ after (at_end g) r
    → l' ≡ put (at_end g).at (encode ((at_end g).number + 1) r) l → Grown g r w l s' w' l'
unfolding after
grows g r w l s' w' l' n bw bl e f applied few z written =
    let s : State = at_end g in
    let h : Good g = (read_log-facts l g e).good bl in
    let st : Stands (s.number + 1) r = fits-stands (sound-at_end g h) (end-keeps g h) f in
    let at : s'.at ≡ s.at + size r = ap (λ (v : State). v.at) z in
    record {
      fits = f;
      applied = applied;
      written = written;
      state = z ∙ sym (at_end-grown g r);
      read = ap read_log written ∙ read_log-put l g r bl e f;
      higher = at;
      inside = omega (arith, at, few);
      later = ap (λ (v : State). v.number) z;
      work = apply-bytes (s.number + 1) r w w' st.rows bw applied;
      log = subst Bytes (sym written) (bytes-grown l s r bl f);
      long = ap length written ∙ length-grown l s r f (omega (arith, few));
      form = λ i. apply-form (s.number + 1) r st w w' i applied;
    }

-- ---- by a unit that tidies

-- the record is that of the next step
pub record Steps (g : Log) (o : Open) (x : Step) (w l : List ℕ) (s' : State) (w' l' : List ℕ) : Type 0 where
  pub added : Rec
  pub does : Does o.did x added
  pub grown : Grown g added w l s' w' l'

pub append-grows : (g : Log) (o : Open) (x : Step) (xs : List Step) (w l : List ℕ) (s' : State) (w' l' : List ℕ) → length l ≡ 8192 → Bytes w → Bytes l
    → read_log l ≡ some g → (at_end g).opened ≡ some o → saves o.start ≡ false → o.todo ≡ x ∷ xs → append x xs (at_end g) w l ≡ went s' w' l'
    → Steps g o x w l s' w' l'
unfolding room
append-grows g o x xs w l s' w' l' n bw bl e is v t a =
    let s : State = at_end g in
    let k : Added x xs s w l s' w' l' = append-went x xs s w l s' w' l' a in
    let r : Rec = k.added in
    let d : Does o.did x r =
    next-does x o.did (page_of (target_of x) w) r (page-bytes (target_of x) w bw)
    (subst (λ (v : List Rec). next_rec x v (page_of (target_of x) w) ≡ some r) (did_of_lem s o is) k.next) in
    let f : Fits s r =
    record {
      room = k.numbered;
      follows = subst (λ (v : Option Open). Follows s.unit v r) (sym is) (goes v t d);
      bears = does-bears (s.number + 1) d;
    } in
    let q : size r ≡ step_size w x = next-size x (did_of s.opened) w r k.next in
    let room-is : room w (x ∷ xs) ≡ step_size w x + room w xs = refl in
    record { added = r; does = d; grown = grows g r w l s' w' l' n bw bl e f k.applied (omega (arith, k.fits, q, room-is)) k.state k.written }
