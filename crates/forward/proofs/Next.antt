-- The next record of the unit that is open at a log's end: the log that is read afterwards, and that no test stops it with 0. Assumes nothing.
use Prim.Native.Nat.{ℕ, ◌+◌, ◌≤◌}
use native.Mathlib.Omega.{arith}
use mathlib.Core.Path.{◌≡◌, refl, sym, ap, ◌∙◌, subst}
use mathlib.Core.Bool.{Bool, true, false}
use mathlib.Core.List.{List, [], ◌∷◌}
use mathlib.Core.Option.{some}
use lib.ListN.{length}
use Rattle.field.specs.Test.{given}
use Rattle.field.specs.Bytes.{Bytes}
use Rattle.field.proofs.Test.{pick_true, pick-false}
use Rattle.logs.specs.Record.{saves, Rec}
use Rattle.logs.specs.Plan.{Step}
use Rattle.logs.specs.Log.{Open, State, Log, at_end}
use Rattle.logs.specs.Scan.{shown}
use Rattle.logs.specs.declared.scan.Walk.{Walk}
use Rattle.logs.proofs.Held.{done-some}
use Rattle.logs.proofs.Toward.{toward-next}
use Rattle.unit.specs.Next.{apply}
use Rattle.saving.specs.Rest.{Rest, refuses, lacks}
use Rattle.saving.proofs.Replies.{resumed-tells}
use Rattle.resuming.proofs.Walked.{done_end}
use Rattle.store.specs.Calls.{Went, stopped, went, and_then, append_all, append, conclude, lacked_by, finish_open}
use Rattle.forward.specs.Appends.{append_first, append_open, append_next}
use Rattle.forward.proofs.Stands.{Ends}
use Rattle.forward.proofs.Grows.{Speaks, stop-speaks, given-speaks, need-speaks, went-speaks, append-stops, append-grows, Grown}
use Rattle.forward.proofs.Saves.{conclude-went, conclude-grows}
use Rattle.forward.proofs.Finish.{onward, finish-one}

-- ---- by the kind of unit

pub open-save : (o : Open) (s : State) (w l : List ℕ) → saves o.start ≡ true → append_open o s w l ≡ conclude 1 (lacked_by o s w) s w l
unfolding append_open
open-save o s w l v = pick_true _ _ _ v

pub open-tidies : (o : Open) (s : State) (w l : List ℕ) → saves o.start ≡ false → append_open o s w l ≡ append_first o.todo s w l
unfolding append_open
open-tidies o s w l v = pick-false _ _ _ v

-- ---- no test stops it with 0

then-speaks : (y : Went) (f : State → List ℕ → List ℕ → Went) → Speaks y → ((s : State) (w l : List ℕ) → Speaks (f s w l)) → Speaks (and_then y f)
unfolding and_then
then-speaks (stopped r) f a b = a
then-speaks (went s w l) f a b = b s w l

all-speak : (rs : List Rec) (s : State) (w l : List ℕ) → Speaks (append_all rs s w l)
unfolding append_all
all-speak [] s w l = went-speaks s w l
all-speak (r ∷ rs) s w l =
    given-speaks (apply (s.number + 1) r w) 5 _ (λ i. omega (arith, i)) (λ w'. then-speaks _ (append_all rs) (went-speaks _ w' _) (all-speak rs))

conclude-speaks : (k : ℕ) (rest : Rest) (s : State) (w l : List ℕ) → ((q : ℕ) → rest ≡ refuses q → q ≡ 0 → ⊥) → Speaks (conclude k rest s w l)
unfolding conclude
conclude-speaks k (refuses q) s w l h = stop-speaks q (h q refl)
conclude-speaks k (lacks rs) s w l h =
    need-speaks _ 6 _ (λ i. omega (arith, i)) (need-speaks _ 7 _ (λ i. omega (arith, i)) (all-speak _ s w l))

lacked-tells : (o : Open) (s : State) (w : List ℕ) (q : ℕ) → lacked_by o s w ≡ refuses q → q ≡ 0 → ⊥
unfolding lacked_by
lacked-tells o s w q e = resumed-tells _ _ _ w q e

first-append : (x : Step) (xs : List Step) (s : State) (w l : List ℕ) → append_first (x ∷ xs) s w l ≡ append x xs s w l
unfolding append_first
first-append x xs s w l = refl

first-speaks : (todo : List Step) (s : State) (w l : List ℕ) → Speaks (append_first todo s w l)
unfolding append_first
first-speaks [] s w l = stop-speaks 10 (λ i. omega (arith, i))
first-speaks (x ∷ xs) s w l = append-stops x xs s w l

pub open-speaks : (o : Open) (s : State) (w l : List ℕ) (q : ℕ) → append_open o s w l ≡ stopped q → q ≡ 0 → ⊥
open-speaks o s w l = by_kind (saves o.start) refl
  where
    by_kind : (t : Bool) → saves o.start ≡ t → Speaks (append_open o s w l)
    by_kind true v = subst Speaks (sym (open-save o s w l v)) (conclude-speaks 1 (lacked_by o s w) s w l (lacked-tells o s w))
    by_kind false v = subst Speaks (sym (open-tidies o s w l v)) (first-speaks o.todo s w l)

-- ---- the log afterwards

pub record Gone (g : Log) (w l : List ℕ) (s' : State) (w' l' : List ℕ) : Type 0 where
  pub added : Rec
  pub grown : Grown g added w l s' w' l'

module _ {l : List ℕ} {w : Walk} (e : Ends l w) where
  pub next-open : (work : List ℕ) → append_next work l ≡ append_open e.unit (at_end e.log) work l
  unfolding append_next given
  next-open work = rw (e.read, e.opened)

  -- the unit's records are no more than the log's
  few : length e.unit.did ≤ (at_end e.log).number
  few = omega (arith, done_end e.log, done-some (at_end e.log) e.unit e.opened, number_is)
    where
      number_is : (shown (at_end e.log)).number.0 ≡ (at_end e.log).number
      number_is = unfold shown in refl

  module _ (work : List ℕ) (whole : length work ≡ 16384) (long : length l ≡ 8192) (bw : Bytes work) (bl : Bytes l) where
    -- finishing: one record, and then the unit as the log says
    pub next-finish : finish_open (some e.unit) (at_end e.log) work l ≡ and_then (append_next work l) onward
    next-finish =
        finish-one e.log e.unit work l whole long bw bl e.read e.opened few ∙ ap (λ (y : Went). and_then y onward) (sym (next-open work))

    pub next_grows : (s' : State) (w' l' : List ℕ) → append_next work l ≡ went s' w' l' → Gone e.log work l s' w' l'
    next_grows s' w' l' q = by_kind (saves e.unit.start) refl (sym (next-open work) ∙ q)
      where
        by-step : (v : saves e.unit.start ≡ false) (x : Step) (xs : List Step) → e.unit.todo ≡ x ∷ xs
            → append_first e.unit.todo (at_end e.log) work l ≡ went s' w' l' → Gone e.log work l s' w' l'
        by-step v x xs t i =
            let first : append_first e.unit.todo (at_end e.log) work l ≡ append x xs (at_end e.log) work l =
            ap (λ (ts : List Step). append_first ts (at_end e.log) work l) t ∙ first-append x xs (at_end e.log) work l in
            let k = append-grows e.log e.unit x xs work l s' w' l' long bw bl e.read e.opened v t (sym first ∙ i) in
            record { added = k.added; grown = k.grown }

        by_kind : (t : Bool) → saves e.unit.start ≡ t → append_open e.unit (at_end e.log) work l ≡ went s' w' l' → Gone e.log work l s' w' l'
        by_kind true v i =
            let c =
            conclude-went e.log e.unit work l whole bw bl e.read e.opened v s' w' l' (sym (open-save e.unit (at_end e.log) work l v) ∙ i) in
            record { added = c.added; grown = conclude-grows e.log e.unit work l whole bw bl e.read e.opened v long few s' w' l' c }
        by_kind false v i =
            let n = toward-next e.toward e.opened v in
            by-step v n.step n.others n.todo (sym (open-tidies e.unit (at_end e.log) work l v) ∙ i)
