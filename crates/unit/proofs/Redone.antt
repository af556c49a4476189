-- The record that the code reads off the log is the one that stands there, so that what it repeats is what that record does.
-- Assumes nothing.
use Prim.Native.Nat.{ℕ, ◌+◌, ◌-◌, ◌*◌, ◌≤◌}
use native.Mathlib.Nat.{add-sub_cancel_left}
use native.Mathlib.Omega.{arith}
use mathlib.Core.Path.{◌≡◌, refl, sym, ap, ◌∙◌, subst}
use mathlib.Core.Bool.{Bool, true}
use mathlib.Core.List.{List, []}
use lib.ListN.{length, take, drop, get_or, length-take, length-drop, take-append-drop}
use lib.Seq.{drop-drop, get_or-drop}
use borrow.Author.Tests.{eq-eqb, ne_eqb}
use borrow.Author.Rules.{part_to_end}
use Rattle.field.specs.Bytes.{le2, le4}
use Rattle.field.proofs.Test.{pick_true, pick-false}
use Rattle.field.proofs.Number.{le2-drop, le4-drop}
use Rattle.page.specs.Page.{rows_of, ascend_records}
use Rattle.page.proofs.Rows.{rows_of-front}
use Rattle.logs.specs.Record.{begin, length_of, Rec, LO, LI, LM, LG, LE}
use Rattle.logs.specs.Table.{kinds, kind_at}
use Rattle.logs.specs.Log.{read_image}
use Rattle.logs.specs.Valid.{Filed}
use Rattle.logs.specs.Scan.{images_in, images_on}
use Rattle.logs.specs.Plan.{take_out, bring_in, point}
use Rattle.logs.specs.Steps.{step_of}
use Rattle.logs.specs.Source.{source_at, source_rows, sourced, record_at, saved_at}
use Rattle.logs.specs.declared.scan.Walk.{Walk}
use Rattle.logs.specs.declared.steps.Planned.{Planned}
use Rattle.logs.specs.declared.steps.Planned.TheVariants.{Out, In, Point, Close}
use Rattle.unit.specs.Next.{places_of, targets, repeat}
use Rattle.unit.specs.Made.{Did, ended}
use Rattle.field.specs.declared.PageNo.{PageNo}
use Rattle.field.specs.declared.UnitNo.{UnitNo}
use Rattle.unit.specs.Again.{OutReads, InReads, PointReads, Reads}
use Rattle.unit.proofs.Pagewise.{repeat-stays}
use Rattle.unit.proofs.Applied.{did-some}
use Rattle.unit.proofs.Ended.{end-repeats}

-- k rows that the code lends
rows-lent : (l : List ℕ) (at k : ℕ) → at + 16 * k ≤ length l → rows_of 16 k (take (at + 16 * k - at) (drop at l)) ≡ rows_of 16 k (drop at l)
rows-lent l at k h =
    let m : List ℕ = drop at l in
    let n : length (take (16 * k) m) ≡ 16 * k = simp (length-take, length-drop) (omega arith) in
    rw (add-sub_cancel_left at (16 * k))
    (sym (rows_of-front 16 k (take (16 * k) m) (drop (16 * k) m) (omega arith)) ∙ ap (rows_of 16 k) (take-append-drop (16 * k) m))

pub rows_long : (l : List ℕ) (at k : ℕ) → at + 16 * k ≤ length l → length (take (at + 16 * k - at) (drop at l)) ≡ 16 * k
rows_long l at k h = rw (add-sub_cancel_left at (16 * k)) (simp (length-take, length-drop) (omega arith))

-- another record for the one repeated
did-as : (n : ℕ) (a b : Rec) (v w : List ℕ) (r : Bool) → a ≡ b → Did (repeat n a v) v r w → Did (repeat n b v) v r w
did-as n a b v w r e d = subst (λ (x : Rec). Did (repeat n x v) v r w) e d

-- the rows of an LI's LO
module _ (l : List ℕ) (w : Walk) (back at k : ℕ) (e : at ≡ source_at w back) (f : k ≡ source_rows w back) (h : source_at w back + 20 + 16 * source_rows w back ≤ length l) where
  in_rows : rows_of 16 k (take (at + 20 + 16 * k - (at + 20)) (drop (at + 20) l)) ≡ sourced l w back
  unfolding sourced
  in_rows = rows-lent l (at + 20) k (omega arith) ∙ rw (e, f)

  pub in_order_lem : ascend_records 0 (sourced l w back) ≡ true → ascend_records 0 (rows_of 16 k (take (at + 20 + 16 * k - (at + 20)) (drop (at + 20) l))) ≡ true
  in_order_lem q = rw in_rows q

  pub in-redone : (n : ℕ) (v v' : List ℕ) (r : Bool) (org dest : ℕ)
      → Did (repeat n (LI org dest back (rows_of 16 k (take (at + 20 + 16 * k - (at + 20)) (drop (at + 20) l)))) v) v r v'
      → Did (repeat n (record_at l w (bring_in org dest back)) v) v r v'
  unfolding record_at
  in-redone n v v' r org dest d = did-as n _ _ v v' r (ap (LI org dest back) in_rows) d

module _ (n : ℕ) (l : List ℕ) (w : Walk) (v v' : List ℕ) (r : Bool) where
  pub out-redone : (org dest k : ℕ) → k ≡ le2 l (w.at + 16) → w.at + 20 + 16 * le2 l (w.at + 16) ≤ length l
      → Did (repeat n (LO org dest (rows_of 16 k (take (w.at + 20 + 16 * k - (w.at + 20)) (drop (w.at + 20) l)))) v) v r v'
      → Did (repeat n (record_at l w (take_out org dest)) v) v r v'
  unfolding record_at
  out-redone org dest k e h d =
      did-as n _ _ v v' r
      (ap (LO org dest)
      (rows-lent l (w.at + 20) k (omega arith) ∙ rw (e, ← le2-drop w.at 16 l, ← drop-drop 20 w.at l))) d

  pub point-redone : (base old new key : ℕ) (other : Bool) → key ≡ le4 l (w.at + 20) → Did (repeat n (LM base old new key) v) v r v'
      → Did (repeat n (record_at l w (point base old new other)) v) v r v'
  unfolding record_at
  point-redone base old new key other e d = did-as n _ _ v v' r (ap (LM base old new) (e ∙ sym (le4-drop w.at 20 l))) d

-- ---- by the kind of the step that the code has

module _ (l : List ℕ) (w : Walk) (p : Planned) (h : Reads l w (step_of p)) where
  pub out_reads : (org dest : PageNo) → p ≡ Out org dest → OutReads l w org.0
  unfolding step_of
  out_reads org dest e = subst (λ (x : Planned). Reads l w (step_of x)) e h

  pub in-reads : (org dest : PageNo) (back : ℕ) → p ≡ In org dest back → InReads l w dest.0 back
  unfolding step_of
  in-reads org dest back e = subst (λ (x : Planned). Reads l w (step_of x)) e h

  pub point-reads : (base old new : PageNo) (other : Bool) → p ≡ Point base old new other → PointReads l w base.0
  unfolding step_of
  point-reads base old new other e = subst (λ (x : Planned). Reads l w (step_of x)) e h

module _ (n : ℕ) (l : List ℕ) (w : Walk) (p : Planned) (v v' : List ℕ) (r : Bool) where
  pub step-out! : (org dest : PageNo) → p ≡ Out org dest → ((to : ℕ) → Did (repeat n (record_at l w (take_out org.0 to)) v) v r v') → Did
      (repeat n (record_at l w (step_of p)) v) v r v'
  unfolding step_of
  step-out! org dest e d = rw e (d dest.0)

  pub step-in! : (org dest : PageNo) (back : ℕ) → p ≡ In org dest back → ((from : ℕ) → Did (repeat n (record_at l w (bring_in from dest.0 back)) v) v r v')
      → Did (repeat n (record_at l w (step_of p)) v) v r v'
  unfolding step_of
  step-in! org dest back e d = rw e (d org.0)

  pub step-point! : (base old new : PageNo) (other : Bool) → p ≡ Point base old new other →
      ((o : Bool) → Did (repeat n (record_at l w (point base.0 old.0 new.0 o)) v) v r v')
      → Did (repeat n (record_at l w (step_of p)) v) v r v'
  unfolding step_of
  step-point! base old new other e d = rw e (d other)

pub step-close! : (n : ℕ) (l : List ℕ) (w : Walk) (p : Planned) (v : List ℕ) (unit : UnitNo) → p ≡ Close unit → Did (repeat n (record_at l w (step_of p)) v) v true v
unfolding step_of record_at targets places_of
step-close! n l w p v unit e = rw e (did-some _ v v v (repeat-stays n (LE unit.0 []) v refl) refl)

-- ---- a record of a put or delete

module _ (n : ℕ) (l : List ℕ) (w : Walk) (v : List ℕ) where
  -- an LG changes no page
  pub image-redone : get_or l (w.at + 1) 0 ≡ 71 → Did (repeat n (saved_at l w) v) v true v
  unfolding saved_at targets
  image-redone e =
      let m : List ℕ = drop w.at l in
      let r : saved_at l w ≡ LG (read_image m) = pick_true _ _ _ (eq-eqb (get_or m 1 0) 71 (get_or-drop w.at l 1 0 ∙ e)) in
      rw r (did-some _ v v v (repeat-stays n (LG (read_image m)) v refl) refl)

  -- an LE lays the images before it
  module _ (from : ℕ) (pf : from ≡ w.begin + length_of (kind_at 1) 1) where
    images-lent : images_in w.done (take (length l - from) (drop from l)) ≡ images_on l w
    unfolding images_on kind_at kinds
    images-lent =
        let d : drop (length_of begin 1) (drop w.begin l) ≡ drop from l = drop-drop (length_of begin 1) w.begin l ∙ ap (λ (y : ℕ). drop y l) (sym pf) in
        rw (part_to_end, d)

    pub filed-lent : Filed 0 (images_on l w) → Filed 0 (images_in w.done (take (length l - from) (drop from l)))
    filed-lent f = rw images-lent f

    pub end-redone : (get_or l (w.at + 1) 0 ≡ 71 → ⊥) → Filed 0 (images_on l w) → (v' : List ℕ)
        → v' ≡ ended n (images_in w.done (take (length l - from) (drop from l))) v → Did (repeat n (saved_at l w) v) v true v'
    unfolding saved_at
    end-redone f h v' e =
        let m : List ℕ = drop w.at l in
        let r : saved_at l w ≡ LE w.unit.0 (images_on l w) = pick-false _ _ _ (ne_eqb (get_or m 1 0) 71 (λ q. f (sym (get_or-drop w.at l 1 0) ∙ q))) in
        let x : v' ≡ ended n (images_on l w) v = e ∙ rw images-lent in
        rw r (did-some _ v v' _ (end-repeats w.unit.0 n (images_on l w) v h) x)
