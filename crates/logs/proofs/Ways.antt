-- The ways through a turn of the pass: a record that is not there, and one that is, with its bytes. Assumes nothing.
use Prim.Native.Nat.{ℕ, ◌+◌, ◌-◌, ◌*◌, ◌≤◌, ◌<◌}
use native.Mathlib.Omega.{arith}
use mathlib.Core.Path.{◌≡◌, sym, ◌∙◌}
use mathlib.Core.Bool.{Bool, true, false, not}
use mathlib.Core.List.{List, []}
use lib.ListN.{length, take, drop, get_or}
use lib.Seq.{get_or-drop}
use borrow.Author.Rules.{part_to_end}
use lib.Dec.{eqb, leb}
use borrow.Author.Tests.{leb-true, lt-leb, not-true, not-false}
use Rattle.field.specs.Test.{all, pick}
use Rattle.field.specs.Bytes.{le2, le4, most4}
use Rattle.field.proofs.Test.{all_head, all_tail, both-1, both-2, both_false, pick_true, pick-false}
use Rattle.page.specs.Page.{rows_of, ascend}
use Rattle.page.proofs.Rows.{length-rows_of}
use Rattle.logs.specs.Record.{Image, Rec, LB, LO, LM, LE, begin, length_of, kind_of, carried, size}
use Rattle.logs.specs.Plan.{Step, take_out, bring_in, point, close, plan}
use Rattle.logs.specs.Log.{begin_ok, saves_at, read_begin}
use Rattle.logs.specs.Stand.{stands, stands_in, stands_modify, stands_out, stands_begin, stands_image, stands_last}
use Rattle.field.specs.declared.PageNo.{PageNo}
use Rattle.field.specs.declared.UnitNo.{UnitNo}
use Rattle.logs.specs.Scan.{lost, begun, stepped, images_on, saved, turned}
use Rattle.logs.specs.declared.scan.Walk.{Walk}
use Rattle.logs.specs.declared.steps.Planned.{Planned}
use Rattle.logs.specs.declared.steps.Planned.TheVariants.{Out, In, Point, Close}
use Rattle.logs.specs.Steps.{step_of}
use Rattle.logs.proofs.Stand.{both-none}
use Rattle.logs.proofs.Begun.{begin-long}

-- the record is not there
pub lost-pick : (x v : Walk) (z t : Bool) → x ≡ lost → z ≡ t → not z ≡ true → x ≡ pick t v lost
lost-pick x v z t e q h = e ∙ sym (pick-false t _ _ (sym q ∙ not-true z h))

-- it is there
pub on-pick : (x v : Walk) (z t : Bool) → x ≡ v → z ≡ t → not z ≡ false → x ≡ pick t v lost
on-pick x v z t e q h = e ∙ sym (pick_true t _ _ (sym q ∙ not-false z h))

-- ---- a record that stands there has its bytes there

pub stands-room : (n : ℕ) (r : Rec) (m : List ℕ) → stands n r m ≡ true → size r ≤ length m
unfolding stands
stands-room n r m e = leb-true (size r) (length m) (all_head _ _ (all_tail _ _ e))

module _ (n : ℕ) (m : List ℕ) (z : Bool) (h : not z ≡ false) where
  pub end-room : (u : ℕ) → z ≡ stands n (LE u []) m → 16 ≤ length m
  unfolding size carried kind_of length_of
  end-room u e = stands-room n (LE u []) m (sym e ∙ not-false z h)

  pub modify-room : (base old new : ℕ) → z ≡ stands_modify n base old new m → 28 ≤ length m
  unfolding stands_modify size carried kind_of length_of
  modify-room base old new e = stands-room n (LM base old new (le4 m 20)) m (sym e ∙ not-false z h)

  pub in-room : (org dest back k : ℕ) → z ≡ stands_in n org dest back k m → 24 ≤ length m
  unfolding stands_in length_of
  in-room org dest back k e = leb-true 24 (length m) (all_head _ _ (all_tail _ _ (sym e ∙ not-false z h)))

  pub begin-room : (u : ℕ) → z ≡ stands_begin n u m → length_of begin (pick (saves_at m) 1 0) ≤ length m
  unfolding stands_begin
  begin-room u e = rw (begin-long m u) at (stands-room n (LB (read_begin u m)) m (both-2 _ _ (sym e ∙ not-false z h)))

  out-size : (org dest : ℕ) → size (LO org dest (rows_of 16 (le2 m 16) (drop 20 m))) ≡ 20 + 16 * le2 m 16
  unfolding size carried kind_of length_of
  out-size org dest = rw (length-rows_of 16 (le2 m 16) (drop 20 m))

  pub out-room : (org dest : ℕ) → z ≡ stands_out n org dest m → (20 + 16 * le2 m 16 ≤ length m) × (le2 m 16 ≤ 15)
  unfolding stands_out
  out-room org dest e =
      let t = sym e ∙ not-false z h in (
        rw (out-size org dest) at (stands-room n (LO org dest (rows_of 16 (le2 m 16) (drop 20 m))) m (both-2 _ _ t)),
        leb-true (le2 m 16) 15 (all_head _ _ (all_tail _ _ (both-1 _ _ t))),
      )

  -- its records, of which there is one, ascend
  pub out-rows : (org dest : ℕ) → z ≡ stands_out n org dest m → (1 ≤ le2 m 16) × (ascend 114 99 0 (rows_of 16 (le2 m 16) (drop 20 m)) ≡ true)
  unfolding stands_out
  out-rows org dest e =
      let t = both-1 _ _ (sym e ∙ not-false z h) in
      (leb-true 1 (le2 m 16) (all_head _ _ t), all_head _ _ (all_tail _ _ (all_tail _ _ t)))

-- ---- numbers that are used up

stands-full : (n : ℕ) (r : Rec) (m : List ℕ) → most4 < n → stands n r m ≡ false
unfolding stands all
stands-full n r m h = both_false _ _ (lt-leb n most4 h)

pub begin-last : (w : Walk) (m : List ℕ) (x : Walk) → x ≡ lost → w.unit.0 ≡ 4294967295 → x ≡ pick (stands_begin (w.number.0 + 1) (w.unit.0 + 1) m) (begun w (pick (saves_at m) 1 0)) lost
unfolding stands_begin begin_ok all read_begin
begin-last w m x e h =
    let k : leb (w.unit.0 + 1) most4 ≡ false = lt-leb (w.unit.0 + 1) most4 (omega arith) in
    e ∙ sym (pick-false _ _ _ (both_false _ _ (both_false _ _ k)))

step-full : (w : Walk) (m : List ℕ) (t : Bool) (s : Step) → most4 < w.number.0 + 1 → stepped w m t s ≡ lost
unfolding stepped stands_out stands_in stands_modify all
step-full w m t (take_out org dest) h = pick-false _ _ _ (both-none _ _ (stands-full (w.number.0 + 1) _ m h))
step-full w m t (bring_in org dest back) h = pick-false _ _ _ (both_false _ _ (lt-leb (w.number.0 + 1) most4 h))
step-full w m t (point base old new other) h = pick-false _ _ _ (stands-full (w.number.0 + 1) _ m h)
step-full w m t (close u) h = pick-false _ _ _ (stands-full (w.number.0 + 1) _ m h)

either : (t : Bool) (a b : Walk) → a ≡ lost → b ≡ lost → pick t a b ≡ lost
unfolding pick
either true a b p q = p
either false a b p q = q

save-full : (w : Walk) (m : List ℕ) (is : List Image) → most4 < w.number.0 + 1 → saved w m is ≡ lost
unfolding saved stands_image stands_last
save-full w m is h =
    either _ _ _ (pick-false _ _ _ (both-none _ _ (stands-full (w.number.0 + 1) _ m h))) (pick-false _ _ _ (both-none _ _ (stands-full (w.number.0 + 1) _ m h)))

pub turned-full : (l : List ℕ) (w x : Walk) → x ≡ lost → w.number.0 ≡ 4294967295 → x ≡ turned l w
unfolding turned stands_begin
turned-full l w x e h =
    let k : most4 < w.number.0 + 1 = omega arith in
    e ∙ sym (either w.opened _ _ (either (saves_at (drop w.begin l)) _ _ (save-full w _ _ k) (step-full w _ _ _ k)) (pick-false _ _ _ (both-none _ _ (stands-full (w.number.0 + 1) _ _ k))))

-- ---- the turn, by what the code lends

module _ (l : List ℕ) (w x : Walk) where
  pub begin-turned : not w.opened ≡ true → x ≡ pick (stands_begin (w.number.0 + 1) (w.unit.0 + 1) (take (length l - w.at) (drop w.at l))) (begun w (pick (saves_at (take (length l - w.at) (drop w.at l))) 1 0)) lost → x ≡ turned l w
  unfolding turned
  begin-turned h e =
      let y : x ≡ pick (stands_begin (w.number.0 + 1) (w.unit.0 + 1) (drop w.at l)) (begun w (pick (saves_at (drop w.at l)) 1 0)) lost = rw part_to_end at e in
      y ∙ sym (pick-false _ _ _ (not-true w.opened h))

  pub save-turned : not w.opened ≡ false → (z : Bool) → z ≡ saves_at (take (length l - w.begin) (drop w.begin l)) → z ≡ true
      → x ≡ saved w (drop w.at l) (images_on l w) → x ≡ turned l w
  unfolding turned
  save-turned h z q v e =
      let p : saves_at (drop w.begin l) ≡ true = sym (rw part_to_end at q) ∙ v in
      e ∙ sym (pick_true _ _ _ (not-false w.opened h) ∙ pick_true _ _ _ p)

  pub step-turned : not w.opened ≡ false → (z : Bool) → z ≡ saves_at (take (length l - w.begin) (drop w.begin l)) → z ≡ false → (s : Step) → s ≡ get_or (plan (read_begin w.unit.0 (take (length l - w.begin) (drop w.begin l)))) w.done (close w.unit.0)
      → x ≡ stepped w (take (length l - w.at) (drop w.at l)) (eqb (get_or l (w.begin + 16) 0) 1) s → x ≡ turned l w
  unfolding turned
  step-turned h z q v s es e =
      let p : saves_at (drop w.begin l) ≡ false = sym (rw part_to_end at q) ∙ v in
      let ys : s ≡ get_or (plan (read_begin w.unit.0 (drop w.begin l))) w.done (close w.unit.0) = rw part_to_end at es in
      let y : x ≡ stepped w (drop w.at l) (eqb (get_or l (w.begin + 16) 0) 1) s = rw part_to_end at e in
      y ∙ sym (pick_true _ _ _ (not-false w.opened h) ∙ pick-false _ _ _ p ∙ rw (get_or-drop w.begin l 16 0, ← ys))

-- ---- the step that the code has

module _ (w : Walk) (m : List ℕ) (t : Bool) (p : Planned) (x : Walk) where
  pub step-out! : (org dest : PageNo) → p ≡ Out org dest → x ≡ stepped w m false (take_out org.0 dest.0) → x ≡ stepped w m t (step_of p)
  unfolding step_of stepped
  step-out! org dest q e = e ∙ rw q

  pub step-in! : (org dest : PageNo) (back : ℕ) → p ≡ In org dest back → x ≡ stepped w m false (bring_in org.0 dest.0 back) → x ≡ stepped w m t (step_of p)
  unfolding step_of stepped
  step-in! org dest back q e = e ∙ rw q

  pub step-point! : (base old new : PageNo) (other : Bool) → p ≡ Point base old new other → x ≡ stepped w m false (point base.0 old.0 new.0 false) → x ≡ stepped w m t (step_of p)
  unfolding step_of stepped
  step-point! base old new other q e = e ∙ rw q

  pub step-close! : (u : UnitNo) → p ≡ Close u → x ≡ stepped w m t (close u.0) → x ≡ stepped w m t (step_of p)
  unfolding step_of stepped
  step-close! u q e = e ∙ rw q
