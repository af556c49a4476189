-- Units that tidy and those that save, in the pass over the log: which turn is whose, and that a unit which tidies stays one. Assumes nothing.
use Prim.Native.Nat.{ℕ, ◌≤◌}
use mathlib.Core.Path.{◌≡◌, refl, sym, ap, ◌∙◌}
use mathlib.Core.Bool.{Bool, true, false, not, false≢true}
use mathlib.Core.List.{List}
use lib.ListN.{length, drop}
use lib.Dec.{leb}
use borrow.Author.Tests.{leb-true, le-leb, not-true}
use Rattle.field.specs.Test.{pick}
use Rattle.field.proofs.Test.{both-1, both-2, both-intro, pick_true, pick-false}
use Rattle.logs.specs.Plan.{Step, take_out, bring_in, point, close}
use Rattle.logs.specs.Log.{saves_at}
use Rattle.logs.specs.Scan.{lost, begun, went, ended, stepped, turned, saving_on, live, tidies_on}
use Rattle.logs.specs.declared.scan.Walk.{Walk}

-- no put or delete is open
abbrev pub Plain : (l : List ℕ) → Walk → Type 0
Plain l w = w.opened ≡ true → saves_at (drop w.begin l) ≡ false

module _ (l : List ℕ) (w : Walk) where
  pub saving-open : (b : Bool) → saving_on l w ≡ b → w.opened ≡ true → saves_at (drop w.begin l) ≡ b
  unfolding saving_on
  saving-open b e o = sym (pick_true _ _ _ o) ∙ e

  pub saving-shut : saving_on l w ≡ false → w.opened ≡ false → (44 ≤ length (drop w.at l)) × (saves_at (drop w.at l) ≡ false)
  unfolding saving_on
  saving-shut e o = by-room (leb 44 (length (drop w.at l))) refl
    where
      by-room : (t : Bool) → leb 44 (length (drop w.at l)) ≡ t → (44 ≤ length (drop w.at l)) × (saves_at (drop w.at l) ≡ false)
      by-room true r = (leb-true 44 _ r, sym (pick-false _ _ _ o ∙ pick_true _ _ _ r) ∙ e)
      by-room false r = absurd (false≢true (sym e ∙ pick-false _ _ _ o ∙ pick-false _ _ _ r))

  pub saving-begun : saving_on l w ≡ true → w.opened ≡ false → 44 ≤ length (drop w.at l) → saves_at (drop w.at l) ≡ true
  unfolding saving_on
  saving-begun e o h = sym (pick-false _ _ _ o ∙ pick_true _ _ _ (le-leb 44 _ h)) ∙ e

  pub plain_of : saving_on l w ≡ false → Plain l w
  plain_of e = saving-open false e

  -- a record of a unit that tidies comes
  pub tidies-on : tidies_on l w ≡ true → Plain l w → (live l w ≡ true) × (saving_on l w ≡ false)
  unfolding tidies_on saving_on
  tidies-on e p = (both-1 _ _ e, by-open w.opened refl)
    where
      by-room : (t : Bool) → leb 44 (length (drop w.at l)) ≡ t → w.opened ≡ false
          → pick w.opened (saves_at (drop w.begin l)) (pick (leb 44 (length (drop w.at l))) (saves_at (drop w.at l)) true) ≡ false
      by-room true r o =
          pick-false _ _ _ o ∙ pick_true _ _ _ r ∙ not-true _ (sym (pick-false _ _ _ o ∙ pick_true _ _ _ r) ∙ both-2 _ _ e)
      by-room false r o = absurd (false≢true (sym (pick-false _ _ _ o ∙ pick-false _ _ _ r) ∙ both-2 _ _ e))

      by-open : (t : Bool) → w.opened ≡ t
          → pick w.opened (saves_at (drop w.begin l)) (pick (leb 44 (length (drop w.at l))) (saves_at (drop w.at l)) true) ≡ false
      by-open true o = pick_true _ _ _ o ∙ p o
      by-open false o = by-room (leb 44 (length (drop w.at l))) refl o

  pub tidies-some : live l w ≡ true → saving_on l w ≡ false → tidies_on l w ≡ true
  unfolding tidies_on
  tidies-some h e = both-intro _ _ h (by-open w.opened refl)
    where
      by-open : (t : Bool) → w.opened ≡ t → pick w.opened true (pick (leb 44 (length (drop w.at l))) (not (saves_at (drop w.at l))) false) ≡ true
      by-open true o = pick_true _ _ _ o
      by-open false o = let q = saving-shut e o in pick-false _ _ _ o ∙ pick_true _ _ _ (le-leb 44 _ q.0) ∙ ap not q.1

-- ---- a turn of a unit that tidies leaves it one

open-begin : (z : Bool) (y : Walk) (b : ℕ) → (y.opened ≡ true → y.begin ≡ b) → (pick z y lost).opened ≡ true → (pick z y lost).begin ≡ b
unfolding pick lost
open-begin true y b h e = h e
open-begin false y b h e = absurd (false≢true e)

stepped-begin : (w : Walk) (m : List ℕ) (t : Bool) (x : Step) → (stepped w m t x).opened ≡ true → (stepped w m t x).begin ≡ w.begin
unfolding stepped went ended
stepped-begin w m t (take_out org dest) e = open-begin _ _ w.begin (λ o. refl) e
stepped-begin w m t (bring_in org dest back) e = open-begin _ _ w.begin (λ o. refl) e
stepped-begin w m t (point base old new other) e = open-begin _ _ w.begin (λ o. refl) e
stepped-begin w m t (close unit) e = open-begin _ _ w.begin (λ o. absurd (false≢true o)) e

begun-begin : (z : Bool) (w : Walk) (k : ℕ) → (pick z (begun w k) lost).opened ≡ true → (pick z (begun w k) lost).begin ≡ w.at
unfolding begun
begun-begin z w k e = open-begin z _ w.at (λ o. refl) e

pub plain_turn : (l : List ℕ) (w v : Walk) → saving_on l w ≡ false → v ≡ turned l w → Plain l v
unfolding turned
plain_turn l w v e q o = by-open w.opened refl
  where
    by-open : (t : Bool) → w.opened ≡ t → saves_at (drop v.begin l) ≡ false
    by-open true p =
        let s : saves_at (drop w.begin l) ≡ false = saving-open l w false e p in
        let x = q ∙ pick_true _ _ _ p ∙ pick-false _ _ _ s in
        let b : v.begin ≡ w.begin =
        ap (λ (y : Walk). y.begin) x ∙ stepped-begin w (drop w.at l) _ _ (sym (ap (λ (y : Walk). y.opened) x) ∙ o) in
        ap (λ (i : ℕ). saves_at (drop i l)) b ∙ s
    by-open false p =
        let s = saving-shut l w e p in
        let x = q ∙ pick-false _ _ _ p in
        let b : v.begin ≡ w.at = ap (λ (y : Walk). y.begin) x ∙ begun-begin _ w _ (sym (ap (λ (y : Walk). y.opened) x) ∙ o) in
        ap (λ (i : ℕ). saves_at (drop i l)) b ∙ s.1
