-- Positions in a well-formed tree: every test of a step says how many rows there are, and what is left at the position that a step comes to is
-- what was left without its first record. Assumes nothing.
use Prim.Native.Nat.{ℕ, ◌+◌, ◌≤◌, ◌<◌}
use native.Mathlib.Omega.{arith}
use mathlib.Core.Path.{◌≡◌, refl, sym, ◌∙◌}
use mathlib.Core.Bool.{true}
use mathlib.Core.List.{List, [], ◌∷◌, ◌++◌}
use lib.ListN.{length, drop, get_or, drop_of_length-le}
use Rattle.field.proofs.Test.{both-1}
use Rattle.field.proofs.Part.{split}
use Rattle.page.specs.Page.{root, base, leaf, key_of, value_of, count, rows, first_base, last_base, first_leaf, last_leaf, is_root, is_base, is_leaf, formed}
use Rattle.page.specs.Pages.{page}
use Rattle.page.proofs.Rows.{length-rows, get_or_rows}
use Rattle.page.proofs.Order.{pointing-at}
use Rattle.page.proofs.Made.{Shaped, shaped-facts}
use Rattle.page.proofs.Pages.{formed-page}
use Rattle.tree.specs.Walk.{Spot, Over}
use Rattle.tree.specs.Reader.{Sound, from_root, behind, to_come}
use Rattle.tree.specs.declared.walk.Place.{Place}
use Rattle.tree.proofs.Regions.{as-root, as-empty, as-base, as-leaf, formed-kind, empty-none, root-points, base-points}
use Rattle.tree.proofs.Onward.{root_over, leaf-spot, come-on, come-end, come-first, there-come, behind-base, root-come, from-done}
use Rattle.ranging.specs.Reading.{place, the_end, has_top, has_entry, has_record, entry_to, first_below, leaf_after, settled, step, next_from}
use Rattle.ranging.proofs.Tested.{row-true, row-false, after-here, after-end, after-top, settled_here, settled_on, next-there}

-- ---- the kinds of the pages

module _ (w : List ℕ) (s : Sound w) where
  form : (p : ℕ) → p < 64 → formed p (page p w) ≡ true
  form p h = formed-page p w s.form.forms h

  pub root-kind : Shaped root (page 0 w)
  root-kind = elim (formed-kind 0 (page 0 w) (form 0 (omega arith))) [
    | as-root z t ↦ unfold is_root in shaped-facts root (page 0 w) (both-1 _ _ t)
    | as-empty z t ↦ absurd (let x : ⊥ = omega arith in x)
    | as-base z k t ↦ absurd (let x : ⊥ = omega arith in x)
    | as-leaf k t ↦ absurd (let x : ⊥ = omega arith in x)
  ]

  pub base-kind : (b : ℕ) → Spot 8 w b → b ≤ last_base → Shaped base (page b w)
  base-kind b o h = elim (formed-kind b (page b w) (form b o.inside)) [
    | as-root z t ↦ absurd (let x : ⊥ = omega (arith, o.past) in x)
    | as-empty z t ↦ absurd (let x : ⊥ = omega (arith, o.full, empty-none (page b w) t) in x)
    | as-base z k t ↦ unfold is_base in shaped-facts base (page b w) (both-1 _ _ t)
    | as-leaf k t ↦ absurd (let x : ⊥ = omega arith in x)
  ]

  pub leaf-kind : (p : ℕ) → Spot 16 w p → last_base < p → Shaped leaf (page p w)
  leaf-kind p o h = elim (formed-kind p (page p w) (form p o.inside)) [
    | as-root z t ↦ absurd (let x : ⊥ = omega arith in x)
    | as-empty z t ↦ absurd (let x : ⊥ = omega (arith, o.full, empty-none (page p w) t) in x)
    | as-base z k t ↦ absurd (let x : ⊥ = omega arith in x)
    | as-leaf k t ↦ unfold is_leaf in shaped-facts leaf (page p w) t
  ]

  -- ---- the tests of a step

  pub top-there : (i : ℕ) → i < count (page 0 w) → has_top i w ≡ true
  top-there i h = row-true _ _ 0 i w (record { inside = omega arith; lettered = root-kind.lettered; few = root-kind.room; here = h })

  pub entry-there : (b i : ℕ) → Spot 8 w b → b ≤ last_base → i < count (page b w) → has_entry b i w ≡ true
  entry-there b i o k h = row-true _ _ b i w (record { inside = o.inside; lettered = (base-kind b o k).lettered; few = (base-kind b o k).room; here = h })

  pub record-there : (p i : ℕ) → Spot 16 w p → last_base < p → i < count (page p w) → has_record p i w ≡ true
  record-there p i o k h = row-true _ _ p i w (record { inside = o.inside; lettered = (leaf-kind p o k).lettered; few = (leaf-kind p o k).room; here = h })

  -- ---- where entries point

  pub root-to : (i b : ℕ) → i < count (page 0 w) → b ≡ entry_to 0 i w → b ≤ last_base
  unfolding entry_to
  root-to i b h e = rw e (pointing-at first_base last_base i (rows 8 (page 0 w)) (root-points (page 0 w) (form 0 (omega arith))) (rw (length-rows 8 (page 0 w)) h)).1

  pub base-to : (b i p : ℕ) → Spot 8 w b → b ≤ last_base → i < count (page b w) → p ≡ entry_to b i w → last_base < p
  unfolding entry_to
  base-to b i p o k h e = rw e (pointing-at first_leaf last_leaf i (rows 8 (page b w)) (base-points b (page b w) (form b o.inside) o.past k) (rw (length-rows 8 (page b w)) h)).0

-- ---- positions

-- the position is below a base page and on a leaf page, each in its region
pub record Seat (w : List ℕ) (at : Place) : Type 0 where
  pub over : Over w at.base
  pub low : at.base ≤ last_base
  pub spot : Spot 16 w at.leaf
  pub high : last_base < at.leaf

-- where a record is left, the position stands on one
pub record Standing (w : List ℕ) (at : Place) : Type 0 where
  pub seat : 0 < at.leaf → Seat w at
  pub here : 0 < at.leaf → at.row < count (page at.leaf w)

pub end-standing : (w : List ℕ) → Standing w the_end
end-standing w = record { seat = λ h. absurd (let x : ⊥ = omega arith in x); here = λ h. absurd (let x : ⊥ = omega arith in x) }

-- what a position comes to: where it stands, and what is left there
pub record Comes (w : List ℕ) (at : Place) (rs : List (List ℕ)) : Type 0 where
  pub stands : Standing w at
  pub left : to_come w at ≡ rs

module _ (w : List ℕ) (s : Sound w) where
  -- the first record below an entry of a base page
  below-stands : (o b i : ℕ) → Over w b → b ≤ last_base → i < count (page b w) → Standing w (first_below o b i w)
  unfolding first_below
  below-stands o b i over low h =
      let p : ℕ = entry_to b i w in
      let spot : Spot 16 w p = unfold entry_to in leaf-spot w b i p over h refl in
      record { seat = λ k. record { over = over; low = low; spot = spot; high = base-to w s b i p over.base low h refl }; here = λ k. spot.full }

  below_left : (at : Place) → Over w at.base → at.entry < count (page at.base w) → to_come w (first_below at.root at.base at.entry w) ≡ behind w at
  unfolding first_below behind entry_to
  below_left at over h = there-come w at.root at.base at.entry (entry_to at.base at.entry w) over h refl

  top_left : (o b : ℕ) → o < count (page 0 w) → b ≡ entry_to 0 o w → to_come w (first_below (o + 1) b 0 w) ≡ from_root w o
  unfolding first_below entry_to
  top_left o b h e =
      let over : Over w b = root_over w s o b h e in
      there-come w (o + 1) b 0 (entry_to b 0 w) over over.base.full refl ∙ sym (root-come w s o b h e)

  module _ (at : Place) (seat : Seat w at) where
    pub after-comes : Comes w (leaf_after at w) (behind w at)
    after-comes =
        split at.entry (count (page at.base w))
        (λ h. let e : leaf_after at w ≡ first_below at.root at.base at.entry w = after-here w at (entry-there w s at.base at.entry seat.over.base seat.low h) in
        rw e (record { stands = below-stands at.root at.base at.entry seat.over seat.low h; left = below_left at seat.over h }))
        (λ h. let none = row-false _ _ at.base at.entry w h in
        split at.root (count (page 0 w))
        (λ k. let b : ℕ = entry_to 0 at.root w in
        let over : Over w b = unfold entry_to in root_over w s at.root b k refl in
        let low : b ≤ last_base = root-to w s at.root b k refl in
        let e : leaf_after at w ≡ first_below (at.root + 1) b 0 w = after-top w at none (top-there w s at.root k) b refl
        (entry-there w s b 0 over.base low over.base.full) in
        rw e (record { stands = below-stands (at.root + 1) b 0 over low over.base.full; left = top_left at.root b k refl ∙ sym (behind-base w at h) }))
        (λ k. let e : leaf_after at w ≡ the_end = after-end w at none (row-false _ _ 0 at.root w k) in
        rw e (record { stands = end-standing w; left = come-end w the_end refl ∙ sym (behind-base w at h ∙ from-done w at.root k) })))

    pub settled-comes : at.row ≤ count (page at.leaf w) → Comes w (settled at w) (drop at.row (rows 16 (page at.leaf w)) ++ behind w at)
    settled-comes k =
        split at.row (count (page at.leaf w))
        (λ h. rw (settled_here w at (record-there w s at.leaf at.row seat.spot seat.high h))
        (record { stands = record { seat = λ p. seat; here = λ p. h }; left = come-on w at seat.spot.past }))
        (λ h. let few : length (rows 16 (page at.leaf w)) ≤ at.row = rw (length-rows 16 (page at.leaf w)) h in
        let done : drop at.row (rows 16 (page at.leaf w)) ≡ [] = drop_of_length-le (rows 16 (page at.leaf w)) few in
        rw (settled_on w at (row-false _ _ at.leaf at.row w h), done) after-comes)

-- ---- a step from a position that stands on a record

module _ (w : List ℕ) (s : Sound w) (at : Place) (seat : Seat w at) (here : at.row < count (page at.leaf w)) where
  abbrev onward : Place
  onward = place at.root at.base at.entry at.leaf (at.row + 1)

  abbrev pub record_at : List ℕ
  record_at = get_or (rows 16 (page at.leaf w)) at.row []

  pub next-is : next_from w at ≡ step true (key_of record_at) (value_of record_at) (settled onward w)
  next-is = next-there w at s.form.whole seat.spot.past (record-there w s at.leaf at.row seat.spot seat.high here)

  same-behind : behind w onward ≡ behind w at
  unfolding behind
  same-behind = refl

  pub next-comes : Comes w (settled onward w) (drop (at.row + 1) (rows 16 (page at.leaf w)) ++ behind w at)
  next-comes =
      let e = settled-comes w s onward (record { over = seat.over; low = seat.low; spot = seat.spot; high = seat.high }) (omega (arith, here)) in
      rw (← same-behind) e

  pub come-now : to_come w at ≡ record_at ∷ (drop (at.row + 1) (rows 16 (page at.leaf w)) ++ behind w at)
  come-now =
      come-first w at (record { over = seat.over; spot = seat.spot; here = here }) ∙ rw (← get_or_rows 16 at.row (page at.leaf w) here)
