-- "No root entries means no records": where the root of a well-formed tree has no entry, every other page is empty, so no page holds a record.
-- Assumes nothing.
use Prim.Native.Nat.{ℕ, ◌+◌, ◌-◌, ◌≤◌, ◌<◌}
use native.Mathlib.Omega.{arith}
use mathlib.Core.Path.{◌≡◌, ◌∙◌}
use mathlib.Core.Bool.{true}
use mathlib.Core.List.{List, []}
use lib.ListN.{length, drop, length-drop}
use lib.Seq.{get_or-drop}
use Rattle.field.specs.Test.{all, pick}
use Rattle.field.proofs.Test.{both-1, pick-false}
use Rattle.page.specs.Page.{empty, rows, records, is_empty}
use Rattle.page.specs.Pages.{page, pages}
use Rattle.page.proofs.Made.{shaped-facts}
use Rattle.page.proofs.Pages.{get_or-pages, length-pages}
use Rattle.tree.specs.Tree.{root_entries, below, base_entries, pointers, pointed_once, well_formed}
use Rattle.tree.proofs.Regions.{decide}
use Rattle.tree.proofs.Turn.{none_left}
use Rattle.tree.proofs.Tally.{once-at}

module _ (w : List ℕ) (well : well_formed (pages w) ≡ true) (none : root_entries (pages w) ≡ []) where
  -- then no entry points to any page
  unpointed : pointed_once [] 1 (drop 1 (pages w)) ≡ true
  unfolding well_formed base_entries below all
  unpointed = rw none at (both-1 _ _ well)

  pub rootless-empty : (p : ℕ) → 1 ≤ p → p < 64 → is_empty (page p w) ≡ true
  unfolding pointers
  rootless-empty p lo hi =
      let i : ℕ = p - 1 in
      let q : 1 + i ≡ p = omega arith in
      let inside : i < length (drop 1 (pages w)) = omega (arith, length-drop 1 (pages w), length-pages w) in
      let e : pointers p [] ≡ pick (is_empty (page p w)) 0 1 =
      rw (get_or-drop 1 (pages w) i [], q, get_or-pages p w hi) at (once-at [] 1 i (drop 1 (pages w)) unpointed inside) in
      decide (is_empty (page p w)) (λ t. t) (λ t. absurd (let x : pointers p [] ≡ 1 = e ∙ pick-false _ _ _ t in let y : ⊥ = omega arith in y))

  pub rootless-records : (p : ℕ) → 1 ≤ p → p < 64 → records (page p w) ≡ []
  unfolding is_empty rows
  rootless-records p lo hi = none_left 16 _ _ (shaped-facts empty (page p w) (rootless-empty p lo hi)).room
