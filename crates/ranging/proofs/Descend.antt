-- The way down to a key in a well-formed tree: an entry of the root, the base page below it, an entry there and the leaf page below that.
-- Assumes nothing.
use Prim.Native.Nat.{ℕ, zero, suc, ◌+◌, ◌-◌, ◌≤◌, ◌<◌}
use native.Mathlib.Nat.{not-suc-le-zero}
use native.Mathlib.Omega.{arith}
use mathlib.Core.Path.{◌≡◌, sym, ap, ◌∙◌}
use mathlib.Core.Bool.{true}
use mathlib.Core.List.{List, [], ◌∷◌}
use lib.ListN.{length, get_or}
use borrow.Author.Tests.{eqb-true}
use Rattle.field.proofs.Test.{all_head, all_tail, both-1, both-2}
use Rattle.page.specs.Page.{key_of, to_page, count, rows}
use Rattle.page.specs.Pages.{page, pages}
use Rattle.page.proofs.Rows.{length-rows}
use Rattle.page.proofs.Pages.{get_or-pages}
use Rattle.tree.specs.Tree.{under, below, base_entries, starts_at_zero, headed, keys_kept, well_formed}
use Rattle.tree.specs.Walk.{Spot, Over}
use Rattle.tree.specs.Reader.{Sound}
use Rattle.tree.proofs.Sound.{root-entries}
use Rattle.tree.proofs.Onward.{root_over, leaf-spot}
use Rattle.ranging.specs.Reading.{place, the_end, entry_to, settled, rows_below, below_base, below_root, first_from}
use Rattle.ranging.proofs.Passed.{below-most, below_at, below-some}

-- ---- the clauses of the well-formed tree

module _ (w : List ℕ) (s : Sound w) where
  pub sound-starts : starts_at_zero (rows 8 (page 0 w)) ≡ true
  unfolding well_formed
  sound-starts = rw (root-entries w) at (all_head _ _ (all_tail _ _ s.well))

  pub sound-headed : headed (pages w) (rows 8 (page 0 w)) ≡ true
  unfolding well_formed
  sound-headed = rw (root-entries w) at (all_head _ _ (all_tail _ _ (all_tail _ _ s.well)))

  pub sound-kept : keys_kept 16 (pages w) (below 8 (pages w) (rows 8 (page 0 w))) ≡ true
  unfolding well_formed base_entries
  sound-kept = rw (root-entries w) at (all_head _ _ (all_tail _ _ (all_tail _ _ (all_tail _ _ (all_tail _ _ s.well)))))

headed-at : (ps : List (List ℕ)) (i : ℕ) (es : List (List ℕ)) → headed ps es ≡ true → i < length es → key_of (get_or (rows 8 (under ps (get_or es i []))) 0 []) ≡ key_of (get_or es i [])
unfolding headed
headed-at ps i [] t h = absurd (not-suc-le-zero h)
headed-at ps zero (e ∷ es) t h = eqb-true _ _ (both-1 _ _ t)
headed-at ps (suc i) (e ∷ es) t h = headed-at ps i es (both-2 _ _ t) (omega arith)

-- the first key of the base page below an entry of the root
pub head-key : (w : List ℕ) → Sound w → (i b : ℕ) → i < length (rows 8 (page 0 w)) → b ≡ to_page (get_or (rows 8 (page 0 w)) i []) → b < 64
    → key_of (get_or (rows 8 (page b w)) 0 []) ≡ key_of (get_or (rows 8 (page 0 w)) i [])
unfolding under
head-key w s i b h e small =
    let z : get_or (pages w) (to_page (get_or (rows 8 (page 0 w)) i [])) [] ≡ page b w = rw (← e) (get_or-pages b w small) in
    sym (ap (λ (pg : List ℕ). key_of (get_or (rows 8 pg) 0 [])) z) ∙ headed-at (pages w) i (rows 8 (page 0 w)) (sound-headed w s) h

-- ---- the way down

root-down : (key : ℕ) (w : List ℕ) (o : ℕ) → 0 < o → let b : ℕ = entry_to 0 (o - 1) w in
    below_root key w o ≡ below_base key w o b (rows_below (key + 1) (rows 8 (page b w)))
unfolding below_root
root-down key w zero h = absurd (not-suc-le-zero h)
root-down key w (suc o) h = let e : suc o - 1 ≡ o = omega arith in rw e

base-down : (key : ℕ) (w : List ℕ) (o b i : ℕ) → 0 < i → let p : ℕ = entry_to b (i - 1) w in
    below_base key w o b i ≡ settled (place o b i p (rows_below key (rows 16 (page p w)))) w
unfolding below_base
base-down key w o b zero h = absurd (not-suc-le-zero h)
base-down key w o b (suc i) h = let e : suc i - 1 ≡ i = omega arith in rw e

module _ (w : List ℕ) (s : Sound w) (key o : ℕ) (eo : o ≡ rows_below (key + 1) (rows 8 (page 0 w))) where
  pub top-few : o ≤ count (page 0 w)
  top-few = omega (arith, below-most (key + 1) (rows 8 (page 0 w)), length-rows 8 (page 0 w))

  pub seek-none : o ≡ 0 → first_from key w ≡ the_end
  unfolding first_from below_root
  seek-none z = ap (below_root key w) (sym eo ∙ z)

  module _ (some : 0 < o) (b : ℕ) (eb : b ≡ entry_to 0 (o - 1) w) where
    pub top-over : Over w b
    unfolding entry_to
    top-over = root_over w s (o - 1) b (omega (arith, top-few)) eb

    base-first : key_of (get_or (rows 8 (page b w)) 0 []) < key + 1
    unfolding entry_to
    base-first =
        let h : o - 1 < length (rows 8 (page 0 w)) = omega (arith, top-few, length-rows 8 (page 0 w)) in
        omega (arith, below_at (key + 1) (o - 1) (rows 8 (page 0 w)) (omega arith), head-key w s (o - 1) b h eb top-over.base.inside)

    module _ (i : ℕ) (ei : i ≡ rows_below (key + 1) (rows 8 (page b w))) where
      pub base-some : 0 < i
      base-some = rw ei (below-some (key + 1) (rows 8 (page b w)) (rw (length-rows 8 (page b w)) top-over.base.full) base-first)

      pub base-few : i ≤ count (page b w)
      base-few = omega (arith, below-most (key + 1) (rows 8 (page b w)), length-rows 8 (page b w))

      module _ (p : ℕ) (ep : p ≡ entry_to b (i - 1) w) where
        pub base-spot : Spot 16 w p
        unfolding entry_to
        base-spot = leaf-spot w b (i - 1) p top-over (omega (arith, base-few, base-some)) ep

        pub seek-at : (r : ℕ) → r ≡ rows_below key (rows 16 (page p w)) → first_from key w ≡ settled (place o b i p r) w
        unfolding first_from
        seek-at r er =
            ap (below_root key w) (sym eo)
            ∙ (root-down key w o some
            ∙ (ap (λ (q : ℕ). below_base key w o q (rows_below (key + 1) (rows 8 (page q w)))) (sym eb)
            ∙ (ap (below_base key w o b) (sym ei) ∙ (base-down key w o b i base-some ∙ sym (rw (er, ep))))))
