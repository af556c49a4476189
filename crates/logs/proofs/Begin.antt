-- What the test of a begin record says of its numbers, so that each fits the bytes that it is written in. Assumes nothing.
use Prim.Native.Nat.{ℕ, ◌≤◌}
use native.Mathlib.Omega.{arith}
use mathlib.Core.Path.{◌≡◌, refl, sym, ◌∙◌}
use mathlib.Core.Bool.{Bool, true, false}
use mathlib.Core.List.{List, [], ◌∷◌}
use lib.ListN.{length}
use lib.Dec.{eqb, leb}
use borrow.Author.Tests.{eqb-true, ne_eqb, leb-true}
use Rattle.field.specs.Test.{both, pick}
use Rattle.field.specs.Bytes.{Bytes, most4}
use Rattle.field.proofs.Test.{both-1, both-2, all_head, all_tail, pick_true, pick-false}
use Rattle.page.specs.Page.{first_leaf, last_leaf}
use Rattle.page.specs.Each.{Each}
use Rattle.logs.specs.Record.{Begin, saves, begin, length_of, LB, kind_of, carried, size}
use Rattle.logs.specs.Log.{within, on_bases, on_leaves, compact_ok, swap_ok, move_ok, carries_ok, save_ok, type_ok, begin_ok}
use Rattle.logs.proofs.Record.{Narrow}

-- the numbers of a begin record that its type bounds
pub record Limits (g : Begin) : Type 0 where
  pub type : g.type ≤ 5
  pub fill : g.fill ≤ 15
  pub bases : length g.bases ≤ 2
  pub leaves : length g.leaves ≤ 8
  pub dest : g.dest ≤ last_leaf

-- a listed page lies in its region
pub within-head : (from to p : ℕ) (ps : List ℕ) → within from to (p ∷ ps) ≡ true → (from ≤ p) × (p ≤ to)
unfolding within
within-head from to p ps e =
    let f = both-2 (leb from p) (both (leb p to) (within from to ps)) e in
    (leb-true from p (both-1 (leb from p) _ e), leb-true p to (both-1 (leb p to) (within from to ps) f))

-- the pages behind it lie there too
pub within-tail : (from to p : ℕ) (ps : List ℕ) → within from to (p ∷ ps) ≡ true → within from to ps ≡ true
unfolding within
within-tail from to p ps e = both-2 (leb p to) (within from to ps) (both-2 (leb from p) (both (leb p to) (within from to ps)) e)

module _ (g : Begin) where
  -- of a compact
  compact-limits : g.type ≡ 1 → compact_ok g ≡ true → Limits g
  unfolding compact_ok
  compact-limits t e =
      let e1 = all_tail _ _ e in
      let e2 = all_tail _ _ e1 in
      let e3 = all_tail _ _ e2 in
      let e4 = all_tail _ _ e3 in
      let e5 = all_tail _ _ e4 in
      record {
        type = omega arith;
        fill = leb-true g.fill 15 (all_head _ _ e4);
        bases = omega (arith, eqb-true (length g.bases) 1 (all_head _ _ e));
        leaves = leb-true (length g.leaves) 8 (all_head _ _ e2);
        dest = (within-head first_leaf last_leaf g.dest [] (all_head _ _ e5)).1;
      }

  -- of a swap
  swap-limits : g.type ≡ 2 → swap_ok g ≡ true → Limits g
  unfolding swap_ok
  swap-limits t e =
      let e1 = all_tail _ _ e in
      let e2 = all_tail _ _ e1 in
      let e3 = all_tail _ _ e2 in
      let e4 = all_tail _ _ e3 in
      record {
        type = omega arith;
        fill = omega (arith, eqb-true g.fill 0 (all_head _ _ e3));
        bases = leb-true (length g.bases) 2 (all_head _ _ e1);
        leaves = omega (arith, eqb-true (length g.leaves) 2 (all_head _ _ e2));
        dest = omega (arith, eqb-true g.dest 0 (all_head _ _ e4));
      }

  -- of a move
  move-limits : g.type ≡ 3 → move_ok g ≡ true → Limits g
  unfolding move_ok
  move-limits t e =
      let e1 = all_tail _ _ e in
      let e2 = all_tail _ _ e1 in
      let e3 = all_tail _ _ e2 in
      record {
        type = omega arith;
        fill = omega (arith, eqb-true g.fill 0 (all_head _ _ e2));
        bases = omega (arith, eqb-true (length g.bases) 1 (all_head _ _ e));
        leaves = omega (arith, eqb-true (length g.leaves) 1 (all_head _ _ e1));
        dest = (within-head first_leaf last_leaf g.dest [] (all_head _ _ e3)).1;
      }

  -- of a put or a delete
  save-limits : save_ok g ≡ true → Limits g
  unfolding save_ok
  save-limits e =
      let e1 = all_tail _ _ e in
      let e2 = all_tail _ _ e1 in
      let e3 = all_tail _ _ e2 in
      let e4 = all_tail _ _ e3 in
      record {
        type = leb-true g.type 5 (all_head _ _ e);
        fill = omega (arith, eqb-true g.fill 0 (all_head _ _ e3));
        bases = omega (arith, eqb-true (length g.bases) 0 (all_head _ _ e1));
        leaves = omega (arith, eqb-true (length g.leaves) 0 (all_head _ _ e2));
        dest = omega (arith, eqb-true g.dest 0 (all_head _ _ e4));
      }

  -- one test or the other
  by-test : (t a b : Bool) → pick t a b ≡ true → (t ≡ true → a ≡ true → Limits g) → (b ≡ true → Limits g) → Limits g
  unfolding pick
  by-test true a b e f h = f refl e
  by-test false a b e f h = h e

  -- whatever the type, its numbers are bounded
  pub type_ok-limits : type_ok g ≡ true → Limits g
  unfolding type_ok
  type_ok-limits e =
      by-test (eqb g.type 1) (compact_ok g) (pick (eqb g.type 2) (swap_ok g) (pick (saves g) (save_ok g) (both (eqb g.type 3) (move_ok g)))) e
      (λ t a. compact-limits (eqb-true g.type 1 t) a)
      (λ d. by-test (eqb g.type 2) (swap_ok g) (pick (saves g) (save_ok g) (both (eqb g.type 3) (move_ok g))) d
      (λ t a. swap-limits (eqb-true g.type 2 t) a)
      (λ s. by-test (saves g) (save_ok g) (both (eqb g.type 3) (move_ok g)) s
      (λ t a. save-limits a)
      (λ m. move-limits (eqb-true g.type 3 (both-1 (eqb g.type 3) (move_ok g) m)) (both-2 (eqb g.type 3) (move_ok g) m))))

  saves-type : saves g ≡ true → 4 ≤ g.type
  unfolding saves
  saves-type h = leb-true 4 g.type h

  -- what the test says of a begin record
  module _ (ok : begin_ok g ≡ true) where
    -- its unit number fits four bytes
    pub begin_ok-unit : g.unit ≤ most4
    unfolding begin_ok
    begin_ok-unit = leb-true g.unit most4 (all_head _ _ ok)

    -- the numbers that its type bounds
    pub begin_ok-limits : Limits g
    unfolding begin_ok
    begin_ok-limits = type_ok-limits (all_head _ _ (all_tail _ _ ok))

    -- its base pages are base pages
    pub begin_ok-bases : on_bases g.bases ≡ true
    unfolding begin_ok
    begin_ok-bases = all_head _ _ (all_tail _ _ (all_tail _ _ ok))

    -- its leaves are leaf pages
    pub begin_ok-leaves : on_leaves g.leaves ≡ true
    unfolding begin_ok
    begin_ok-leaves = all_head _ _ (all_tail _ _ (all_tail _ _ (all_tail _ _ (all_tail _ _ ok))))

    -- it carries one record, or none
    pub begin_ok-saved : length g.saved ≡ pick (saves g) 1 0
    unfolding begin_ok
    begin_ok-saved =
        eqb-true (length g.saved) (pick (saves g) 1 0)
        (all_head _ _ (all_tail _ _ (all_tail _ _ (all_tail _ _ (all_tail _ _ (all_tail _ _ (all_tail _ _ ok)))))))

    -- a begin record fits its bytes
    pub begin_ok-narrow : Each Bytes g.saved → Narrow (LB g)
    begin_ok-narrow b = let m : Limits g = begin_ok-limits in (omega arith, omega arith, omega arith, omega arith, b)

    -- a begin record that carries none, and one that carries its record
    pub begin-plain : saves g ≡ false → size (LB g) ≡ length_of begin 0
    unfolding size carried kind_of
    begin-plain h = rw (begin_ok-saved, h) (unfold pick in refl)

    pub begin-saving : saves g ≡ true → size (LB g) ≡ length_of begin 1
    unfolding size carried kind_of
    begin-saving h = rw (begin_ok-saved, h) (unfold pick in refl)

    -- the record that a put or delete carries
    pub begin-carries : saves g ≡ true → carries_ok g.type g.saved ≡ true
    unfolding begin_ok type_ok save_ok
    begin-carries h =
        let high : 4 ≤ g.type = saves-type h in
        let save : save_ok g ≡ true =
        sym
        (pick-false (eqb g.type 1) _ _ (ne_eqb g.type 1 (λ e. omega (arith, e, high)))
        ∙ pick-false (eqb g.type 2) _ _ (ne_eqb g.type 2 (λ e. omega (arith, e, high))) ∙ pick_true (saves g) _ _ h)
        ∙ all_head _ _ (all_tail _ _ ok) in
        all_head _ _ (all_tail _ _ (all_tail _ _ (all_tail _ _ (all_tail _ _ (all_tail _ _ save)))))

    -- none is carried
    pub begin-none : saves g ≡ false → g.saved ≡ []
    begin-none h = nil-of g.saved (begin_ok-saved ∙ rw h (unfold pick in refl))
      where
        nil-of : (rs : List (List ℕ)) → length rs ≡ 0 → rs ≡ []
        nil-of [] e = refl
        nil-of (r ∷ rs) e = absurd (omega (arith, e))
