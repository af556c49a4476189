-- The group that begin compact takes: entries that stand one after the other in one base page, two to eight, with no more records than the fill.
-- Assumes nothing.
use Prim.Native.Nat.{ℕ, ◌+◌, ◌≤◌}
use native.Mathlib.Omega.{arith}
use mathlib.Core.Path.{◌≡◌, sym, ap, ap₂, ◌∙◌}
use mathlib.Core.Logic.{◌≢◌, ⊎_elim}
use mathlib.Core.List.{List, [], ◌∷◌, ◌++◌, map}
use mathlib.Core.Option.{Option, some}
use borrow.Author.Tests.{eq-eqb, ne_eqb}
use lib.Dec.{eqb}
use lib.ListN.{length, length-map}
use Rattle.field.proofs.Test.{pick_true, pick-false}
use Rattle.page.specs.Page.{last_base}
use Rattle.page.specs.Pages.{pages}
use Rattle.logs.specs.Record.{Begin}
use Rattle.tree.specs.Tree.{Leaf, leaves_of}
use Rattle.unit.specs.Choice.{fill_of, joining, group, lowest_empty, compact_of, compact_unit}
use Rattle.tidy.specs.Tidy.{Tidy}
use Rattle.tidy.proofs.Model.{Entry, pointers, weight}
use Rattle.tidy.proofs.Trail.{eq?, pointers-append, hit, full≤}
use Rattle.tidy.proofs.Gather.{pages_of}
use Rattle.tidy.proofs.Pages.{leaf_of, base_of, root_of}
use Rattle.tidy.proofs.Formed.{state_of}
use Rattle.tidy.proofs.Leaves.{leaf_for, leaves_all, Spot, spot, leaves_of_lem}
use Rattle.tidy.proofs.Chosen.{Compacted, compacted, elsewhere, Joins, joins}
use Rattle.tidy.proofs.Begun.{compact_begin}
use Rattle.tidy.proofs.Known.{sound, tree}

-- "with fill F (0 means 12)"
fill-1 : (fill : ℕ) → 1 ≤ fill_of fill
unfolding fill_of
fill-1 fill =
    ⊎_elim
    (λ (z : fill ≡ 0). rw (pick_true (eqb fill 0) 12 fill (eq-eqb fill 0 z)) (omega arith))
    (λ (d : fill ≢ 0). rw (pick-false (eqb fill 0) 12 fill (ne_eqb fill 0 d)) (omega arith))
    (eq? fill 0)

-- no fill is above 15
fill-15 : (fill : ℕ) → fill ≤ 15 → fill_of fill ≤ 15
unfolding fill_of
fill-15 fill h =
    ⊎_elim
    (λ (z : fill ≡ 0). rw (pick_true (eqb fill 0) 12 fill (eq-eqb fill 0 z)) (omega arith))
    (λ (d : fill ≢ 0). rw (pick-false (eqb fill 0) 12 fill (ne_eqb fill 0 d)) h)
    (eq? fill 0)

-- the group of the begin record g: C's entry `entry`, and those that join it, `with`, in the base page of the root entry `top`; L is `low`
pub record Grouped (w : List ℕ) (u : ℕ) (g : Begin) : Type 0 where
  pub fill : ℕ
  pub fill-low : 1 ≤ fill
  pub fill-high : fill ≤ 15
  pub left : List Entry
  pub top : Entry
  pub right : List Entry
  pub before : List Entry
  pub entry : Entry
  pub with : List Entry
  pub rest : List Entry
  pub roots : root_of w ≡ left ++ top ∷ right
  pub here : base_of w top.page ≡ before ++ entry ∷ (with ++ rest)
  pub some-join : 1 ≤ length with
  pub few-join : length with ≤ 7
  pub fits : weight (leaf_of w) (entry ∷ with) ≤ 15
  pub low : ℕ
  pub is : g ≡ compact_begin u fill top.page (pages_of (entry ∷ with)) (lowest_empty low entry.page 0 (pages w))

module _ (w : List ℕ) (tidy : Tidy w) (u fill : ℕ) (g : Begin) (c : Compacted u fill (pages w) (leaves_of (pages w)) g)
    (p : Spot (state_of w) (root_of w) c.first c.next) where
  -- the records of C
  abbrev sum : ℕ
  sum = length (leaf_of w p.entry.page)

  -- no other root entry points to the base page
  alone : pointers p.top.page p.right ≡ 0
  alone =
      omega (
        arith,
        (tree w tidy).upper.pointed p.top.page,
        full≤ (base_of w p.top.page),
        hit p.top,
        ap (pointers p.top.page) p.roots ∙ pointers-append p.top.page p.left (p.top ∷ p.right),
      )

  -- those that join C
  joined : Joins (state_of w) fill sum 7 p.after
      (joining fill p.top.page sum 7 (map (leaf_for (state_of w) p.top.page) p.after ++ leaves_all (state_of w) p.right))
  joined =
      joins (state_of w) fill p.top.page sum 7 p.after (leaves_all (state_of w) p.right)
      (elsewhere (state_of w) p.top.page p.right alone)

  -- the pages listed
  listed-pages : group fill c.first c.next ≡ pages_of (p.entry ∷ joined.with)
  unfolding group
  listed-pages =
      ap₂ (λ (l : Leaf) (ls : List Leaf). l.at ∷ joining fill l.base l.count 7 ls) p.leaf p.others
      ∙ ap (λ (l : List ℕ). p.entry.page ∷ l) joined.is

  -- the begin record
  begun : g ≡ compact_begin u fill p.top.page (pages_of (p.entry ∷ joined.with)) (lowest_empty c.low p.entry.page 0 (pages w))
  unfolding compact_of
  begun =
      c.is
      ∙ (λ i. record {
        unit = u;
        type = 1;
        fill = fill;
        bases = (p.leaf i).base ∷ [];
        leaves = listed-pages i;
        dest = lowest_empty c.low (p.leaf i).at 0 (pages w);
        saved = [];
      })

  -- at least one joins
  some-join : 1 ≤ length joined.with
  some-join = omega (arith, c.two, ap length listed-pages, length-map joined.with (λ (r : Entry). r.page))

  -- all of it
  grouped-in : 1 ≤ fill → fill ≤ 15 → Grouped w u g
  grouped-in f1 f15 =
      record {
        fill = fill;
        fill-low = f1;
        fill-high = f15;
        left = p.left;
        top = p.top;
        right = p.right;
        before = p.before;
        entry = p.entry;
        with = joined.with;
        rest = joined.rest;
        roots = p.roots;
        here = p.entries ∙ ap (λ (l : List Entry). p.before ++ p.entry ∷ l) joined.cut;
        some-join = some-join;
        few-join = joined.few;
        fits = ⊎_elim
            (λ (z : joined.with ≡ []). absurd (omega (arith, some-join, ap length z)))
            (λ (h : sum + weight (leaf_of w) joined.with ≤ fill). omega arith)
            joined.fits;
        low = c.low;
        is = begun;
      }

-- so it is with what begin compact chooses
pub grouped : (w : List ℕ) → Tidy w → (u fill : ℕ) (lk : Option ℕ) (g : Begin) → fill ≤ 15 → compact_unit u fill lk (pages w) ≡ some g → Grouped w u g
unfolding compact_unit
grouped w tidy u fill lk g hf chosen =
    let c = compacted u (fill_of fill) last_base lk (pages w) (leaves_of (pages w)) g chosen in
    let p = spot (state_of w) (root_of w) c.before c.first c.next (sym (leaves_of_lem w (sound w tidy)) ∙ c.all-leaves) in
    grouped-in w tidy u (fill_of fill) g c p (fill-1 fill) (fill-15 fill hf)
