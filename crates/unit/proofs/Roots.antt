-- The choice of a compact unit over all base pages: what holds of the root entries still to be walked. Assumes nothing.
use Prim.Native.Nat.{ℕ, ◌+◌, ◌-◌, ◌*◌, ◌≤◌, ◌<◌}
use native.Mathlib.Omega.{arith}
use mathlib.Core.Path.{◌≡◌, refl, sym, ◌∙◌}
use mathlib.Core.Bool.{true, false}
use mathlib.Core.List.{List, [], ◌∷◌, append-nil}
use mathlib.Core.Option.{Option, some, none}
use lib.ListN.{length, take, drop}
use lib.Dec.{eqb}
use borrow.Author.Tests.{eq-eqb}
use Rattle.field.specs.Test.{pick, given, when}
use Rattle.field.specs.Bytes.{le2}
use Rattle.page.specs.Page.{rows_of, to_page, count, rows, last_base}
use Rattle.page.specs.Pages.{page, pages}
use Rattle.page.specs.Each.{Each, nil, cons}
use Rattle.page.proofs.Rows.{page-row}
use Rattle.page.proofs.Turns.{rows_next}
use Rattle.logs.specs.Record.{Begin}
use Rattle.tree.specs.Tree.{pointers, leaves_under, leaves_below, well_formed}
use Rattle.tree.specs.Walk.{InForm, Below, Over, Above}
use Rattle.tree.proofs.Turn.{each-behind, over-here}
use Rattle.tree.proofs.Sound.{root-entries, all-over, over-asks}
use Rattle.unit.specs.Choice.{fill_of, choose_compact, compact_unit}
use Rattle.unit.specs.Chosen.{chosen, Picks, Low, top_of}
use Rattle.unit.specs.declared.choice.Choice.{Choice}
use Rattle.unit.proofs.Walk.{root-front, leaves-next, leaves-end, Ahead, ahead-all, ahead-behind, ahead-base, base-rows}
use Rattle.unit.proofs.Strays.{leaves_all_lem}
use Rattle.unit.proofs.Ordered.{once, pointed-once, picks-as}
use Rattle.unit.proofs.Chooses.{choose-append, stops-below, larger-low}

-- `left` root entries from the offset at: base pages with leaves below them, no two of them the same
pub record Roots (w : List ℕ) (at left : ℕ) : Type 0 where
  pub ahead : Ahead w at left
  pub over : Each (Above w) (rows_of 8 left (drop at w))
  pub lone : (p : ℕ) → 1 ≤ p → p < 64 → pointers p (rows_of 8 left (drop at w)) ≤ 1

pub roots-all : (w : List ℕ) (n : ℕ) → InForm w → well_formed (pages w) ≡ true → n ≡ count (page 0 w) → Roots w 16 n
roots-all w n f well e = record {
  ahead = ahead-all w n f e;
  over = rw (root-front w f n e, root-entries w) (all-over w f (once w well));
  lone = λ p lo hi. rw (root-front w f n e) (omega (arith, pointed-once w well p lo hi));
}

module _ (w : List ℕ) (at left : ℕ) (r : Roots w at left) (more : 0 < left) where
  first : (p : ℕ) → pointers p (rows_of 8 left (drop at w)) ≡ pick (eqb (le2 w (at + 6)) p) 1 0 + pointers p (rows_of 8 (left - 1) (drop (at + 8) w))
  unfolding pointers
  first p = rw (rows_next 8 left at w more, page-row 8 at w (omega arith))

  pub roots-behind : Roots w (at + 8) (left - 1)
  roots-behind = record {
    ahead = ahead-behind w at left r.ahead more;
    over = each-behind (Above w) left at w r.over more;
    lone = λ p lo hi. omega (arith, r.lone p lo hi, first p);
  }

  module _ (q : ℕ) (f : q ≡ le2 w (at + 6)) where
    pub roots-over : Over w q
    roots-over = over-here w left at w q f r.over more

    -- no entry behind points to the same base page
    gone : pointers q (rows_of 8 (left - 1) (drop (at + 8) w)) ≡ 0
    gone =
        let k : ◌≡◌ {A = ℕ} (pick (eqb (le2 w (at + 6)) q) 1 0) 1 = unfold pick in rw (eq-eqb (le2 w (at + 6)) q (sym f)) in
        let h = ahead-base w at left r.ahead more q f in
        omega (arith, r.lone q h.0 (omega arith), first q)

    module _ (m : ℕ) (g : m ≡ count (page q w)) where
      -- what a call over the base page's entries asks
      roots-asks : (16 + 8 * m ≤ length (take (256 * q + 256 - 256 * q) (drop (256 * q) w))) × Each (Below 16 w)
          (rows_of 8 m (drop 16 (take (256 * q + 256 - 256 * q) (drop (256 * q) w))))
      roots-asks = over-asks w q m r.ahead.form.whole roots-over g

      pub roots-room : 16 + 8 * m ≤ length (take (256 * q + 256 - 256 * q) (drop (256 * q) w))
      roots-room = roots-asks.0

      pub roots-leaves : Each (Below 16 w) (rows_of 8 m (drop 16 (take (256 * q + 256 - 256 * q) (drop (256 * q) w))))
      roots-leaves = roots-asks.1

      roots-turn : (u fill low : ℕ) (lk : Option ℕ) → choose_compact u fill low lk (pages w) (leaves_below (pages w) (rows_of 8 left (drop at w)))
          ≡ given (choose_compact u fill low lk (pages w) (leaves_under (pages w) q (rows_of 8 m (drop 16 (take (256 * q + 256 - 256 * q) (drop (256 * q) w))))))
          (choose_compact u fill (top_of low (rows_of 8 m (drop 16 (take (256 * q + 256 - 256 * q) (drop (256 * q) w))))) lk (pages w)
          (leaves_below (pages w) (rows_of 8 (left - 1) (drop (at + 8) w)))) some
      roots-turn u fill low lk =
          rw (leaves-next w left at w q f roots-over.base.inside more, base-rows w q m g)
          (choose-append u fill lk (pages w) q _ (stops-below (pages w) fill q _ gone) low (rows 8 (page q w))
          ∙ rw (append-nil (leaves_under (pages w) q (rows 8 (page q w)))))

-- the largest page may be L
top-of-low : (w : List ℕ) (es : List (List ℕ)) (low : ℕ) → Each (Below 16 w) es → Low low → Low (top_of low es)
unfolding top_of
top-of-low w [] low nil h = h
top-of-low w (e ∷ es) low (cons s p) h = top-of-low w es _ p (larger-low low (to_page e) _ refl h s.inside)

pub top-low : (w : List ℕ) (es : List (List ℕ)) (low top : ℕ) → top ≡ top_of low es → Each (Below 16 w) es → Low low → Low top
top-low w es low top e p h = rw e (top-of-low w es low p h)

-- ---- the loop over the base pages

-- the choice is that among the leaves still to be walked
pub record Still (w : List ℕ) (fill : ℕ) (lk : Option ℕ) (most low at left : ℕ) : Type 0 where
  pub same : (u : ℕ) → compact_unit u fill lk (pages w) ≡ choose_compact u most low lk (pages w) (leaves_below (pages w) (rows_of 8 left (drop at w)))

pub still-all : (w : List ℕ) (fill : ℕ) (lk : Option ℕ) (most n : ℕ) → Roots w 16 n → n ≡ count (page 0 w) → most ≡ fill_of fill → Still w fill lk most last_base 16 n
unfolding compact_unit
still-all w fill lk most n r e f = record { same = λ u. rw (← f, ← (leaves_all_lem w n r.ahead e)) }

found_some : (r : Choice) (o : Option Begin) (u : ℕ) → r.found ≡ true → chosen r u ≡ o → (y : Option Begin) → given o y some ≡ chosen r u
unfolding chosen when given
found_some r o u h e y = rw (← e, h)

found_none : (r : Choice) (o : Option Begin) (u : ℕ) → r.found ≡ false → chosen r u ≡ o → (y : Option Begin) → given o y some ≡ y
unfolding chosen when given
found_none r o u h e y = rw (← e, h)

module _ (w : List ℕ) (fill : ℕ) (lk : Option ℕ) (most low at left : ℕ) (s : Still w fill lk most low at left) where
  pub still-end : (c : Choice) → left ≤ 0 → Picks c (λ u. none) → Picks c (λ u. compact_unit u fill lk (pages w))
  unfolding choose_compact
  still-end c h p = picks-as c _ _ p (λ u. sym (s.same u ∙ rw (leaves-end w left (drop at w) h)))

  module _ (r : Roots w at left) (more : 0 < left) (q m : ℕ) (f : q ≡ le2 w (at + 6)) (g : m ≡ count (page q w)) (c : Choice)
      (p : Picks c (λ u. choose_compact u most low lk (pages w) (leaves_under (pages w) q (rows_of 8 m (drop 16 (take (256 * q + 256 - 256 * q) (drop (256 * q) w))))))) where
    pub still-stop : c.found ≡ true → Picks c (λ u. compact_unit u fill lk (pages w))
    still-stop h = picks-as c (chosen c) _ (picks-as c _ (chosen c) p (λ u. sym (p.unit u)))
        (λ u. sym (s.same u ∙ roots-turn w at left r more q f m g u most low lk ∙ found_some c _ u h (p.unit u) _))

    pub still-more : c.found ≡ false → (low' : ℕ) → low' ≡ top_of low (rows_of 8 m (drop 16 (take (256 * q + 256 - 256 * q) (drop (256 * q) w))))
        → Still w fill lk most low' (at + 8) (left - 1)
    still-more h low' e = record { same = λ u. s.same u ∙ roots-turn w at left r more q f m g u most low lk ∙ found_none c _ u h (p.unit u) _ ∙ rw (← e) }
