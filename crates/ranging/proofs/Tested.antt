-- The tests of a step, one by one: what a row that may be read has, and each answer of a step and of a start. The laws that end in `!` are for
-- `search`. Assumes nothing.
use Prim.Native.Nat.{ℕ, ◌+◌, ◌-◌, ◌*◌, ◌≤◌, ◌<◌}
use native.Mathlib.Omega.{arith}
use mathlib.Core.Path.{◌≡◌, refl, sym, ◌∙◌}
use mathlib.Core.Bool.{Bool, true, false}
use mathlib.Core.List.{List, [], ◌∷◌}
use lib.ListN.{length, take, drop, get_or}
use lib.Dec.{leb, ltb}
use borrow.Author.Tests.{eq-eqb, ne_eqb, eqb-true, le-leb, lt-leb, leb-true, lt-ltb, le-ltb, ltb-true}
use Rattle.field.specs.Test.{both, all}
use Rattle.field.proofs.Test.{all_head, all_tail, all_one, all_true, all-false, all_nil, both_true, both_false, pick_true, pick-false, need-true, need-false}
use Rattle.page.specs.Page.{key_of, value_of, letter, count, rows}
use Rattle.page.specs.Pages.{page, pages, all_formed}
use Rattle.page.proofs.Pages.{lent-page, length-page}
use Rattle.tree.specs.Tree.{well_formed}
use Rattle.tree.specs.declared.walk.Place.{Place}
use Rattle.tree.proofs.Turn.{letter-page}
use Rattle.ranging.specs.Reading.{place, the_end, has_row, has_top, has_entry, has_record, entry_to, first_below, leaf_after, settled, step, nothing}
use Rattle.ranging.specs.Reading.{next_from, first_from, reached, start_from}

-- ---- a row that may be read

pub record Rowed (c m p i : ℕ) (w : List ℕ) : Type 0 where
  pub inside : p < 64
  pub lettered : letter (page p w) ≡ c
  pub few : count (page p w) ≤ m
  pub here : i < count (page p w)

module _ (c m p i : ℕ) (w : List ℕ) where
  pub row-facts : has_row c m p i w ≡ true → Rowed c m p i w
  unfolding has_row
  row-facts e =
      let e1 = all_tail _ _ e in
      let e2 = all_tail _ _ e1 in
      record {
        inside = ltb-true p 64 (all_head _ _ e);
        lettered = eqb-true (letter (page p w)) c (all_head _ _ e1);
        few = leb-true (count (page p w)) m (all_head _ _ e2);
        here = ltb-true i (count (page p w)) (all_head _ _ (all_tail _ _ e2));
      }

  pub row-past! : 64 ≤ p → false ≡ has_row c m p i w
  unfolding has_row
  row-past! h = sym (all-false _ _ (le-ltb p 64 h))

  module _ (h : p < 64) where
    pub row-other! : (get_or w (256 * p + 1) 0 ≡ c → ⊥) → false ≡ has_row c m p i w
    unfolding has_row
    row-other! ne = sym (all_true _ _ (lt-ltb p 64 h) ∙ all-false _ _ (ne_eqb (letter (page p w)) c (λ z. ne (letter-page p w ∙ z))))

    module _ (e : get_or w (256 * p + 1) 0 ≡ c) (n : ℕ) (k : n ≡ count (page p w)) where
      counted : has_row c m p i w ≡ all (leb n m ∷ ltb i n ∷ [])
      unfolding has_row
      counted = all_true _ _ (lt-ltb p 64 h) ∙ all_true _ _ (eq-eqb (letter (page p w)) c (sym (letter-page p w) ∙ e)) ∙ rw k

      pub row-many! : m < n → false ≡ has_row c m p i w
      row-many! g = sym (counted ∙ all-false _ _ (lt-leb n m g))

      pub row-is! : n ≤ m → ltb i n ≡ has_row c m p i w
      row-is! g = sym (counted ∙ all_true _ _ (le-leb n m g) ∙ all_one _)

pub row-true : (c m p i : ℕ) (w : List ℕ) → Rowed c m p i w → has_row c m p i w ≡ true
unfolding has_row
row-true c m p i w f =
    all_true _ _ (lt-ltb p 64 f.inside) ∙ all_true _ _ (eq-eqb (letter (page p w)) c f.lettered) ∙ all_true _ _ (le-leb (count (page p w)) m f.few) ∙
    all_true _ _ (lt-ltb i (count (page p w)) f.here)
    ∙ all_nil

never : (a b c : Bool) → all (a ∷ b ∷ c ∷ false ∷ []) ≡ false
unfolding all both
never false b c = refl
never true false c = refl
never true true false = refl
never true true true = refl

pub row-false : (c m p i : ℕ) (w : List ℕ) → count (page p w) ≤ i → has_row c m p i w ≡ false
unfolding has_row
row-false c m p i w h = rw (le-ltb i (count (page p w)) h) (never _ _ _)

-- the record's page, where it is lent
pub record-fits : (p i : ℕ) (w : List ℕ) → length w ≡ 16384 → Rowed 108 15 p i w
    → (16 + 16 * i + 16 ≤ length (take (256 * p + 256 - 256 * p) (drop (256 * p) w))) × (i < count (take (256 * p + 256 - 256 * p) (drop (256 * p) w)))
record-fits p i w whole f = rw (lent-page p w) (omega (arith, length-page p w whole f.inside, f.few, f.here), f.here)

-- ---- behind a leaf page

module _ (w : List ℕ) (at : Place) where
  pub after-here : has_entry at.base at.entry w ≡ true → leaf_after at w ≡ first_below at.root at.base at.entry w
  unfolding leaf_after
  after-here e = pick_true _ _ _ e

  module _ (none : has_entry at.base at.entry w ≡ false) where
    pub after-end : has_top at.root w ≡ false → leaf_after at w ≡ the_end
    unfolding leaf_after
    after-end f = pick-false _ _ _ none ∙ pick-false _ _ _ (both_false _ _ f)

    module _ (f : has_top at.root w ≡ true) (b : ℕ) (to : b ≡ entry_to 0 at.root w) where
      pub after-bare : has_entry b 0 w ≡ false → leaf_after at w ≡ the_end
      unfolding leaf_after
      after-bare g = pick-false _ _ _ none ∙ pick-false _ _ _ (both_true _ _ f ∙ rw (← to) g)

      pub after-top : has_entry b 0 w ≡ true → leaf_after at w ≡ first_below (at.root + 1) b 0 w
      unfolding leaf_after
      after-top g = pick-false _ _ _ none ∙ pick_true _ _ _ (both_true _ _ f ∙ rw (← to) g) ∙ rw (← to)

  pub settled_here : has_record at.leaf at.row w ≡ true → settled at w ≡ at
  unfolding settled
  settled_here e = pick_true _ _ _ e

  pub settled_on : has_record at.leaf at.row w ≡ false → settled at w ≡ leaf_after at w
  unfolding settled
  settled_on e = pick-false _ _ _ e

  -- ---- a step

  pub next-unsized : (length w ≡ 16384 → ⊥) → next_from w at ≡ nothing
  unfolding next_from
  next-unsized ne = pick-false _ _ _ (all-false _ _ (ne_eqb (length w) 16384 ne))

  module _ (whole : length w ≡ 16384) where
    pub next-end : at.leaf ≡ 0 → next_from w at ≡ nothing
    unfolding next_from
    next-end z = pick-false _ _ _ (all_true _ _ (eq-eqb (length w) 16384 whole) ∙ all-false _ _ (le-ltb 0 at.leaf (omega arith)))

    module _ (past : 0 < at.leaf) where
      pub next-bare : has_record at.leaf at.row w ≡ false → next_from w at ≡ nothing
      unfolding next_from
      next-bare e = pick-false _ _ _ (all_true _ _ (eq-eqb (length w) 16384 whole) ∙ all_true _ _ (lt-ltb 0 at.leaf past) ∙ all-false _ _ e)

      pub next-there : has_record at.leaf at.row w ≡ true
          → next_from w at
          ≡ step true (key_of (get_or (rows 16 (page at.leaf w)) at.row [])) (value_of (get_or (rows 16 (page at.leaf w)) at.row []))
          (settled (place at.root at.base at.entry at.leaf (at.row + 1)) w)
      unfolding next_from
      next-there e =
          pick_true _ _ _ (all_true _ _ (eq-eqb (length w) 16384 whole) ∙ all_true _ _ (lt-ltb 0 at.leaf past) ∙ all_true _ _ e ∙ all_nil)

      -- the page is lent to the calls that read the record
      pub next-read : has_record at.leaf at.row w ≡ true → (p k : ℕ) (v : List ℕ) (next : Place) → p ≡ 256 * at.leaf
          → k ≡ key_of (get_or (rows 16 (take (p + 256 - p) (drop p w))) at.row [])
          → v ≡ value_of (get_or (rows 16 (take (p + 256 - p) (drop p w))) at.row [])
          → next ≡ settled (place at.root at.base at.entry at.leaf (at.row + 1)) w
          → step true k v next ≡ next_from w at
      next-read e p k v next z ek ev en = sym (next-there e ∙ sym (rw (ek, ev, en, z, lent-page at.leaf w)))

-- ---- a start

module _ (w : List ℕ) (key : ℕ) where
  pub start-unsized : (length w ≡ 16384 → ⊥) → start_from w key ≡ reached 1 the_end
  unfolding start_from
  start-unsized ne = need-false _ _ _ (ne_eqb (length w) 16384 ne)

  module _ (whole : length w ≡ 16384) where
    pub start-broken : all_formed 0 (pages w) ≡ false → start_from w key ≡ reached 3 the_end
    unfolding start_from
    start-broken e = need-true _ _ _ (eq-eqb (length w) 16384 whole) ∙ need-false _ _ _ e

    module _ (forms : all_formed 0 (pages w) ≡ true) where
      pub start-unwell : well_formed (pages w) ≡ false → start_from w key ≡ reached 8 the_end
      unfolding start_from
      start-unwell e = need-true _ _ _ (eq-eqb (length w) 16384 whole) ∙ need-true _ _ _ forms ∙ need-false _ _ _ e

      pub start-well : well_formed (pages w) ≡ true → start_from w key ≡ reached 0 (first_from key w)
      unfolding start_from
      start-well e = need-true _ _ _ (eq-eqb (length w) 16384 whole) ∙ need-true _ _ _ forms ∙ need-true _ _ _ e
