-- Each way through build's tests, as a law. Assumes nothing.
use Prim.Native.Nat.{ℕ, ◌/◌, ◌%◌, ◌≤◌, ◌<◌}
use mathlib.Core.Path.{◌≡◌, sym, ◌∙◌}
use mathlib.Core.Bool.{Bool, true, false, not}
use mathlib.Core.List.{List, [], ◌∷◌}
use mathlib.Core.Option.{none}
use lib.ListN.{length}
use lib.Dec.{eqb, leb}
use Rattle.field.specs.Test.{both, all, pick}
use borrow.Author.Tests.{le-leb, lt-leb, leb-true, not-true, not-false}
use Rattle.field.specs.Bytes.{put, zeroes}
use Rattle.field.proofs.Test.{both-intro, both_true, both_false, all_head, all_tail, all_one, all_true, all-false, need-true, need-false}
use Rattle.field.proofs.Part.{put_whole}
use Rattle.page.specs.Page.{base_pages, leaf_pages, rows_of, ascend_records}
use Rattle.logs.specs.Write.{lk_of, check_of}
use Rattle.tree.specs.Layout.{leaf_groups, base_groups, layout}
use Rattle.store.specs.Calls.{Lent, lent, Left, left, refused, three_sized, new_log, build}
use Rattle.building.specs.Ranges as Ranges
use Rattle.store.proofs.Chain.{three-no-work, three-no-store, three-no-log, three-sized}

module _ (f g : ℕ) (d : Lent) where
  -- the records
  abbrev given : List (List ℕ)
  given = rows_of 16 (length d.bytes / 16) d.bytes

  -- test 12
  abbrev pub in_range : Bool
  in_range = all (leb 1 f ∷ leb f 15 ∷ leb 1 g ∷ leb g 30 ∷ eqb (length d.bytes % 16) 0 ∷ [])

  -- test 17
  abbrev pub fits : Bool
  fits = both (leb (length (leaf_groups f given)) leaf_pages) (leb (length (base_groups f g given)) base_pages)

  pub build-unsized : three_sized d ≡ false → build f g d ≡ refused 0 1 d
  unfolding build
  build-unsized e = need-false (three_sized d) (refused 0 1 d) _ e

  module _ (s : three_sized d ≡ true) where
    pub build-range : in_range ≡ false → build f g d ≡ refused 0 12 d
    unfolding build
    build-range e = need-true (three_sized d) (refused 0 1 d) _ s ∙ need-false in_range (refused 0 12 d) _ e

    module _ (r : in_range ≡ true) where
      pub build-order : ascend_records 0 given ≡ false → build f g d ≡ refused 0 16 d
      unfolding build
      build-order e =
          need-true (three_sized d) (refused 0 1 d) _ s ∙ need-true in_range (refused 0 12 d) _ r ∙ need-false (ascend_records 0 given) (refused 0 16 d) _ e

      module _ (o : ascend_records 0 given ≡ true) where
        pub build-many : fits ≡ false → build f g d ≡ refused 0 17 d
        unfolding build
        build-many e =
            need-true (three_sized d) (refused 0 1 d) _ s ∙ need-true in_range (refused 0 12 d) _ r ∙ need-true (ascend_records 0 given) (refused 0 16 d) _ o
            ∙ need-false fits (refused 0 17 d) _ e

        pub build-builds : fits ≡ true
            → build f g d ≡ left 0 [] (lent 24 24 (layout f g given) (layout f g given) (new_log (record { number = 1; unit = 0; lk = none })) d.bytes)
        unfolding build
        build-builds e =
            need-true (three_sized d) (refused 0 1 d) _ s ∙ need-true in_range (refused 0 12 d) _ r ∙ need-true (ascend_records 0 given) (refused 0 16 d) _ o
            ∙ need-true fits (refused 0 17 d) _ e

-- ---- build's answers, over what the code has there

-- what a refusal returns: the reply, and the numbers as they were
abbrev Kept : (used forced r v u n : ℕ) → Type 0
Kept used forced r v u n = (v ≡ r) × (u ≡ used) × (n ≡ forced)

module _ (used forced : ℕ) (work store log records : List ℕ) (f g : ℕ) where
  abbrev lent_as : Lent
  lent_as = lent used forced work store log records

  abbrev rows : List (List ℕ)
  rows = rows_of 16 (length records / 16) records

  module _ (v u n : ℕ) where
    abbrev got : Left
    got = left v [] (lent u n work store log records)

    -- a refusal leaves all
    refused_as : (r : ℕ) → build f g lent_as ≡ refused 0 r lent_as → Kept used forced r v u n → got ≡ build f g lent_as
    unfolding refused zeroes
    refused_as r e k = rw (k.0, k.1, k.2) (sym e)

    pub build-no-work! : Kept used forced 1 v u n → (length work ≡ 16384 → ⊥) → got ≡ build f g lent_as
    build-no-work! k h = refused_as 1 (build-unsized f g lent_as (three-no-work lent_as h)) k

    pub build-no-store! : Kept used forced 1 v u n → (length store ≡ 16384 → ⊥) → length work ≡ 16384 → got ≡ build f g lent_as
    build-no-store! k h w = refused_as 1 (build-unsized f g lent_as (three-no-store lent_as w h)) k

    module _ (w : length work ≡ 16384) (s : length store ≡ 16384) where
      pub build-no-log! : Kept used forced 1 v u n → (length log ≡ 8192 → ⊥) → got ≡ build f g lent_as
      build-no-log! k h = refused_as 1 (build-unsized f g lent_as (three-no-log lent_as w s h)) k

      module _ (l : length log ≡ 8192) (x : Bool) (xe : x ≡ Ranges.in_range f g (length records)) where
        pub build-no-range! : Kept used forced 12 v u n → not x ≡ true → got ≡ build f g lent_as
        unfolding Ranges.in_range
        build-no-range! k h = refused_as 12 (build-range f g lent_as (three-sized lent_as w s l) (sym xe ∙ not-true x h)) k

        module _ (t : not x ≡ false) (y : Bool) (ye : y ≡ ascend_records 0 rows) where
          pub build-no-order! : Kept used forced 16 v u n → not y ≡ true → got ≡ build f g lent_as
          unfolding Ranges.in_range
          build-no-order! k h =
              refused_as 16 (build-order f g lent_as (three-sized lent_as w s l) (sym xe ∙ not-false x t) (sym ye ∙ not-true y h)) k

          module _ (o : not y ≡ false) (i : ℕ) (ie : i ≡ length (leaf_groups f rows)) where
            many : fits f g lent_as ≡ false → Kept used forced 17 v u n → got ≡ build f g lent_as
            unfolding Ranges.in_range
            many e k = refused_as 17 (build-many f g lent_as (three-sized lent_as w s l) (sym xe ∙ not-false x t) (sym ye ∙ not-false y o) e) k

            pub build-no-leaves! : Kept used forced 17 v u n → leaf_pages < i → got ≡ build f g lent_as
            build-no-leaves! k h = many (both_false _ _ (lt-leb (length (leaf_groups f rows)) leaf_pages (rw ie at h))) k

            pub build-no-bases! : Kept used forced 17 v u n → (j : ℕ) → j ≡ length (base_groups f g rows) → base_pages < j → i ≤ leaf_pages → got ≡ build f g lent_as
            build-no-bases! k j je h m =
                many (both_true _ _ (le-leb (length (leaf_groups f rows)) leaf_pages (rw ie at m)) ∙ lt-leb (length (base_groups f g rows)) base_pages (rw je at h)) k

  -- the tests that a build has passed
  pub record Passed : Type 0 where
    pub work-sized : length work ≡ 16384
    pub store-sized : length store ≡ 16384
    pub log-sized : length log ≡ 8192
    pub ranged : Ranges.in_range f g (length records) ≡ true
    pub ordered : ascend_records 0 rows ≡ true
    pub leaves : length (leaf_groups f rows) ≤ leaf_pages
    pub bases : length (base_groups f g rows) ≤ base_pages

  -- the tree in work and store, and a new log
  pub build-all : (w' s' l' : List ℕ) → Passed → w' ≡ layout f g rows → s' ≡ layout f g rows → l' ≡ new_log (check_of 1 0 false 0)
      → left 0 [] (lent 24 24 w' s' l' records) ≡ build f g lent_as
  unfolding Ranges.in_range check_of lk_of pick
  build-all w' s' l' p a b c =
      let sized : three_sized lent_as ≡ true = three-sized lent_as p.work-sized p.store-sized p.log-sized in
      let few : fits f g lent_as ≡ true =
      both-intro _ _ (le-leb (length (leaf_groups f rows)) leaf_pages p.leaves) (le-leb (length (base_groups f g rows)) base_pages p.bases) in
      rw (a, b, c) (sym (build-builds f g lent_as sized p.ranged p.ordered few))

-- ---- the parts

-- test 12, a fact each
module _ (f g long : ℕ) where
  pub range-leaf-low! : f < 1 → false ≡ Ranges.in_range f g long
  unfolding Ranges.in_range
  range-leaf-low! a = sym (all-false _ _ (lt-leb 1 f a))

  module _ (a : 1 ≤ f) where
    pub range-leaf-high! : 15 < f → false ≡ Ranges.in_range f g long
    unfolding Ranges.in_range
    range-leaf-high! b = sym (all_true _ _ (le-leb 1 f a) ∙ all-false _ _ (lt-leb f 15 b))

    module _ (b : f ≤ 15) where
      pub range-base-low! : g < 1 → false ≡ Ranges.in_range f g long
      unfolding Ranges.in_range
      range-base-low! c = sym (all_true _ _ (le-leb 1 f a) ∙ all_true _ _ (le-leb f 15 b) ∙ all-false _ _ (lt-leb 1 g c))

      module _ (c : 1 ≤ g) where
        pub range-base-high! : 30 < g → false ≡ Ranges.in_range f g long
        unfolding Ranges.in_range
        range-base-high! e =
            sym (all_true _ _ (le-leb 1 f a) ∙ all_true _ _ (le-leb f 15 b) ∙ all_true _ _ (le-leb 1 g c) ∙ all-false _ _ (lt-leb g 30 e))

        pub range-whole! : g ≤ 30 → eqb (long % 16) 0 ≡ Ranges.in_range f g long
        unfolding Ranges.in_range
        range-whole! e =
            sym (all_true _ _ (le-leb 1 f a) ∙ all_true _ _ (le-leb f 15 b) ∙ all_true _ _ (le-leb 1 g c) ∙ all_true _ _ (le-leb g 30 e) ∙ all_one (eqb (long % 16) 0))

  -- what it says of the fills
  pub range-facts : Ranges.in_range f g long ≡ true → (1 ≤ f) × (f ≤ 15) × (1 ≤ g) × (g ≤ 30)
  unfolding Ranges.in_range
  range-facts e =
      let e1 = all_tail _ _ e in
      let e2 = all_tail _ _ e1 in
      (leb-true 1 f (all_head _ _ e), leb-true f 15 (all_head _ _ e1), leb-true 1 g (all_head _ _ e2), leb-true g 30 (all_head _ _ (all_tail _ _ e2)))

-- the store after the copy
pub store-copied : (work store : List ℕ) → length work ≡ length store → put 0 work store ≡ work
store-copied work store e = put_whole work store e
