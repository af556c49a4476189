-- A put on a well-formed tree: the record goes into the leaf of its key; a leaf without room is split; the first record of all gets a base page
-- and a leaf. The tree stays well formed, and its records are the old ones with the record at its key. Assumes nothing.
use Prim.Native.Nat.{ℕ, suc, ◌*◌, ◌≤◌}
use native.Mathlib.Omega.{arith}
use mathlib.Core.Path.{◌≡◌, refl, sym, ap, ◌∙◌, subst}
use mathlib.Core.Logic.{◌≢◌, ⊎_elim}
use mathlib.Core.List.{List, [], ◌∷◌, ◌++◌}
use borrow.Author.Tests.{eq-eqb, ne_eqb}
use Rattle.page.specs.Page.{key_of, first_base}
use Rattle.saving.specs.Save.{lesser, greater, with_record}
use Rattle.tidy.proofs.Model.{Entry, pointers, full, trail, Well, beneath, upd, state, entry_key, first, Tree, contents}
use Rattle.tidy.proofs.Trail.{eq?, full-mid, full≤, nothing, beneath-append}
use Rattle.tidy.proofs.Gather.{upd-twice}
use Rattle.saved.proofs.Sorted.{put-marks, put-within}
use Rattle.saved.proofs.Refill.{upd-at, upd-off, upd-swap, behind-entry, own-full, refill-well, refill-beneath, split-well, split-beneath}
use Rattle.saved.proofs.Upper.{tree_of, tree_with, ahead, after, midst, level-is, lower-is, first-kept}
use Rattle.saved.proofs.Around.{Over, over-rest, below_all, above-all, trail-over}

-- rows with a record are some
pub full-with : (r : List ℕ) (l : List (List ℕ)) → full (with_record r l) ≡ 1
unfolding with_record
full-with r l = omega (arith, full-mid (lesser (key_of r) l) r (greater (key_of r) l), full≤ (lesser (key_of r) l ++ r ∷ greater (key_of r) l))

-- ---- in one level

module _ (f : ℕ → List (List ℕ)) (pre : List Entry) (x : Entry) (post : List Entry) (w : Well key_of f (pre ++ x ∷ post)) (r : List ℕ)
    (low : x.key ≤ key_of r) (high : Over (key_of r) post) where
  put-well : Well key_of (upd f x.page (with_record r (f x.page))) (pre ++ x ∷ post)
  put-well =
      refill-well key_of f pre x post w (with_record r (f x.page)) (full-with r (f x.page))
      (put-marks (trail key_of f post) r (suc (2 * x.key)) (f x.page) (behind-entry key_of f pre x post w) (omega arith)
      (trail-over f pre x post w (key_of r) low high))

  put-beneath : beneath (upd f x.page (with_record r (f x.page))) (pre ++ x ∷ post) ≡ with_record r (beneath f (pre ++ x ∷ post))
  put-beneath =
      refill-beneath key_of f pre x post w (with_record r (f x.page))
      ∙ sym (put-within (beneath f pre) (f x.page) (beneath f post) r (below_all f pre x post w (key_of r) low high)
      (above-all f pre x post w (key_of r) low high))
      ∙ ap (with_record r) (sym (beneath-append f pre (x ∷ post)))

-- ---- in a tree

module _ (leaf : ℕ → List (List ℕ)) (base : ℕ → List Entry) (r1 : List Entry) (e : Entry) (r2 : List Entry)
    (t : Tree (r1 ++ e ∷ r2) (state leaf base)) (b1 : List Entry) (x : Entry) (b2 : List Entry) (is : base e.page ≡ b1 ++ x ∷ b2)
    (r : List ℕ) (low : x.key ≤ key_of r) (high-base : Over (key_of r) b2) (high-root : Over (key_of r) r2) where
  abbrev pre : List Entry
  pre = ahead base r1 b1

  abbrev post : List Entry
  post = after base b2 r2

  abbrev grown : List (List ℕ)
  grown = with_record r (leaf x.page)

  abbrev leaf' : ℕ → List (List ℕ)
  leaf' = upd leaf x.page grown

  level : beneath base (r1 ++ e ∷ r2) ≡ pre ++ x ∷ post
  level = level-is leaf base r1 e r2 t b1 x b2 is

  well : Well key_of leaf (pre ++ x ∷ post)
  well = lower-is leaf base r1 e r2 t b1 x b2 is

  high : Over (key_of r) post
  high = over-rest leaf base r1 e r2 t (key_of r) b2 high-base high-root

  well' : Well key_of leaf' (pre ++ x ∷ post)
  well' = put-well leaf pre x post well r low high

  -- the leaf has room
  pub put-tree : Tree (r1 ++ e ∷ r2) (state (upd leaf x.page (with_record r (leaf x.page))) base)
  put-tree = tree_of (r1 ++ e ∷ r2) leaf' base t.zero-first t.heads t.upper.pointed (rw level well')

  pub put-contents : contents (r1 ++ e ∷ r2) (state (upd leaf x.page (with_record r (leaf x.page))) base)
      ≡ with_record r (contents (r1 ++ e ∷ r2) (state leaf base))
  put-contents =
      ap (beneath leaf') level ∙ put-beneath leaf pre x post well r low high ∙ ap (λ (l : List Entry). with_record r (beneath leaf l)) (sym level)

  -- it has none: its upper part goes to the free page q
  module _ (q : ℕ) (free : leaf q ≡ []) (lows : List (List ℕ)) (y : List ℕ) (highs : List (List ℕ))
      (two : with_record r (leaf x.page) ≡ lows ++ y ∷ highs) (some-low : full lows ≡ 1) where
    abbrev z : Entry
    z = record { key = key_of y; page = q }

    abbrev wider : List Entry
    wider = b1 ++ x ∷ z ∷ b2

    abbrev leaf'' : ℕ → List (List ℕ)
    leaf'' = upd (upd leaf' x.page lows) q (y ∷ highs)

    apart : q ≢ x.page
    apart k =
        let a : full (leaf q) ≡ 0 = ap full free in
        let b : full (leaf q) ≡ 1 = ap (λ (p : ℕ). full (leaf p)) k ∙ own-full key_of leaf pre x post well in
        omega arith

    free' : leaf' q ≡ []
    free' = upd-off leaf x.page grown q apart ∙ free

    two' : leaf' x.page ≡ lows ++ y ∷ highs
    two' = upd-at leaf x.page grown ∙ two

    -- the same leaves, as they are laid
    same-leaves : leaf'' ≡ upd (upd leaf q (y ∷ highs)) x.page lows
    same-leaves =
        ap (λ (l : ℕ → List (List ℕ)). upd l q (y ∷ highs)) (upd-twice leaf x.page grown lows)
        ∙ upd-swap leaf x.page q lows (y ∷ highs) (λ k. apart (sym k))

    pub split-tree : Tree (r1 ++ e ∷ r2)
        (state (upd (upd leaf q (y ∷ highs)) x.page lows) (upd base e.page (b1 ++ x ∷ record { key = key_of y; page = q } ∷ b2)))
    split-tree =
        subst (λ (l : ℕ → List (List ℕ)). Tree (r1 ++ e ∷ r2) (state l (upd base e.page wider))) same-leaves
        (tree_with leaf base r1 e r2 t wider leaf'' (omega (arith, full-mid b1 x (z ∷ b2), full≤ wider))
        (first-kept leaf base r1 e r2 t b1 x b2 is (z ∷ b2))
        (rw (midst base r1 b1 (x ∷ z ∷ []) b2 r2) (split-well key_of leaf' pre x post well' lows y highs two' some-low q free')))

    pub split-contents : contents (r1 ++ e ∷ r2)
        (state (upd (upd leaf q (y ∷ highs)) x.page lows) (upd base e.page (b1 ++ x ∷ record { key = key_of y; page = q } ∷ b2)))
        ≡ with_record r (contents (r1 ++ e ∷ r2) (state leaf base))
    split-contents =
        ap (λ (l : ℕ → List (List ℕ)). contents (r1 ++ e ∷ r2) (state l (upd base e.page wider))) (sym same-leaves)
        ∙ ap (beneath leaf'') (refill-beneath entry_key base r1 e r2 t.upper wider ∙ midst base r1 b1 (x ∷ z ∷ []) b2 r2)
        ∙ split-beneath key_of leaf' pre x post well' lows y highs two' some-low q free'
        ∙ put-beneath leaf pre x post well r low high
        ∙ ap (λ (l : List Entry). with_record r (beneath leaf l)) (sym level)

-- ---- the first record

module _ (leaf : ℕ → List (List ℕ)) (base : ℕ → List Entry) (t : Tree [] (state leaf base)) (r : List ℕ) (q : ℕ) where
  abbrev e : Entry
  e = record { key = 0; page = first_base }

  abbrev x : Entry
  x = record { key = 0; page = q }

  no-base : (p : ℕ) → base p ≡ []
  no-base p = nothing (base p) (sym (t.upper.pointed p))

  no-leaf : (p : ℕ) → leaf p ≡ []
  no-leaf p = nothing (leaf p) (sym (t.lower.pointed p))

  -- one page holds something
  one : {A : Type 0} (f : ℕ → List A) (a : A) (b k p : ℕ) → ((n : ℕ) → f n ≡ [])
      → pointers p (record { key = k; page = b } ∷ []) ≡ full (upd f b (a ∷ []) p)
  one f a b k p h =
      ⊎_elim
      (λ (c : p ≡ b). rw (c, eq-eqb b b refl))
      (λ (d : p ≢ b). rw (ne_eqb p b d, ne_eqb b p (λ c. d (sym c)), h p))
      (eq? p b)

  level-one : beneath (upd base first_base (x ∷ [])) (e ∷ []) ≡ x ∷ []
  level-one = rw (upd-at base first_base (x ∷ []))

  pub first-tree : Tree (record { key = 0; page = first_base } ∷ [])
      (state (upd leaf q (r ∷ [])) (upd base first_base (record { key = 0; page = q } ∷ [])))
  first-tree =
      tree_of (e ∷ []) (upd leaf q (r ∷ [])) (upd base first_base (x ∷ [])) refl (ap first (upd-at base first_base (x ∷ [])), tt)
      (λ p. one base x first_base 0 p no-base)
      (rw level-one
      (record {
        ascends = rw (upd-at leaf q (r ∷ [])) (omega arith, (omega arith, tt));
        pointed = λ p. one leaf r q 0 p no-leaf;
      }))

  pub first-contents : contents (record { key = 0; page = first_base } ∷ [])
      (state (upd leaf q (r ∷ [])) (upd base first_base (record { key = 0; page = q } ∷ [])))
      ≡ with_record r []
  unfolding with_record lesser greater
  first-contents = ap (beneath (upd leaf q (r ∷ []))) level-one ∙ rw (upd-at leaf q (r ∷ []))
