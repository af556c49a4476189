-- A delete on a well-formed tree: the record goes out of the leaf of its key; an emptied leaf's range joins the entry before it in its base
-- page, else the one behind it; an emptied base page's likewise at the root. The tree stays well formed, and its records are the old ones
-- without the key. Assumes nothing.
use Prim.Native.Nat.{ℕ, suc, ◌+◌, ◌*◌, ◌≤◌, ◌<◌}
use native.Mathlib.Omega.{arith}
use mathlib.Core.Path.{◌≡◌, refl, sym, ap, ◌∙◌, subst}
use mathlib.Core.Logic.{◌≢◌, ⊎_elim}
use mathlib.Core.Bool.{cond}
use mathlib.Core.List.{List, [], ◌∷◌, ◌++◌, append-nil}
use borrow.Author.Tests.{eq-eqb, ne_eqb}
use lib.Dec.{eqb}
use Rattle.page.specs.Page.{key_of}
use Rattle.saving.specs.Save.{without_key}
use Rattle.tidy.proofs.Model.{Entry, pointers, full, trail, Well, beneath, upd, state, entry_key, first, Tree, contents}
use Rattle.tidy.proofs.Trail.{eq?, full-append, hit, beneath-append, beneath-but}
use Rattle.saved.proofs.Sorted.{taken-marks, taken-within}
use Rattle.saved.proofs.Refill.{upd-at, upd-off, upd-swap, none-behind, behind-entry, refill-well, refill-beneath, gone-well, gone-beneath}
use Rattle.saved.proofs.Refill.{joined-well, joined-beneath}
use Rattle.saved.proofs.Upper.{tree_of, tree_with, tree-without, own-head, heads-but, ahead, after, midst, level-is, lower-is, first-kept}
use Rattle.saved.proofs.Around.{Over, over-rest, below_all, above-all}

-- ---- in one level

module _ (f : ℕ → List (List ℕ)) (pre : List Entry) (x : Entry) (post : List Entry) (w : Well key_of f (pre ++ x ∷ post)) (k : ℕ)
    (low : x.key ≤ k) (high : Over k post) where
  -- the records without the key, those of the leaf in the midst
  taken-around : without_key k (beneath f (pre ++ x ∷ post)) ≡ beneath f pre ++ (without_key k (f x.page) ++ beneath f post)
  taken-around =
      ap (without_key k) (beneath-append f pre (x ∷ post))
      ∙ taken-within (beneath f pre) (f x.page) (beneath f post) k (below_all f pre x post w k low high) (above-all f pre x post w k low high)

  taken-well : full (without_key k (f x.page)) ≡ 1 → Well key_of (upd f x.page (without_key k (f x.page))) (pre ++ x ∷ post)
  taken-well h =
      refill-well key_of f pre x post w (without_key k (f x.page)) h
      (taken-marks (trail key_of f post) k (suc (2 * x.key)) (f x.page) (behind-entry key_of f pre x post w))

  taken-beneath : beneath (upd f x.page (without_key k (f x.page))) (pre ++ x ∷ post) ≡ without_key k (beneath f (pre ++ x ∷ post))
  taken-beneath = refill-beneath key_of f pre x post w (without_key k (f x.page)) ∙ sym taken-around

  -- the leaf had no other record
  rest-beneath : without_key k (f x.page) ≡ [] → beneath f pre ++ beneath f post ≡ without_key k (beneath f (pre ++ x ∷ post))
  rest-beneath only = sym (taken-around ∙ rw only)

-- ---- in a tree

module _ (leaf : ℕ → List (List ℕ)) (base : ℕ → List Entry) (r1 : List Entry) (e : Entry) (r2 : List Entry)
    (t : Tree (r1 ++ e ∷ r2) (state leaf base)) (k : ℕ) (high-root : Over k r2) where
  abbrev old : List (List ℕ)
  old = contents (r1 ++ e ∷ r2) (state leaf base)

  module _ (b1 : List Entry) (x : Entry) (b2 : List Entry) (is : base e.page ≡ b1 ++ x ∷ b2) (low : x.key ≤ k) (high-base : Over k b2) where
    abbrev pre : List Entry
    pre = ahead base r1 b1

    abbrev post : List Entry
    post = after base b2 r2

    high : Over k post
    high = over-rest leaf base r1 e r2 t k b2 high-base high-root

    lev : beneath base (r1 ++ e ∷ r2) ≡ pre ++ x ∷ post
    lev = level-is leaf base r1 e r2 t b1 x b2 is

    well : Well key_of leaf (pre ++ x ∷ post)
    well = lower-is leaf base r1 e r2 t b1 x b2 is

    -- the leaf keeps a record
    pub kept-tree : full (without_key k (leaf x.page)) ≡ 1
        → Tree (r1 ++ e ∷ r2) (state (upd leaf x.page (without_key k (leaf x.page))) base)
    kept-tree h =
        tree_of (r1 ++ e ∷ r2) (upd leaf x.page (without_key k (leaf x.page))) base t.zero-first t.heads t.upper.pointed
        (rw lev (taken-well leaf pre x post well k low high h))

    pub kept-contents : contents (r1 ++ e ∷ r2) (state (upd leaf x.page (without_key k (leaf x.page))) base) ≡ without_key k old
    kept-contents =
        ap (beneath (upd leaf x.page (without_key k (leaf x.page)))) lev
        ∙ taken-beneath leaf pre x post well k low high
        ∙ ap (λ (l : List Entry). without_key k (beneath leaf l)) (sym lev)

    -- it keeps none
    module _ (only : without_key k (leaf x.page) ≡ []) where
      abbrev leaf' : ℕ → List (List ℕ)
      leaf' = upd leaf x.page []

      rest-old : beneath leaf pre ++ beneath leaf post ≡ without_key k old
      rest-old = rest-beneath leaf pre x post well k low high only ∙ ap (λ (l : List Entry). without_key k (beneath leaf l)) (sym lev)

      gone : Well key_of leaf' (pre ++ post)
      gone = gone-well key_of leaf pre x post well

      gone-rest : beneath leaf' (pre ++ post) ≡ without_key k old
      gone-rest = gone-beneath key_of leaf pre x post well ∙ rest-old

      -- an entry stands before it in the base page
      pub left-tree : full b1 ≡ 1 → Tree (r1 ++ e ∷ r2) (state (upd leaf x.page []) (upd base e.page (b1 ++ b2)))
      left-tree h =
          tree_with leaf base r1 e r2 t (b1 ++ b2) leaf' (full-append b1 b2 (omega arith)) (first-left b1 h refl) (rw (midst base r1 b1 [] b2 r2) gone)
        where
          first-left : (l : List Entry) → full l ≡ 1 → l ≡ b1 → first (l ++ b2) ≡ e.key
          first-left [] u c = absurd (omega arith)
          first-left (y ∷ l) u c = ap (λ (m : List Entry). first (m ++ x ∷ b2)) c ∙ first-kept leaf base r1 e r2 t b1 x b2 is b2

      pub left-contents : contents (r1 ++ e ∷ r2) (state (upd leaf x.page []) (upd base e.page (b1 ++ b2))) ≡ without_key k old
      left-contents =
          ap (beneath leaf') (refill-beneath entry_key base r1 e r2 t.upper (b1 ++ b2) ∙ midst base r1 b1 [] b2 r2) ∙ gone-rest

  -- none stands before it, one behind it
  module _ (x y : Entry) (b2 : List Entry) (is : base e.page ≡ x ∷ y ∷ b2) (low : x.key ≤ k) (strict : k < y.key)
      (only : without_key k (leaf x.page) ≡ []) where
    abbrev heir : Entry
    heir = record { key = x.key; page = y.page }

    abbrev front : List Entry
    front = ahead base r1 []

    wl : Well key_of leaf (front ++ x ∷ y ∷ after base b2 r2)
    wl = lower-is leaf base r1 e r2 t [] x (y ∷ b2) is

    pub right-tree : Tree (r1 ++ e ∷ r2) (state (upd leaf x.page []) (upd base e.page (record { key = x.key; page = y.page } ∷ b2)))
    right-tree =
        tree_with leaf base r1 e r2 t (heir ∷ b2) (upd leaf x.page []) refl (ap first (sym is) ∙ own-head leaf base r1 e r2 t)
        (rw (append-nil (beneath base r1)) at (joined-well key_of leaf front x y (after base b2 r2) wl))

    pub right-contents : contents (r1 ++ e ∷ r2)
        (state (upd leaf x.page []) (upd base e.page (record { key = x.key; page = y.page } ∷ b2)))
        ≡ without_key k old
    right-contents =
        ap (beneath (upd leaf x.page [])) (refill-beneath entry_key base r1 e r2 t.upper (heir ∷ b2))
        ∙ (rw (append-nil (beneath base r1)) at (joined-beneath key_of leaf front x y (after base b2 r2) wl))
        ∙ (rw (append-nil (beneath base r1)) at (rest-old [] x (y ∷ b2) is low strict only))

  -- it was the base page's only entry: the base page is emptied, its entry goes
  module _ (x : Entry) (is : base e.page ≡ x ∷ []) (low : x.key ≤ k) (only : without_key k (leaf x.page) ≡ []) where
    gone-all : Well key_of (upd leaf x.page []) (beneath base r1 ++ beneath base r2)
    gone-all = rw (append-nil (beneath base r1)) at (gone [] x [] is low tt only)

    gone-all-rest : beneath (upd leaf x.page []) (beneath base r1 ++ beneath base r2) ≡ without_key k old
    gone-all-rest = rw (append-nil (beneath base r1)) at (gone-rest [] x [] is low tt only)

    pub base-tree : first (r1 ++ r2) ≡ 0 → Tree (r1 ++ r2) (state (upd leaf x.page []) (upd base e.page []))
    base-tree z = tree-without leaf base r1 e r2 t (upd leaf x.page []) z gone-all

    pub base-contents : contents (r1 ++ r2) (state (upd leaf x.page []) (upd base e.page [])) ≡ without_key k old
    base-contents = ap (beneath (upd leaf x.page [])) (gone-beneath entry_key base r1 e r2 t.upper) ∙ gone-all-rest

-- ---- it was the only entry of the first base page, and another base page stands behind: the first keys there are lowered

module _ (leaf : ℕ → List (List ℕ)) (base : ℕ → List Entry) (e d : Entry) (r2 : List Entry) (t : Tree (e ∷ d ∷ r2) (state leaf base)) (k : ℕ)
    (high-root : k < d.key) (x : Entry) (is : base e.page ≡ x ∷ []) (y : Entry) (ys : List Entry) (next : base d.page ≡ y ∷ ys)
    (low : x.key ≤ k) (only : without_key k (leaf x.page) ≡ []) where
  abbrev lowest : List Entry
  lowest = record { key = e.key; page = y.page } ∷ ys

  abbrev less : ℕ → List Entry
  less = upd base e.page []

  abbrev base' : ℕ → List Entry
  base' = upd less d.page lowest

  abbrev top : List Entry
  top = record { key = e.key; page = d.page } ∷ r2

  abbrev lh : ℕ → List (List ℕ)
  lh = upd leaf x.page []

  same_key : x.key ≡ e.key
  same_key = ap first (sym is) ∙ own-head leaf base [] e (d ∷ r2) t

  -- no root entry behind points to the first base page
  counted : cond (eqb d.page e.page) 1 0 + pointers e.page r2 ≡ 0
  counted = none-behind entry_key base [] e (d ∷ r2) t.upper

  apart : d.page ≢ e.page
  apart c = let b = rw (eq-eqb d.page e.page c) at counted in omega (arith, b)

  rest-none : pointers e.page r2 ≡ 0
  rest-none = omega (arith, counted)

  next-none : pointers d.page r2 ≡ 0
  next-none = none-behind entry_key base (e ∷ []) d r2 t.upper

  at-d : base' d.page ≡ lowest
  at-d = upd-at less d.page lowest

  at-e : base' e.page ≡ []
  at-e = upd-off less d.page lowest e.page (λ c. apart (sym c)) ∙ upd-at base e.page []

  level-low : beneath base' top ≡ lowest ++ beneath base r2
  level-low =
      ap (λ (l : List Entry). l ++ beneath base' r2) at-d
      ∙ ap (λ (l : List Entry). lowest ++ l)
      (beneath-but d.page base' less (upd-off less d.page lowest) r2 next-none
      ∙ beneath-but e.page less base (upd-off base e.page []) r2 rest-none)

  level-old : beneath base (e ∷ d ∷ r2) ≡ x ∷ y ∷ (ys ++ beneath base r2)
  level-old = rw (is, next)

  wd : Well key_of leaf (x ∷ y ∷ (ys ++ beneath base r2))
  wd = rw level-old at t.lower

  well-low : Well key_of lh (lowest ++ beneath base r2)
  well-low = rw same_key at (joined-well key_of leaf [] x y (ys ++ beneath base r2) wd)

  pointed-low : (p : ℕ) → pointers p top ≡ full (base' p)
  pointed-low p =
      ⊎_elim
      (λ (c : p ≡ d.page). subst (λ (n : ℕ). pointers n top ≡ full (base' n)) (sym c)
      (let u : cond (eqb d.page d.page) 1 0 + pointers d.page r2 ≡ 1 = rw (hit d) (omega (arith, next-none)) in u ∙ sym (ap full at-d)))
      (λ (n : p ≢ d.page). ⊎_elim
      (λ (c : p ≡ e.page). subst (λ (n : ℕ). pointers n top ≡ full (base' n)) (sym c) (counted ∙ sym (ap full at-e)))
      (λ (m : p ≢ e.page).
      let u : cond (eqb e.page p) 1 0 + (cond (eqb d.page p) 1 0 + pointers p r2) ≡ full (base p) = t.upper.pointed p in
      let v = rw (ne_eqb e.page p (λ c. m (sym c))) at u in
      let z : cond (eqb d.page p) 1 0 + pointers p r2 ≡ full (base p) = omega (arith, v) in
      z ∙ sym (ap full (upd-off less d.page lowest p n ∙ upd-off base e.page [] p m)))
      (eq? p e.page))
      (eq? p d.page)

  -- the same base pages, as they are laid
  same-bases : base' ≡ upd (upd base d.page lowest) e.page []
  same-bases = upd-swap base e.page d.page [] lowest (λ c. apart (sym c))

  pub lowered-tree : Tree (record { key = e.key; page = d.page } ∷ r2)
      (state (upd leaf x.page []) (upd (upd base d.page (record { key = e.key; page = y.page } ∷ ys)) e.page []))
  lowered-tree =
      subst (λ (b : ℕ → List Entry). Tree top (state lh b)) same-bases
      (tree_of top lh base' t.zero-first (
        ap first at-d,
        heads-but d.page less base' (upd-off less d.page lowest) r2 next-none
            (heads-but e.page base less (upd-off base e.page []) r2 rest-none t.heads.1.1),
      )
      pointed-low (rw level-low well-low))

  pub lowered-contents : contents (record { key = e.key; page = d.page } ∷ r2)
      (state (upd leaf x.page []) (upd (upd base d.page (record { key = e.key; page = y.page } ∷ ys)) e.page []))
      ≡ without_key k (contents (e ∷ d ∷ r2) (state leaf base))
  lowered-contents =
      ap (λ (b : ℕ → List Entry). contents top (state lh b)) (sym same-bases)
      ∙ ap (beneath lh) level-low
      ∙ joined-beneath key_of leaf [] x y (ys ++ beneath base r2) wd
      ∙ rest-beneath leaf [] x (y ∷ (ys ++ beneath base r2)) wd k low high only
      ∙ ap (λ (l : List Entry). without_key k (beneath leaf l)) (sym level-old)
    where
      high : k < y.key
      high = let a : y.key ≡ d.key = ap first (sym next) ∙ t.heads.1.0 in omega (arith, high-root)
