-- What stands below the entries of 64 pages in form, and that the tests of a well-formed tree say of it what the tree that the pages show
-- says: pointers, first keys, trails. Assumes nothing.
use Prim.Native.Nat.{ℕ, ◌+◌, ◌*◌, ◌≤◌, ◌<◌}
use native.Mathlib.Omega.{arith}
use mathlib.Core.Path.{◌≡◌, refl, sym, ap, ap₂, ◌∙◌}
use mathlib.Core.Logic.{inl, inr, ⊎_elim}
use mathlib.Core.Bool.{true}
use mathlib.Core.List.{List, [], ◌∷◌, ◌++◌, map, map-append}
use borrow.Author.Tests.{eqb-true, eq-eqb}
use Rattle.field.specs.Test.{pick}
use Rattle.field.proofs.Test.{both-1, both-2, both-intro}
use Rattle.page.specs.Page.{key_of, to_page, rows, entries, records, pointing, first_base, last_base, first_leaf, last_leaf, to_bases, to_leaves, is_base, is_leaf, is_empty}
use Rattle.page.specs.Pages.{page, pages}
use Rattle.page.specs.Each.{Each}
use Rattle.page.proofs.Region.{base-pointing}
use Rattle.page.proofs.Pages.{get_or-pages}
use Rattle.tree.specs.Tree.{under, root_entries, below, base_entries, headed}
use Rattle.tidy.specs.Tidy.{Sound}
use Rattle.tidy.proofs.Model.{Entry, Ascends, full, marks, trail, beneath, Heads, first, entry_key}
use Rattle.tidy.proofs.Entries.{ent, ents, ascend-keys}
use Rattle.tidy.proofs.Pages.{sound-page, leaf_of, base_of, leaf-at, base-at, root-form, leaf-form, base-form, rows_empty, leaf-rows, base-rows, root-pointing}
use Rattle.tidy.proofs.Keys.{rows_under, row_trail}
use Rattle.tidy.proofs.Tests.{Into, into, pointing-append, full-ents, full-rows, first-ents}

-- ---- 64 pages in form

module _ (w : List ℕ) (sound : Sound w) where
  -- all pages
  abbrev pub ps : List (List ℕ)
  ps = pages w

  -- the root's entries
  abbrev pub root : List (List ℕ)
  root = entries (page 0 w)

  -- the entries of all base pages
  abbrev pub leaves : List (List ℕ)
  leaves = below 8 ps root

  -- the root page is page 0
  pub root_is : root_entries ps ≡ root
  unfolding root_entries
  root_is = ap entries (get_or-pages 0 w (omega arith))

  -- the level below it
  pub level-is : base_entries ps ≡ leaves
  unfolding base_entries
  level-is = ap (below 8 ps) root_is

  -- an entry's page is the page that it points to
  pub under-page : (e : List ℕ) → to_page e < 64 → under ps e ≡ page (to_page e) w
  unfolding under
  under-page e h = get_or-pages (to_page e) w h

  -- the root's entries point to base pages
  pub root-into : to_bases root ≡ true
  root-into = root-pointing (page 0 w) (root-form (page 0 w) (sound-page 0 w sound (omega arith)))

  -- the entries of a base page point to leaf pages
  pub base-into : (p : ℕ) → first_base ≤ p → p ≤ last_base → to_leaves (entries (page p w)) ≡ true
  base-into p h k =
      ⊎_elim
      (λ (e : is_empty (page p w) ≡ true). rw (rows_empty 8 (page p w) e) (unfold pointing in refl))
      (λ (e : is_base (page p w) ≡ true). base-pointing (page p w) e)
      (base-form p (page p w) h k (sound-page p w sound (omega arith)))

  -- the entries of base pages point to leaf pages
  level-into : (es : List (List ℕ)) → to_bases es ≡ true → to_leaves (below 8 ps es) ≡ true
  unfolding below
  level-into [] h = unfold pointing in refl
  level-into (e ∷ es) h =
      let i : Into first_base last_base e es = into first_base last_base e es h in
      pointing-append first_leaf last_leaf (rows 8 (under ps e)) (below 8 ps es)
      (rw (under-page e (omega (arith, i.high))) (base-into (to_page e) i.low i.high)) (level-into es i.rest)

  -- so do all of them
  pub leaves-into : to_leaves leaves ≡ true
  leaves-into = level-into root root-into

  -- the rows below entries are those of the state
  pub base-under : (e : List ℕ) → first_base ≤ to_page e → to_page e ≤ last_base → base_of w (to_page e) ≡ ents (rows 8 (under ps e))
  base-under e h k = base-at w (to_page e) h k ∙ ap (λ (pg : List ℕ). ents (rows 8 pg)) (sym (under-page e (omega arith)))

  -- the records below an entry are those of the state
  pub leaf-under : (e : List ℕ) → first_leaf ≤ to_page e → to_page e ≤ last_leaf → leaf_of w (to_page e) ≡ rows 16 (under ps e)
  leaf-under e h k = leaf-at w (to_page e) h ∙ ap (rows 16) (sym (under-page e (omega arith)))

  -- all entries of base pages are what stands below the root's
  pub level-ents : (es : List (List ℕ)) → to_bases es ≡ true → ents (below 8 ps es) ≡ beneath (base_of w) (ents es)
  unfolding below
  level-ents [] h = refl
  level-ents (e ∷ es) h =
      let i : Into first_base last_base e es = into first_base last_base e es h in
      map-append ent (rows 8 (under ps e)) (below 8 ps es)
      ∙ ap₂ (λ (x y : List Entry). x ++ y) (sym (base-under e i.low i.high)) (level-ents es i.rest)

  -- all records are what stands below those
  pub records-beneath : (es : List (List ℕ)) → to_leaves es ≡ true → below 16 ps es ≡ beneath (leaf_of w) (ents es)
  unfolding below
  records-beneath [] h = refl
  records-beneath (e ∷ es) h =
      let i : Into first_leaf last_leaf e es = into first_leaf last_leaf e es h in
      ap₂ (λ (x y : List (List ℕ)). x ++ y) (sym (leaf-under e i.low i.high)) (records-beneath es i.rest)

  -- the two trails
  marks-ents : (rs : List (List ℕ)) → marks entry_key (ents rs) ≡ marks key_of rs
  marks-ents [] = refl
  marks-ents (r ∷ rs) = ap (λ (l : List ℕ). (2 * key_of r + 1) ∷ l) (marks-ents rs)

  -- the trail over base pages is that of the state
  pub trail-base : (es : List (List ℕ)) → to_bases es ≡ true → trail entry_key (base_of w) (ents es) ≡ row_trail 8 ps es
  trail-base [] h = refl
  trail-base (e ∷ es) h =
      let i : Into first_base last_base e es = into first_base last_base e es h in
      ap₂ (λ (x y : List ℕ). 2 * key_of e ∷ (x ++ y))
      (ap (marks entry_key) (base-under e i.low i.high) ∙ marks-ents (rows 8 (under ps e))) (trail-base es i.rest)

  -- the trail over leaf pages
  pub trail-leaf : (es : List (List ℕ)) → to_leaves es ≡ true → trail key_of (leaf_of w) (ents es) ≡ row_trail 16 ps es
  trail-leaf [] h = refl
  trail-leaf (e ∷ es) h =
      let i : Into first_leaf last_leaf e es = into first_leaf last_leaf e es h in
      ap₂ (λ (x y : List ℕ). 2 * key_of e ∷ (x ++ y)) (ap (marks key_of) (leaf-under e i.low i.high)) (trail-leaf es i.rest)

  -- the keys in a page ascend
  base-asc : (p : ℕ) → first_base ≤ p → p ≤ last_base → Ascends 0 (map key_of (entries (page p w)))
  base-asc p h k =
      ⊎_elim
      (λ (e : is_empty (page p w) ≡ true). rw (rows_empty 8 (page p w) e) tt)
      (λ (e : is_base (page p w) ≡ true). ascend-keys 101 110 0 (entries (page p w)) (base-rows (page p w) e).order)
      (base-form p (page p w) h k (sound-page p w sound (omega arith)))

  -- the keys in a leaf ascend
  leaf-asc : (p : ℕ) → first_leaf ≤ p → p ≤ last_leaf → Ascends 0 (map key_of (records (page p w)))
  leaf-asc p h k =
      ⊎_elim
      (λ (e : is_empty (page p w) ≡ true). rw (rows_empty 16 (page p w) e) tt)
      (λ (e : is_leaf (page p w) ≡ true). ascend-keys 114 99 0 (records (page p w)) (leaf-rows (page p w) e).order)
      (leaf-form p (page p w) h (sound-page p w sound (omega arith)))

  -- so they do in every base page below the root's entries
  pub bases-asc : (es : List (List ℕ)) → to_bases es ≡ true → Each (λ e. Ascends 0 (map key_of (rows_under 8 ps e))) es
  bases-asc [] h = Each.nil
  bases-asc (e ∷ es) h =
      let i : Into first_base last_base e es = into first_base last_base e es h in
      Each.cons {r = e} (rw (under-page e (omega (arith, i.high))) (base-asc (to_page e) i.low i.high)) (bases-asc es i.rest)

  -- and in every leaf below the entries of base pages
  pub leaves-asc : (es : List (List ℕ)) → to_leaves es ≡ true → Each (λ e. Ascends 0 (map key_of (rows_under 16 ps e))) es
  leaves-asc [] h = Each.nil
  leaves-asc (e ∷ es) h =
      let i : Into first_leaf last_leaf e es = into first_leaf last_leaf e es h in
      Each.cons {r = e} (rw (under-page e (omega (arith, i.high))) (leaf-asc (to_page e) i.low i.high)) (leaves-asc es i.rest)

  -- a page that holds something, in the state and by the test
  pub full-base : (p : ℕ) → first_base ≤ p → p ≤ last_base → full (base_of w p) ≡ pick (is_empty (page p w)) 0 1
  full-base p h k =
      ap full (base-at w p h k)
      ∙ full-ents (entries (page p w))
      ∙ full-rows 8 (page p w)
      (⊎_elim (λ (e : is_empty (page p w) ≡ true). inl e) (λ (e : is_base (page p w) ≡ true). inr (base-rows (page p w) e).enough)
      (base-form p (page p w) h k (sound-page p w sound (omega arith))))

  -- the same of a leaf page
  pub full-leaf : (p : ℕ) → first_leaf ≤ p → p ≤ last_leaf → full (leaf_of w p) ≡ pick (is_empty (page p w)) 0 1
  full-leaf p h k =
      ap full (leaf-at w p h)
      ∙ full-rows 16 (page p w)
      (⊎_elim (λ (e : is_empty (page p w) ≡ true). inl e) (λ (e : is_leaf (page p w) ≡ true). inr (leaf-rows (page p w) e).enough)
      (leaf-form p (page p w) h (sound-page p w sound (omega arith))))

  -- first keys
  pub heads-to : (es : List (List ℕ)) → to_bases es ≡ true → headed ps es ≡ true → Heads (base_of w) (ents es)
  unfolding headed
  heads-to [] h e = tt
  heads-to (r ∷ es) h e =
      let i : Into first_base last_base r es = into first_base last_base r es h in (
        ap first (base-under r i.low i.high) ∙ first-ents (rows 8 (under ps r)) ∙ eqb-true _ _ (both-1 _ _ e),
        heads-to es i.rest (both-2 _ _ e),
      )

  -- and back
  pub heads-of : (es : List (List ℕ)) → to_bases es ≡ true → Heads (base_of w) (ents es) → headed ps es ≡ true
  unfolding headed
  heads-of [] h e = refl
  heads-of (r ∷ es) h e =
      let i : Into first_base last_base r es = into first_base last_base r es h in
      both-intro _ _ (eq-eqb _ _ (sym (first-ents (rows 8 (under ps r))) ∙ sym (ap first (base-under r i.low i.high)) ∙ e.0))
      (heads-of es i.rest e.1)
