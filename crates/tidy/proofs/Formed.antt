-- The test of a well-formed tree holds of 64 pages in form just where the tree that they show is well formed; and all records are what
-- stands below its entries. Assumes nothing.
use Prim.Native.Nat.{ℕ, ◌+◌, ◌-◌, ◌≤◌, ◌<◌}
use native.Mathlib.Omega.{arith}
use mathlib.Core.Path.{◌≡◌, sym, ap, ◌∙◌, fun_ext}
use mathlib.Core.Logic.{inl, inr}
use mathlib.Core.Bool.{true}
use mathlib.Core.List.{List, [], ◌∷◌, ◌++◌, map, map-append}
use lib.ListN.{length, drop, get_or, length-drop}
use lib.Seq.{get_or-drop}
use Rattle.field.specs.Test.{all, pick}
use Rattle.field.specs.Bytes.{le2}
use Rattle.field.proofs.Test.{all_head, all_tail, all-intro, all_nil}
use Rattle.field.proofs.Part.{split}
use Rattle.page.specs.Page.{key_of, count, rows, rows_of, records, first_base, last_base, first_leaf, last_leaf, is_empty}
use Rattle.page.specs.Pages.{page, pages}
use Rattle.page.proofs.Pages.{length-pages, get_or-pages}
use Rattle.tree.specs.Tree.{below, all_records, pointed_once, starts_at_zero, headed, keys_kept, well_formed}
use Rattle.tree.specs.Tree as T
use Rattle.tidy.specs.Tidy.{Sound}
use Rattle.tidy.proofs.Model.{Ascends, pointers, full, beneath, State, state, Tree, level, contents}
use Rattle.tidy.proofs.Trail.{pointers-append}
use Rattle.tidy.proofs.Entries.{ent, ents, pointers-ents, ascend-keys}
use Rattle.tidy.proofs.Pages.{sound-page, leaf_of, base_of, root_of, leaf-at, leaf-not, base-not, page-past, root-form, root-rows}
use Rattle.tidy.proofs.Shown.{Shows}
use Rattle.tidy.proofs.Keys.{row_trail, kept-trail, trail-kept, below-ascends}
use Rattle.tidy.proofs.Tests.{outside, once-at, once-all, zero-to, zero_of}
use Rattle.tidy.proofs.Below.{root, leaves, root_is, level-is, root-into, leaves-into, level-ents, records-beneath, trail-base, trail-leaf}
use Rattle.tidy.proofs.Below.{bases-asc, leaves-asc, full-base, full-leaf, heads-to, heads-of}

-- the tree that the pages show
abbrev pub state_of : List ℕ → State
state_of w = state (leaf_of w) (base_of w)

module _ (w : List ℕ) (sound : Sound w) where
  -- all pages
  abbrev ps : List (List ℕ)
  ps = pages w

  -- the root's entries
  abbrev top : List (List ℕ)
  top = root w sound

  -- the entries of base pages
  abbrev lev : List (List ℕ)
  lev = leaves w sound

  -- the five tests, over the entries of the pages
  tests : well_formed ps ≡ all (pointed_once (top ++ lev) 1 (drop 1 ps) ∷ starts_at_zero top ∷ headed ps top ∷ keys_kept 8 ps top ∷ keys_kept 16 ps lev ∷ [])
  unfolding well_formed
  tests = rw (root_is w sound, level-is w sound)

  -- no leaf stands behind the 64 pages
  leaf-past : (p : ℕ) → 64 ≤ p → leaf_of w p ≡ []
  unfolding rows rows_of count le2
  leaf-past p h = leaf-at w p (omega arith) ∙ ap records (page-past p w sound.whole h)

  -- ---- pointers, page by page

  -- the pointers of both levels
  count-both : (p : ℕ) → T.pointers p (top ++ lev) ≡ pointers p (ents top) + pointers p (ents lev)
  count-both p = pointers-ents p (top ++ lev) ∙ ap (pointers p) (map-append ent top lev) ∙ pointers-append p (ents top) (ents lev)

  -- the pages behind the root
  behind-first : (i : ℕ) → i < 63 → get_or (drop 1 ps) i [] ≡ page (1 + i) w
  behind-first i h = get_or-drop 1 ps i [] ∙ get_or-pages (1 + i) w (omega arith)

  -- are 63
  length-behind : length (drop 1 ps) ≡ 63
  length-behind = rw (length-drop 1 ps, length-pages w)

  -- what the state says of page p, from what the test says and back
  abbrev Counted : ℕ → Type 0
  Counted p = pointers p (ents top) + pointers p (ents lev) ≡ pick (is_empty (page p w)) 0 1

  -- the test, page by page
  counted-to : pointed_once (top ++ lev) 1 (drop 1 ps) ≡ true → (p : ℕ) → 1 ≤ p → p < 64 → Counted p
  counted-to e p h k =
      let i : ℕ = p - 1 in
      let q : 1 + i ≡ p = omega arith in
      let inside : i < length (drop 1 ps) = omega (arith, length-behind) in
      rw (count-both (1 + i), behind-first i (omega arith), q) at (once-at (top ++ lev) 1 i (drop 1 ps) e inside)

  -- and back
  counted_of : ((p : ℕ) → 1 ≤ p → p < 64 → Counted p) → pointed_once (top ++ lev) 1 (drop 1 ps) ≡ true
  counted_of f =
      once-all (top ++ lev) 1 (drop 1 ps)
      (λ i h. let k : i < 63 = omega (arith, length-behind) in
      rw (count-both (1 + i), behind-first i k) (f (1 + i) (omega arith) (omega arith)))

  -- base pages are pointed to as they should be
  upper-pointed : ((p : ℕ) → 1 ≤ p → p < 64 → Counted p) → (p : ℕ) → pointers p (ents top) ≡ full (base_of w p)
  upper-pointed f p =
      split p 1
      (λ h. outside first_base last_base p top (root-into w sound) (inl h) ∙ sym (ap full (base-not w p (inl (omega arith)))))
      (λ h. split p first_leaf
      (λ k. let z = outside first_leaf last_leaf p lev (leaves-into w sound) (inl k) in
      let c = f p h (omega arith) in
      omega (arith, full-base w sound p h (omega arith)))
      (λ k. outside first_base last_base p top (root-into w sound) (inr k) ∙ sym (ap full (base-not w p (inr k)))))

  -- so are leaf pages
  lower-pointed : ((p : ℕ) → 1 ≤ p → p < 64 → Counted p) → (p : ℕ) → pointers p (ents lev) ≡ full (leaf_of w p)
  lower-pointed f p =
      split p first_leaf
      (λ h. outside first_leaf last_leaf p lev (leaves-into w sound) (inl h) ∙ sym (ap full (leaf-not w p h)))
      (λ h. split p 64
      (λ k. let z = outside first_base last_base p top (root-into w sound) (inr h) in
      let c = f p (omega arith) k in
      omega (arith, full-leaf w sound p h (omega arith)))
      (λ k. outside first_leaf last_leaf p lev (leaves-into w sound) (inr k) ∙ sym (ap full (leaf-past p k))))

  -- all entries of base pages, and all records
  level-of : ents lev ≡ level (root_of w) (state_of w)
  level-of = level-ents w sound top (root-into w sound)

  -- all records are the tree's
  pub records-of : all_records ps ≡ contents (root_of w) (state_of w)
  unfolding all_records
  records-of =
      ap (below 16 ps) (level-is w sound) ∙ records-beneath w sound lev (leaves-into w sound) ∙ ap (beneath (leaf_of w)) level-of

  -- ---- both ways

  -- the root's keys ascend
  root-rises : Ascends 0 (map key_of top)
  root-rises = ascend-keys 101 110 0 top (root-rows (page 0 w) (root-form (page 0 w) (sound-page 0 w sound (omega arith)))).order

  -- pages that pass the test show a well-formed tree
  pub to-tree : well_formed ps ≡ true → Tree (root_of w) (state_of w)
  to-tree e =
      let e0 = sym tests ∙ e in
      let e1 = all_tail _ _ e0 in
      let e2 = all_tail _ _ e1 in
      let e3 = all_tail _ _ e2 in
      let e4 = all_tail _ _ e3 in
      let f : (p : ℕ) → 1 ≤ p → p < 64 → Counted p = counted-to (all_head _ _ e0) in
      let up : Ascends 0 (row_trail 8 ps top) = kept-trail 8 ps 0 top root-rises (bases-asc w sound top (root-into w sound)) (all_head _ _ e3) in
      let low : Ascends 0 (row_trail 16 ps lev) =
      kept-trail 16 ps 0 lev (below-ascends 8 ps 0 top up) (leaves-asc w sound lev (leaves-into w sound)) (all_head _ _ e4) in
      record {
        zero-first = zero-to top (all_head _ _ e1);
        heads = heads-to w sound top (root-into w sound) (all_head _ _ e2);
        upper = record { ascends = rw (trail-base w sound top (root-into w sound)) up; pointed = upper-pointed f };
        lower = rw (← level-of)
            (record { ascends = rw (trail-leaf w sound lev (leaves-into w sound)) low; pointed = lower-pointed f });
      }

  -- and pages that show one pass it
  pub from-tree : Tree (root_of w) (state_of w) → well_formed ps ≡ true
  from-tree t =
      let low = rw (← level-of) at t.lower in
      let up : Ascends 0 (row_trail 8 ps top) = rw (trail-base w sound top (root-into w sound)) at t.upper.ascends in
      let down : Ascends 0 (row_trail 16 ps lev) = rw (trail-leaf w sound lev (leaves-into w sound)) at low.ascends in
      let f : (p : ℕ) → 1 ≤ p → p < 64 → Counted p =
      λ p h k. split p first_leaf
      (λ s. let z = outside first_leaf last_leaf p lev (leaves-into w sound) (inl s) in
      omega (arith, t.upper.pointed p, full-base w sound p h (omega arith)))
      (λ s. let z = outside first_base last_base p top (root-into w sound) (inr s) in
      omega (arith, low.pointed p, full-leaf w sound p s (omega arith))) in
      tests
      ∙ all-intro _ _ (counted_of f)
      (all-intro _ _ (zero_of top t.zero-first)
      (all-intro _ _ (heads-of w sound top (root-into w sound) t.heads)
      (all-intro _ _ (trail-kept 8 ps 0 top up) (all-intro _ _ (trail-kept 16 ps 0 lev down) all_nil))))

-- pages that show a tree show just one
pub shown-state : (w : List ℕ) (s : State) → Shows w s → s ≡ state_of w
shown-state w s sh = λ i. state (fun_ext sh.leaves i) (fun_ext sh.bases i)
