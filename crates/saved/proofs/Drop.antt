-- A delete over the bytes that empties a leaf and its base page: the base page's range joins the root entry before it, else the one behind it,
-- whose key is lowered, and so is the first key of its page. Assumes nothing.
use Prim.Native.Nat.{ℕ, suc, ◌+◌, ◌≤◌, ◌<◌}
use native.Mathlib.Omega.{arith}
use mathlib.Core.Path.{◌≡◌, refl, sym, ap, ap₂, ◌∙◌}
use mathlib.Core.Logic.{◌≢◌, ⊎_elim}
use mathlib.Core.Bool.{true}
use mathlib.Core.List.{List, [], ◌∷◌, ◌++◌, map-append}
use borrow.Author.Tests.{eq-eqb}
use lib.ListN.{length, length-append}
use Rattle.field.specs.Bytes.{zeroes, most4}
use Rattle.page.specs.Page.{root, base, empty, first_base, last_base, first_leaf, last_leaf, key_of, to_page, entry, spare, entries, records, is_base, is_empty}
use Rattle.page.specs.Pages.{page, pages}
use Rattle.page.specs.Places.{Basic, Leafy}
use Rattle.page.specs.Each.{Each}
use Rattle.page.proofs.Rows.{each_append}
use Rattle.page.proofs.Made.{spare_of}
use Rattle.page.proofs.Pages.{bytes-page}
use Rattle.page.proofs.Region.{root-shaped, base-shaped, root-fill, base-fill, base-place, empty-none}
use Rattle.tree.specs.Tree.{all_records}
use Rattle.tree.proofs.Groups.{to-entry}
use Rattle.tree.proofs.Between.{key-small}
use Rattle.saving.specs.Save.{without_key, sheet, in_order, lowered}
use Rattle.tidy.specs.Tidy.{Tidy}
use Rattle.tidy.proofs.Model.{Entry, full, upd, entry_key, state, first, Tree, contents}
use Rattle.tidy.proofs.Entries.{ent, ents}
use Rattle.tidy.proofs.Pages.{leaf_of, base_of, base-at, sound-page}
use Rattle.tidy.proofs.Tests.{full-ents}
use Rattle.tidy.proofs.Below.{base-into}
use Rattle.tidy.proofs.Known.{sound}
use Rattle.saved.specs.Saved.{Saves}
use Rattle.saved.proofs.Refill.{upd-at, upd-off, none-behind, own-full}
use Rattle.saved.proofs.Upper.{keys-ascend}
use Rattle.saved.proofs.Shrunk.{base-tree, base-contents, lowered-tree, lowered-contents}
use Rattle.saved.proofs.Marked.{Rows, Holds, page-rows, length-full, each-parts, ent-entry, row-entry, To, pointing-each, keys-order, page-order}
use Rattle.saved.proofs.Lay.{Lays, lay-none, lay-base, lay-root, lay-gone-leaf, lay-gone-base}
use Rattle.saved.proofs.Way.{Way}
use Rattle.saved.proofs.Saves.{saves-order}
use Rattle.saved.proofs.Take.{only}

module _ (w : List ℕ) (tidy : Tidy w) (key n : ℕ) (small : n ≤ most4) (g : Way w key)
    (none_left : without_key key (records (page (to_page g.x) w)) ≡ []) (no-left : g.b1 ≡ []) (no-right : g.b2 ≡ []) where
  open g use {r1, e, r2, b1, x, b2, root_is, in-root, root-rows, root-to, basic, leafy, top-is, tree, is, low, over_root, old}

  abbrev b : ℕ
  b = to_page e

  abbrev p : ℕ
  p = to_page x

  abbrev new : List (List ℕ)
  new = without_key key (all_records (pages w))

  here : base_of w b ≡ ent x ∷ []
  here = rw (no-left, no-right) at is

  gone : without_key key (leaf_of w p) ≡ []
  gone = only w tidy key n small g none_left

  abbrev bare : ℕ → List (List ℕ)
  bare = upd (leaf_of w) p []

  most-root : length r1 + suc (length r2) ≤ root.most
  most-root =
      let l : length (entries (page 0 w)) ≡ length r1 + length (e ∷ r2) = ap length in-root ∙ length-append r1 (e ∷ r2) in
      omega (arith, (root-fill (page 0 w) root_is).room)

  abbrev sr : List ℕ
  sr = spare (page 0 w)

  sr-zero : sr ≡ zeroes 8
  sr-zero = spare_of root (page 0 w) (root-shaped (page 0 w) root_is)

  start : Lays n [] w (ents r1 ++ ent e ∷ ents r2) (leaf_of w) (base_of w)
  start = lay-none n w (ents r1 ++ ent e ∷ ents r2) (sound w tidy) top-is

  -- ---- the root entry goes

  module _ (starts : first (ents r1 ++ ents r2) ≡ 0) where
    abbrev top : List Entry
    top = ents r1 ++ ents r2

    abbrev fewer : ℕ → List Entry
    fewer = upd (base_of w) b []

    the-tree : Tree top (state bare fewer)
    the-tree = base-tree (leaf_of w) (base_of w) (ents r1) (ent e) (ents r2) tree key over_root (ent x) here low gone starts

    the-contents : contents top (state bare fewer) ≡ new
    the-contents =
        base-contents (leaf_of w) (base_of w) (ents r1) (ent e) (ents r2) tree key over_root (ent x) here low gone ∙ ap (without_key key) (sym old)

    root-ents : ents (r1 ++ r2) ≡ top
    root-ents = map-append ent r1 r2

    root-holds : Holds root (r1 ++ r2)
    root-holds =
        let q = each-parts r1 e r2 root-rows in
        let l : length (r1 ++ r2) ≡ length r1 + length r2 = length-append r1 r2 in
        record {
          each = each_append q.0 q.2;
          order = keys-order (r1 ++ r2) (rw root-ents (keys-ascend entry_key fewer 0 top the-tree.upper.ascends));
          enough = omega arith;
          room = omega (arith, most-root);
        }

    pub drop-plain : Saves n
        (in_order (sheet 0 root.sign (spare (page 0 w)) (r1 ++ r2) ∷ sheet b empty.sign (zeroes 8) [] ∷ sheet p empty.sign (zeroes 8) [] ∷ []))
        w new
    drop-plain =
        let t = each-parts r1 e r2 root-to in
        let s1 = lay-gone-leaf n small w start p tt leafy in
        let s2 = lay-gone-base n small w s1 b (λ c. omega (arith, basic, leafy, c), tt) basic in
        saves-order n w tidy.whole new top bare fewer the-tree the-contents (sheet 0 root.sign sr (r1 ++ r2))
        (sheet b empty.sign (zeroes 8) [] ∷ sheet p empty.sign (zeroes 8) [] ∷ [])
        (rw root-ents at
        (lay-root n small w s2 (λ c. omega (arith, basic, c), (λ c. omega (arith, leafy, c), tt)) sr (r1 ++ r2) sr-zero root-holds
        (each_append t.0 t.2)))

  -- ---- the root entry behind takes its key, and so does the first entry of that one's page

  module _ (f : List ℕ) (rest : List (List ℕ)) (none_before : r1 ≡ []) (one-behind : r2 ≡ f ∷ rest) where
    abbrev c : ℕ
    c = to_page f

    f-to : Basic c × To first_base last_base rest
    f-to = let t = each-parts [] f rest (rw one-behind at (each-parts r1 e r2 root-to).2) in (t.1, t.2)

    rest-rows : Rows root rest
    rest-rows = (each-parts [] f rest (rw one-behind at (each-parts r1 e r2 root-rows).2)).2

    tree-two : Tree (ent e ∷ ent f ∷ ents rest) (state (leaf_of w) (base_of w))
    tree-two = rw (none_before, one-behind) at tree

    old-two : all_records (pages w) ≡ contents (ent e ∷ ent f ∷ ents rest) (state (leaf_of w) (base_of w))
    old-two = rw (none_before, one-behind) at old

    over-f : key < key_of f
    over-f = rw one-behind at over_root

    c-ents : base_of w c ≡ ents (entries (page c w))
    c-ents = base-at w c f-to.0.0 f-to.0.1

    apart : c ≢ b
    apart k =
        let a = none-behind entry_key (base_of w) [] (ent e) (ent f ∷ ents rest) tree-two.upper in
        let d = rw (eq-eqb c b k) at a in omega (arith, d)

    some_next : 1 ≤ length (entries (page c w))
    some_next =
        length-full (entries (page c w))
        (sym (full-ents (entries (page c w))) ∙ ap full (sym c-ents) ∙ own-full entry_key (base_of w) (ent e ∷ []) (ent f) (ents rest) tree-two.upper)

    c-base : is_base (page c w) ≡ true
    c-base =
        ⊎_elim
        (λ (h : is_empty (page c w) ≡ true). absurd (let z : length (entries (page c w)) ≡ 0 = ap length (empty-none (page c w) 8 h) in omega (arith, some_next)))
        (λ (h : is_base (page c w) ≡ true). h)
        (base-place c (page c w) f-to.0.0 f-to.0.1 (sound-page c w (sound w tidy) (omega (arith, f-to.0))))

    abbrev sc : List ℕ
    sc = spare (page c w)

    sc-zero : sc ≡ zeroes 8
    sc-zero = spare_of base (page c w) (base-shaped (page c w) c-base)

    e-small : key_of e < 4294967296
    e-small = key-small e (each-parts r1 e r2 root-rows).1.bytes

    c-small : c < 65536
    c-small = omega (arith, f-to.0)

    abbrev tops : List (List ℕ)
    tops = entry (key_of e) c ∷ rest

    tops-ents : ents tops ≡ record { key = key_of e; page = c } ∷ ents rest
    tops-ents = ap (λ (z : Entry). z ∷ ents rest) (ent-entry (key_of e) c e-small c-small)

    tops-to : To first_base last_base tops
    tops-to = Each.cons {r = entry (key_of e) c} (rw (to-entry (key_of e) c c-small) f-to.0) f-to.1

    module _ (y : List ℕ) (ys : List (List ℕ)) (next-is : entries (page c w) ≡ y ∷ ys) where
      next : base_of w c ≡ ent y ∷ ents ys
      next = c-ents ∙ ap ents next-is

      c-rows : Rows base ys
      c-rows = (each-parts [] y ys (rw next-is at (page-rows base (page c w) (base-fill (page c w) c-base) (bytes-page c w tidy.bytes)))).2

      c-to : Leafy (to_page y) × To first_leaf last_leaf ys
      c-to =
          let t = each-parts [] y ys
          (rw next-is at (pointing-each first_leaf last_leaf (entries (page c w)) (base-into w (sound w tidy) c f-to.0.0 f-to.0.1))) in
          (t.1, t.2)

      y-small : to_page y < 65536
      y-small = omega (arith, c-to.0)

      abbrev heirs : List (List ℕ)
      heirs = entry (key_of e) (to_page y) ∷ ys

      heirs-ents : ents heirs ≡ record { key = key_of e; page = to_page y } ∷ ents ys
      heirs-ents = ap (λ (z : Entry). z ∷ ents ys) (ent-entry (key_of e) (to_page y) e-small y-small)

      heirs-to : To first_leaf last_leaf heirs
      heirs-to = Each.cons {r = entry (key_of e) (to_page y)} (rw (to-entry (key_of e) (to_page y) y-small) c-to.0) c-to.1

      abbrev moved : ℕ → List Entry
      moved = upd (upd (base_of w) c (ents heirs)) b []

      tree-low : Tree (ents tops) (state bare moved)
      tree-low =
          rw (tops-ents, heirs-ents)
          (lowered-tree (leaf_of w) (base_of w) (ent e) (ent f) (ents rest) tree-two key over-f (ent x) here (ent y) (ents ys) next low gone)

      contents-low : contents (ents tops) (state bare moved) ≡ new
      contents-low =
          ap₂ (λ (t h : List Entry). contents t (state bare (upd (upd (base_of w) c h) b []))) tops-ents heirs-ents
          ∙ lowered-contents (leaf_of w) (base_of w) (ent e) (ent f) (ents rest) tree-two key over-f (ent x) here (ent y) (ents ys) next low gone
          ∙ ap (without_key key) (sym old-two)

      tops-holds : Holds root tops
      tops-holds =
          let l : length r2 ≡ suc (length rest) = ap length one-behind in
          record {
            each = Each.cons (row-entry (key_of e) c e-small c-small) rest-rows;
            order = keys-order tops (keys-ascend entry_key moved 0 (ents tops) tree-low.upper.ascends);
            enough = omega arith;
            room = omega (arith, most-root);
          }

      heirs-holds : Holds base heirs
      heirs-holds =
          let l : length (entries (page c w)) ≡ suc (length ys) = ap length next-is in
          record {
            each = Each.cons (row-entry (key_of e) (to_page y) e-small y-small) c-rows;
            order = keys-order heirs
                (page-order entry_key moved (ents tops) tree-low.upper c (ents heirs)
                (upd-off (upd (base_of w) c (ents heirs)) b [] c apart ∙ upd-at (base_of w) c (ents heirs)));
            enough = omega arith;
            room = omega (arith, (base-fill (page c w) c-base).room);
          }

      drop-lowered : Saves n
          (in_order (sheet 0 root.sign sr tops ∷ sheet b empty.sign (zeroes 8) [] ∷ sheet p empty.sign (zeroes 8) []
          ∷ sheet c base.sign sc heirs ∷ [])) w new
      drop-lowered =
          let s1 = lay-base n small w start c tt sc heirs f-to.0 sc-zero heirs-holds heirs-to in
          let s2 = lay-gone-leaf n small w s1 p (λ k. omega (arith, f-to.0, leafy, k), tt) leafy in
          let s3 = lay-gone-base n small w s2 b (λ k. omega (arith, basic, leafy, k), (apart, tt)) basic in
          saves-order n w tidy.whole new (ents tops) bare moved tree-low contents-low (sheet 0 root.sign sr tops)
          (sheet b empty.sign (zeroes 8) [] ∷ sheet p empty.sign (zeroes 8) [] ∷ sheet c base.sign sc heirs ∷ [])
          (lay-root n small w s3
          (λ k. omega (arith, basic, k), (λ k. omega (arith, leafy, k), (λ k. omega (arith, f-to.0, k), tt))) sr tops sr-zero tops-holds tops-to)

    lowered-some : (k : ℕ) (y : List ℕ) (ys : List (List ℕ)) → lowered k (y ∷ ys) ≡ entry k (to_page y) ∷ ys
    unfolding lowered
    lowered-some k y ys = refl

    pub drop-right : Saves n
        (in_order (sheet 0 root.sign (spare (page 0 w)) (entry (key_of e) (to_page f) ∷ rest) ∷ sheet b empty.sign (zeroes 8) []
        ∷ sheet p empty.sign (zeroes 8) []
        ∷ sheet (to_page f) base.sign (spare (page (to_page f) w)) (lowered (key_of e) (entries (page (to_page f) w))) ∷ [])) w new
    drop-right = by_next (entries (page c w)) refl
      where
        by_next : (es : List (List ℕ)) → entries (page c w) ≡ es
            → Saves n
            (in_order (sheet 0 root.sign sr tops ∷ sheet b empty.sign (zeroes 8) [] ∷ sheet p empty.sign (zeroes 8) []
            ∷ sheet c base.sign sc (lowered (key_of e) (entries (page c w))) ∷ [])) w new
        by_next [] m = absurd (omega (arith, some_next, ap length m))
        by_next (y ∷ ys) m = rw (m, lowered-some (key_of e) y ys) (drop-lowered y ys m)
