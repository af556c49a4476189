-- A delete over the bytes whose base page keeps an entry: the leaf keeps a record, or it becomes empty and its range joins the entry before it,
-- else the one behind it. Assumes nothing.
use Prim.Native.Nat.{ℕ, suc, ◌+◌, ◌≤◌, ◌<◌}
use native.Mathlib.Omega.{arith}
use mathlib.Core.Path.{◌≡◌, sym, ap, ◌∙◌}
use mathlib.Core.List.{List, [], ◌∷◌, ◌++◌, map-append}
use lib.ListN.{length, length-append}
use Rattle.field.specs.Bytes.{zeroes, most4}
use Rattle.page.specs.Page.{base, leaf, empty, first_leaf, last_leaf, key_of, to_page, entry, spare, entries, records}
use Rattle.page.specs.Pages.{page, pages}
use Rattle.page.specs.Places.{Leafy}
use Rattle.page.specs.Each.{Each}
use Rattle.page.proofs.Rows.{each_append}
use Rattle.page.proofs.Made.{spare_of}
use Rattle.page.proofs.Region.{base-shaped, leaf-shaped, base-fill, leaf-fill}
use Rattle.tree.specs.Tree.{all_records}
use Rattle.tree.proofs.Groups.{to-entry}
use Rattle.tree.proofs.Between.{key-small}
use Rattle.saving.specs.Save.{without_key, sheet, in_order}
use Rattle.tidy.specs.Tidy.{Tidy}
use Rattle.tidy.proofs.Model.{Entry, full, beneath, upd, entry_key, state, Tree, contents}
use Rattle.tidy.proofs.Entries.{ent, ents}
use Rattle.tidy.proofs.Pages.{leaf_of, base_of}
use Rattle.tidy.proofs.Tests.{full-length, full-ents}
use Rattle.tidy.proofs.Known.{sound}
use Rattle.saved.specs.Saved.{Saves}
use Rattle.saved.proofs.Refill.{upd-at}
use Rattle.saved.proofs.Shrunk.{kept-tree, kept-contents, left-tree, left-contents, right-tree, right-contents}
use Rattle.saved.proofs.Marked.{Rows, Holds, each-parts, each-without, length_without, ent-entry, row-entry, To, keys-order, page-order}
use Rattle.saved.proofs.Lay.{Lays, lay-none, lay-leaf, lay-base, lay-gone-leaf}
use Rattle.saved.proofs.Way.{Way}
use Rattle.saved.proofs.Saves.{saves-rising, saves-order}

module _ (w : List ℕ) (tidy : Tidy w) (key n : ℕ) (small : n ≤ most4) (g : Way w key) where
  open g use {r1, e, r2, b1, x, b2, base-is, leaf-is, in-base, base-rows, leaf-rows, base-to, basic, leafy, top-is, tree, is, leaf-recs}
  open g use {low, over-base, over_root, old}

  abbrev b : ℕ
  b = to_page e

  abbrev p : ℕ
  p = to_page x

  abbrev top : List Entry
  top = ents r1 ++ ent e ∷ ents r2

  -- the leaf's records without the key, and all records
  abbrev left : List (List ℕ)
  left = without_key key (records (page p w))

  abbrev new : List (List ℕ)
  new = without_key key (all_records (pages w))

  start : Lays n [] w top (leaf_of w) (base_of w)
  start = lay-none n w top (sound w tidy) top-is

  -- ---- the leaf keeps a record

  module _ (some_left : 1 ≤ length left) where
    abbrev thinner : ℕ → List (List ℕ)
    thinner = upd (leaf_of w) p left

    still : full (without_key key (leaf_of w p)) ≡ 1
    still = ap (λ (l : List (List ℕ)). full (without_key key l)) leaf-recs ∙ full-length left some_left

    thin-tree : Tree top (state thinner (base_of w))
    thin-tree =
        rw leaf-recs at
        (kept-tree (leaf_of w) (base_of w) (ents r1) (ent e) (ents r2) tree key over_root (ents b1) (ent x) (ents b2) is low over-base still)

    thin-contents : contents top (state thinner (base_of w)) ≡ new
    thin-contents =
        (rw leaf-recs at
        (kept-contents (leaf_of w) (base_of w) (ents r1) (ent e) (ents r2) tree key over_root (ents b1) (ent x) (ents b2) is low over-base))
        ∙ ap (without_key key) (sym old)

    thin-holds : Holds leaf left
    thin-holds =
        record {
          each = each-without key (records (page p w)) leaf-rows;
          order = page-order key_of thinner (beneath (base_of w) top) thin-tree.lower p left (upd-at (leaf_of w) p left);
          enough = some_left;
          room = omega (arith, length_without key (records (page p w)), (leaf-fill (page p w) leaf-is).room);
        }

    pub take-kept : Saves n (sheet p leaf.sign (spare (page p w)) left ∷ []) w new
    take-kept =
        saves-rising n w tidy.whole new top thinner (base_of w) thin-tree thin-contents _ (omega arith, omega (arith, leafy), tt) (omega arith)
        (lay-leaf n small w start p tt (spare (page p w)) left leafy (spare_of leaf (page p w) (leaf-shaped (page p w) leaf-is)) thin-holds)

  -- ---- the leaf becomes empty

  module _ (none_left : left ≡ []) where
    pub only : without_key key (leaf_of w p) ≡ []
    only = ap (without_key key) leaf-recs ∙ none_left

    -- its base page keeps the entries es
    module _ (es : List (List ℕ)) (es-rows : Rows base es) (es-to : To first_leaf last_leaf es) (some-es : 1 ≤ length es) (few : length es ≤ base.most)
        (the-tree : Tree top (state (upd (leaf_of w) p []) (upd (base_of w) b (ents es))))
        (the-contents : contents top (state (upd (leaf_of w) p []) (upd (base_of w) b (ents es))) ≡ new) where
      es-holds : Holds base es
      es-holds =
          record {
            each = es-rows;
            order = keys-order es
                (page-order entry_key (upd (base_of w) b (ents es)) top the-tree.upper b (ents es) (upd-at (base_of w) b (ents es)));
            enough = some-es;
            room = few;
          }

      take-empty : Saves n (in_order (sheet b base.sign (spare (page b w)) es ∷ sheet p empty.sign (zeroes 8) [] ∷ [])) w new
      take-empty =
          saves-order n w tidy.whole new top (upd (leaf_of w) p []) (upd (base_of w) b (ents es)) the-tree the-contents
          (sheet b base.sign (spare (page b w)) es) (sheet p empty.sign (zeroes 8) [] ∷ [])
          (lay-base n small w (lay-gone-leaf n small w start p tt leafy) b (λ c. omega (arith, basic, leafy, c), tt) (spare (page b w)) es basic
          (spare_of base (page b w) (base-shaped (page b w) base-is)) es-holds es-to)

    most-entries : length b1 + suc (length b2) ≤ base.most
    most-entries =
        let l : length (entries (page b w)) ≡ length b1 + length (x ∷ b2) = ap length in-base ∙ length-append b1 (x ∷ b2) in
        omega (arith, (base-fill (page b w) base-is).room)

    -- one stands before it
    pub take_left : 1 ≤ length b1
        → Saves n (in_order (sheet b base.sign (spare (page b w)) (b1 ++ b2) ∷ sheet p empty.sign (zeroes 8) [] ∷ [])) w new
    take_left h =
        let q = each-parts b1 x b2 base-rows in
        let t = each-parts b1 x b2 base-to in
        let f : full (ents b1) ≡ 1 = full-ents b1 ∙ full-length b1 h in
        let m : ents (b1 ++ b2) ≡ ents b1 ++ ents b2 = map-append ent b1 b2 in
        let l : length (b1 ++ b2) ≡ length b1 + length b2 = length-append b1 b2 in
        take-empty (b1 ++ b2) (each_append q.0 q.2) (each_append t.0 t.2) (omega arith) (omega (arith, most-entries))
        (rw m (left-tree (leaf_of w) (base_of w) (ents r1) (ent e) (ents r2) tree key over_root (ents b1) (ent x) (ents b2) is low over-base only f))
        (rw m (left-contents (leaf_of w) (base_of w) (ents r1) (ent e) (ents r2) tree key over_root (ents b1) (ent x) (ents b2) is low over-base only)
        ∙ ap (without_key key) (sym old))

    -- none stands before it, one behind it
    pub take-right : (y : List ℕ) (bs : List (List ℕ)) → b1 ≡ [] → b2 ≡ y ∷ bs
        → Saves n
        (in_order (sheet b base.sign (spare (page b w)) (entry (key_of x) (to_page y) ∷ bs) ∷ sheet p empty.sign (zeroes 8) [] ∷ [])) w new
    take-right y bs c d =
        let q = each-parts b1 x b2 base-rows in
        let qs = each-parts [] y bs (rw d at q.2) in
        let ts = each-parts [] y bs (rw d at (each-parts b1 x b2 base-to).2) in
        let to-y : Leafy (to_page y) = ts.1 in
        let ks : key_of x < 4294967296 = key-small x q.1.bytes in
        let ps : to_page y < 65536 = omega (arith, to-y) in
        let here : base_of w b ≡ ent x ∷ ent y ∷ ents bs = rw (c, d) at is in
        let over : key < key_of y = rw d at over-base in
        let m : ents (entry (key_of x) (to_page y) ∷ bs) ≡ record { key = key_of x; page = to_page y } ∷ ents bs =
        ap (λ (z : Entry). z ∷ ents bs) (ent-entry (key_of x) (to_page y) ks ps) in
        let l : length b2 ≡ suc (length bs) = ap length d in
        take-empty (entry (key_of x) (to_page y) ∷ bs) (Each.cons (row-entry (key_of x) (to_page y) ks ps) qs.2)
        (Each.cons {r = entry (key_of x) (to_page y)} (rw (to-entry (key_of x) (to_page y) ps) to-y) ts.2) (omega arith) (omega (arith, most-entries))
        (rw m (right-tree (leaf_of w) (base_of w) (ents r1) (ent e) (ents r2) tree key over_root (ent x) (ent y) (ents bs) here low over only))
        (rw m (right-contents (leaf_of w) (base_of w) (ents r1) (ent e) (ents r2) tree key over_root (ent x) (ent y) (ents bs) here low over only)
        ∙ ap (without_key key) (sym old))
