-- A put over the bytes: whatever sheets `put_sheets` gives on tidy pages, laid in place they leave tidy pages with the record at its key.
-- Assumes nothing.
use Prim.Native.Nat.{ℕ, suc, ◌+◌, ◌-◌, ◌≤◌, ◌<◌}
use native.Mathlib.Omega.{arith}
use mathlib.Core.Path.{◌≡◌, refl, sym, ap, ◌∙◌, subst}
use mathlib.Core.Logic.{◌≢◌}
use mathlib.Core.Bool.{Bool, true, false}
use mathlib.Core.List.{List, [], ◌∷◌, ◌++◌, map-append}
use borrow.Author.Tests.{leb-true, leb-false, ltb-true, eq-eqb, ne_eqb}
use lib.Dec.{eqb, leb, ltb}
use lib.ListN.{length, take, drop, get_or, length-append, length-drop, take-append-drop}
use lib.Seq.{drop-cons, length-take-le}
use Rattle.field.specs.Test.{both, pick, need}
use Rattle.field.specs.Bytes.{zeroes, most4}
use Rattle.field.proofs.Test.{both-1, both-2, pick_true, pick-false}
use Rattle.page.specs.Page.{root, base, leaf, first_base, first_leaf, last_leaf, key_of, to_page, entry, spare, entries, records}
use Rattle.page.specs.Pages.{page, pages}
use Rattle.page.specs.Each.{Each}
use Rattle.page.proofs.Rows.{each_append, each_take, each-drop, each_at}
use Rattle.page.proofs.Made.{spare_of}
use Rattle.page.proofs.Region.{base-shaped, leaf-shaped, leaf-fill}
use Rattle.page.proofs.Pages.{get_or-pages}
use Rattle.tree.specs.Tree.{all_records, root_entries}
use Rattle.tree.proofs.Groups.{to-entry}
use Rattle.tree.proofs.Between.{key-small}
use Rattle.saving.specs.Save.{with_record, Sheet, sheet, in_order, cannot, sheets, nowhere, free_leaf, put_first, split_leaf, put_into, base_for, leaf_for, put_sheets}
use Rattle.tidy.specs.Tidy.{Tidy}
use Rattle.tidy.proofs.Model.{Entry, full, beneath, upd, entry_key, state, Tree, contents}
use Rattle.tidy.proofs.Entries.{ent, ents}
use Rattle.tidy.proofs.Pages.{leaf_of, base_of}
use Rattle.tidy.proofs.Tests.{full-length}
use Rattle.tidy.proofs.Below.{root_is}
use Rattle.tidy.proofs.Known.{sound}
use Rattle.saved.specs.Saved.{RowOf, Saves, PutSaves}
use Rattle.saved.proofs.Refill.{upd-at, upd-off}
use Rattle.saved.proofs.Grown.{full-with, put-tree, put-contents, split-tree, split-contents}
use Rattle.saved.proofs.Marked.{Rows, Holds, length-full, each-parts, each-with, length-with, ent-entry, row-entry, To, keys-order, page-order}
use Rattle.saved.proofs.Lay.{Lays, lay-none, lay-leaf, lay-base}
use Rattle.saved.proofs.Way.{Way, way}
use Rattle.saved.proofs.Saves.{Free, free-leaf, given-one, given-past, saves-rising, saves-order}
use Rattle.saved.proofs.First.{put_first_lem}

-- ---- into a tree that has records

module _ (w : List ℕ) (tidy : Tidy w) (r : List ℕ) (row : RowOf leaf r) (n : ℕ) (small : n ≤ most4) (g : Way w (key_of r)) where
  open g use {r1, e, r2, b1, x, b2, base-parts, base-is, leaf-is, base-rows, leaf-rows, base-to, basic, leafy, top-is, tree, is, leaf-recs}
  open g use {low, over-base, over_root, old}

  abbrev b : ℕ
  b = to_page e

  abbrev p : ℕ
  p = to_page x

  abbrev top : List Entry
  top = ents r1 ++ ent e ∷ ents r2

  -- the leaf's records with the new one, and all records
  abbrev rs : List (List ℕ)
  rs = with_record r (records (page p w))

  abbrev new : List (List ℕ)
  new = with_record r (all_records (pages w))

  rs-rows : Rows leaf rs
  rs-rows = each-with r (records (page p w)) row leaf-rows

  most-recs : length rs ≤ leaf.most + 1
  most-recs = omega (arith, length-with r (records (page p w)), (leaf-fill (page p w) leaf-is).room)

  abbrev sp : List ℕ
  sp = spare (page p w)

  sp-zero : sp ≡ zeroes 8
  sp-zero = spare_of leaf (page p w) (leaf-shaped (page p w) leaf-is)

  start : Lays n [] w top (leaf_of w) (base_of w)
  start = lay-none n w top (sound w tidy) top-is

  -- ---- with room

  abbrev grown : ℕ → List (List ℕ)
  grown = upd (leaf_of w) p rs

  room-tree : Tree top (state grown (base_of w))
  room-tree =
      rw leaf-recs at
      (put-tree (leaf_of w) (base_of w) (ents r1) (ent e) (ents r2) tree (ents b1) (ent x) (ents b2) is r low over-base over_root)

  room-contents : contents top (state grown (base_of w)) ≡ new
  room-contents =
      (rw leaf-recs at
      (put-contents (leaf_of w) (base_of w) (ents r1) (ent e) (ents r2) tree (ents b1) (ent x) (ents b2) is r low over-base over_root))
      ∙ ap (with_record r) (sym old)

  room-holds : length rs ≤ leaf.most → Holds leaf rs
  room-holds h =
      record {
        each = rs-rows;
        order = page-order key_of grown (beneath (base_of w) top) room-tree.lower p rs (upd-at (leaf_of w) p rs);
        enough = length-full rs (full-with r (records (page p w)));
        room = h;
      }

  put-room : length rs ≤ leaf.most → Saves n (sheet p leaf.sign sp rs ∷ []) w new
  put-room h =
      saves-rising n w tidy.whole new top grown (base_of w) room-tree room-contents (sheet p leaf.sign sp rs ∷ [])
      (omega arith, omega (arith, leafy), tt) (omega arith) (lay-leaf n small w start p tt sp rs leafy sp-zero (room-holds h))

  -- ---- without room: the upper half goes to the free page

  module _ (many : leaf.most < length rs) (q : ℕ) (free : Free q w)
      (few : length (b1 ++ (x ∷ entry (key_of (get_or rs 8 [])) q ∷ b2)) ≤ base.most) where
    -- the smallest record that goes
    abbrev y : List ℕ
    y = get_or rs 8 []

    abbrev lows : List (List ℕ)
    lows = take 8 rs

    abbrev highs : List (List ℕ)
    highs = drop 8 rs

    high_is : drop 8 rs ≡ y ∷ drop 9 rs
    high_is = drop-cons rs 8 [] (omega arith)

    two : with_record r (leaf_of w p) ≡ take 8 rs ++ y ∷ drop 9 rs
    two = ap (with_record r) leaf-recs ∙ sym (take-append-drop 8 rs) ∙ ap (λ (l : List (List ℕ)). take 8 rs ++ l) high_is

    long-low : length lows ≡ 8
    long-low = length-take-le 8 rs (omega arith)

    long-high : length highs ≡ 8
    long-high = let a : length highs ≡ length rs - 8 = length-drop 8 rs in omega (arith, most-recs)

    some-low : full lows ≡ 1
    some-low = full-length lows (omega (arith, long-low))

    y-small : key_of y < 4294967296
    y-small = key-small y (each_at 8 rs-rows (omega arith)).bytes

    q-small : q < 65536
    q-small = omega (arith, free.leafy)

    abbrev wider : List (List ℕ)
    wider = b1 ++ (x ∷ entry (key_of y) q ∷ b2)

    wider-ents : ents wider ≡ ents b1 ++ ent x ∷ record { key = key_of y; page = q } ∷ ents b2
    wider-ents =
        map-append ent b1 (x ∷ entry (key_of y) q ∷ b2)
        ∙ ap (λ (z : Entry). ents b1 ++ ent x ∷ z ∷ ents b2) (ent-entry (key_of y) q y-small q-small)

    abbrev split-leaf : ℕ → List (List ℕ)
    split-leaf = upd (upd (leaf_of w) q highs) p lows

    abbrev split-base : ℕ → List Entry
    split-base = upd (base_of w) b (ents wider)

    the-tree : Tree top (state split-leaf split-base)
    the-tree =
        subst (λ (h : List (List ℕ)). Tree top (state (upd (upd (leaf_of w) q h) p lows) split-base)) (sym high_is)
        (rw wider-ents
        (split-tree (leaf_of w) (base_of w) (ents r1) (ent e) (ents r2) tree (ents b1) (ent x) (ents b2) is r low over-base over_root q free.none
        (take 8 rs) y (drop 9 rs) two some-low))

    the-contents : contents top (state split-leaf split-base) ≡ new
    the-contents =
        subst (λ (h : List (List ℕ)). contents top (state (upd (upd (leaf_of w) q h) p lows) split-base) ≡ new) (sym high_is)
        (rw wider-ents
        (split-contents (leaf_of w) (base_of w) (ents r1) (ent e) (ents r2) tree (ents b1) (ent x) (ents b2) is r low over-base over_root q
        free.none (take 8 rs) y (drop 9 rs) two some-low)
        ∙ ap (with_record r) (sym old))

    apart : q ≢ p
    apart c =
        let z : full (leaf_of w p) ≡ 0 = ap (λ (i : ℕ). full (leaf_of w i)) (sym c) ∙ ap full free.none in
        let s : full (leaf_of w p) ≡ 1 = ap full leaf-recs ∙ full-length (records (page p w)) (leaf-fill (page p w) leaf-is).enough in
        omega arith

    low-holds : Holds leaf lows
    low-holds =
        record {
          each = each_take 8 rs-rows;
          order = page-order key_of split-leaf (beneath split-base top) the-tree.lower p lows (upd-at (upd (leaf_of w) q highs) p lows);
          enough = omega (arith, long-low);
          room = omega (arith, long-low);
        }

    high-holds : Holds leaf highs
    high-holds =
        record {
          each = each-drop 8 rs-rows;
          order = page-order key_of split-leaf (beneath split-base top) the-tree.lower q highs
              (upd-off (upd (leaf_of w) q highs) p lows q apart ∙ upd-at (leaf_of w) q highs);
          enough = omega (arith, long-high);
          room = omega (arith, long-high);
        }

    wide-holds : Holds base wider
    wide-holds =
        let h = each-parts b1 x b2 base-rows in
        let l : length wider ≡ length b1 + length (x ∷ entry (key_of y) q ∷ b2) = length-append b1 (x ∷ entry (key_of y) q ∷ b2) in
        record {
          each = each_append h.0 (Each.cons h.1 (Each.cons (row-entry (key_of y) q y-small q-small) h.2));
          order = keys-order wider (page-order entry_key split-base top the-tree.upper b (ents wider) (upd-at (base_of w) b (ents wider)));
          enough = omega arith;
          room = few;
        }

    wide-to : To first_leaf last_leaf wider
    wide-to =
        let h = each-parts b1 x b2 base-to in
        each_append h.0
        (Each.cons {r = x} h.1 (Each.cons {r = entry (key_of y) q} (rw (to-entry (key_of y) q q-small) free.leafy) h.2))

    abbrev sb : List ℕ
    sb = spare (page b w)

    sb-zero : sb ≡ zeroes 8
    sb-zero = spare_of base (page b w) (base-shaped (page b w) base-is)

    put-split : Saves n (in_order (sheet b base.sign sb wider ∷ sheet p leaf.sign sp lows ∷ sheet q leaf.sign (zeroes 8) highs ∷ [])) w new
    put-split =
        let s1 = lay-leaf n small w start q tt (zeroes 8) highs free.leafy refl high-holds in
        let s2 = lay-leaf n small w s1 p (apart, tt) sp lows leafy sp-zero low-holds in
        saves-order n w tidy.whole new top split-leaf split-base the-tree the-contents (sheet b base.sign sb wider)
        (sheet p leaf.sign sp lows ∷ sheet q leaf.sign (zeroes 8) highs ∷ [])
        (lay-base n small w s2 b (λ c. omega (arith, basic, leafy, c), (λ c. omega (arith, basic, free.leafy, c), tt)) sb wider basic sb-zero
        wide-holds wide-to)

  -- ---- what the definition gives

  abbrev at-free : ℕ
  at-free = free_leaf (pages w)

  abbrev widest : List (List ℕ)
  widest = b1 ++ (x ∷ entry (key_of (get_or rs 8 [])) at-free ∷ b2)

  abbrev one : List Sheet
  one = sheet p leaf.sign sp rs ∷ []

  abbrev three : List Sheet
  three =
      in_order (sheet b base.sign (spare (page b w)) widest ∷ sheet p leaf.sign sp (take 8 rs)
      ∷ sheet at-free leaf.sign (zeroes 8) (drop 8 rs) ∷ [])

  into-is : put_into r (base_for (key_of r) (pages w)) (leaf_for (key_of r) (pages w)) (pages w)
      ≡ pick (leb (length rs) leaf.most) (sheets one)
      (need (both (leb (length widest) base.most) (ltb at-free nowhere)) (cannot 18) (sheets three))
  unfolding put_into split_leaf
  into-is =
      rw (
        g.base-named,
        g.leaf-named,
        get_or-pages p w (omega (arith, leafy)),
        get_or-pages b w (omega (arith, basic)),
        base-parts.0,
        base-parts.1,
        base-parts.2,
      )

  put-into : (xs : List Sheet) → put_into r (base_for (key_of r) (pages w)) (leaf_for (key_of r) (pages w)) (pages w) ≡ sheets xs
      → Saves n xs w (with_record r (all_records (pages w)))
  put-into xs c = by-room (leb (length rs) leaf.most) refl (sym into-is ∙ c)
    where
      by-room : (t : Bool) → leb (length rs) leaf.most ≡ t
          → pick t (sheets one) (need (both (leb (length widest) base.most) (ltb at-free nowhere)) (cannot 18) (sheets three)) ≡ sheets xs
          → Saves n xs w new
      by-room true h d = rw (← given-one one xs (unfold pick in d)) (put-room (leb-true (length rs) leaf.most h))
      by-room false h d =
          let k = given-past (both (leb (length widest) base.most) (ltb at-free nowhere)) 18 (sheets three) xs (unfold pick in d) in
          rw (← given-one three xs k.1)
          (put-split (leb-false (length rs) leaf.most h) at-free (free-leaf w tidy (ltb-true at-free nowhere (both-2 _ _ k.0)))
          (leb-true (length widest) base.most (both-1 _ _ k.0)))

-- ---- by whether the root has entries

none_first : (r : List ℕ) (ps : List (List ℕ)) → root_entries ps ≡ [] → put_sheets r ps ≡ put_first r ps
unfolding put_sheets
none_first r ps h = pick_true (eqb (length (root_entries ps)) 0) (put_first r ps) _ (eq-eqb (length (root_entries ps)) 0 (ap length h))

some_first : (r : List ℕ) (ps : List (List ℕ)) (z : List ℕ) (es : List (List ℕ)) → root_entries ps ≡ z ∷ es
    → put_sheets r ps ≡ put_into r (base_for (key_of r) ps) (leaf_for (key_of r) ps) ps
unfolding put_sheets
some_first r ps z es h =
    pick-false (eqb (length (root_entries ps)) 0) _ (put_into r (base_for (key_of r) ps) (leaf_for (key_of r) ps) ps)
    (ne_eqb (length (root_entries ps)) 0 (λ c. let k : length (root_entries ps) ≡ suc (length es) = ap length h in omega arith))

first-is : (w : List ℕ) (r : List ℕ)
    → put_first r (pages w)
    ≡ need (ltb (free_leaf (pages w)) nowhere) (cannot 18)
    (sheets
    (sheet 0 root.sign (spare (page 0 w)) (entry 0 first_base ∷ []) ∷ sheet first_base base.sign (zeroes 8) (entry 0 (free_leaf (pages w)) ∷ [])
    ∷ sheet (free_leaf (pages w)) leaf.sign (zeroes 8) (r ∷ []) ∷ []))
unfolding put_first
first-is w r = rw (get_or-pages 0 w (omega arith))

pub put-saves : PutSaves
put-saves w tidy r row n small xs c = by-root (entries (page 0 w)) refl
  where
    named : root_entries (pages w) ≡ entries (page 0 w)
    named = root_is w (sound w tidy)

    by-root : (es : List (List ℕ)) → entries (page 0 w) ≡ es → Saves n xs w (with_record r (all_records (pages w)))
    by-root [] h =
        let d : put_first r (pages w) ≡ sheets xs = sym (none_first r (pages w) (named ∙ h)) ∙ c in
        let k = given-past (ltb (free_leaf (pages w)) nowhere) 18 _ xs (sym (first-is w r) ∙ d) in
        rw (← given-one _ xs k.1)
        (put_first_lem w tidy r row n small h (free_leaf (pages w)) (free-leaf w tidy (ltb-true (free_leaf (pages w)) nowhere k.0)))
    by-root (z ∷ es) h =
        let k : length (entries (page 0 w)) ≡ suc (length es) = ap length h in
        put-into w tidy r row n small (way w tidy (key_of r) (omega arith)) xs (sym (some_first r (pages w) z es (named ∙ h)) ∙ c)
