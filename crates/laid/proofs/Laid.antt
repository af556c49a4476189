-- The law of build's layout, document 01: records in order, laid out with leaf fill f and base fill g, are 64 pages in form, all with
-- number 0, that hold a well-formed tree of exactly these records. Assumes nothing.
use Prim.Native.Nat.{ℕ, ◌*◌, ◌≤◌, ◌<◌}
use native.Mathlib.Omega.{arith}
use mathlib.Core.Path.{◌≡◌, ap, ◌∙◌}
use mathlib.Core.Bool.{true}
use mathlib.Core.List.{List, []}
use lib.ListN.{length, get_or}
use Rattle.field.specs.Bytes.{Bytes}
use Rattle.page.specs.Page.{root, base, leaf, empty, base_pages, first_leaf, last_leaf, leaf_pages, joined, ascend_records, number}
use Rattle.page.specs.Places.{Leafy, place, base_place}
use Rattle.page.specs.Pages.{page, pages, all_formed}
use Rattle.page.specs.Each.{Each, nil, Long}
use Rattle.page.proofs.Rows.{each_at, length-joined, bytes-joined}
use Rattle.page.proofs.Places.{base-place-in, place_in}
use Rattle.page.proofs.Pages.{get_or-pages}
use Rattle.tree.specs.Tree.{well_formed, all_records}
use Rattle.tree.specs.Layout.{entries_to, from_zero, leaf_groups, base_groups, layout}
use Rattle.laid.proofs.Groups.{flat, Sized, flat-groups, sized-groups, each-group, pointing-group, group-fill}
use Rattle.laid.proofs.Heads.{Heads, Paged, heads-from, heads-zero, heads-length, heads-long, heads-bytes, heads-ascend, heads-pointing}
use Rattle.laid.proofs.Under.{zero-first, from-starts, from-headed}
use Rattle.laid.proofs.Sheet.{sheet, layout-sheet, each-sheet, length-sheet, pages-sheet}
use Rattle.laid.proofs.Form.{Parts, fresh-bytes, sheet-whole, sheet-stamps, sheet-formed, sheet-records, sheet-well}

-- 64 pages of bytes, in form and with number 0, that hold a well-formed tree of the records rs
pub record Laid (w : List ℕ) (rs : List (List ℕ)) : Type 0 where
  pub whole : length w ≡ 16384
  pub bytes : Bytes w
  pub form : all_formed 0 (pages w) ≡ true
  pub tree : well_formed (pages w) ≡ true
  pub holds : all_records (pages w) ≡ rs
  pub stamps : (p : ℕ) → p < 64 → number (page p w) ≡ 0

-- ---- the pages of a tree whose parts fit together, side by side

module _ (es level : List (List ℕ)) (bs ls : List (List (List ℕ))) (t : Parts es level bs ls) (upper : Each Bytes (flat bs)) (lower : Each Bytes (flat ls)) where
  -- every page is made of bytes
  sheet-bytes : Each Bytes (sheet es bs ls)
  sheet-bytes =
      each-sheet es bs ls (fresh-bytes root es (omega arith) (heads-bytes t.upper))
      (λ i h. fresh-bytes base (get_or bs i []) (omega arith) (each-group i bs upper h))
      (λ i h. fresh-bytes leaf (get_or ls i []) (omega arith) (each-group i ls lower h))
      (fresh-bytes empty [] (omega arith) nil)

  -- joined, the pages are as they should be
  laid-joined : Laid (joined (sheet es bs ls)) (flat ls)
  laid-joined =
      let ps : List (List ℕ) = sheet es bs ls in
      let long : Each (Long 256) ps = sheet-whole es level bs ls t in
      let n : length ps ≡ 64 = length-sheet es bs ls t.seven t.most in
      let e : pages (joined ps) ≡ ps = pages-sheet es bs ls t.seven t.most long in
      record {
        whole = length-joined 256 ps long ∙ ap (λ (x : ℕ). 256 * x) n;
        bytes = bytes-joined ps sheet-bytes;
        form = rw e (sheet-formed es level bs ls t);
        tree = rw e (sheet-well es level bs ls t);
        holds = rw e (sheet-records es level bs ls t);
        stamps = λ p h. rw (← (get_or-pages p (joined ps) h), e) (each_at p (sheet-stamps es level bs ls t) (omega arith));
      }

-- ---- build's layout

module _ (f g : ℕ) (rs : List (List ℕ)) (some-rows : 1 ≤ g) where
  -- each group of entries has one, and at most g
  base-sized : Sized g (base_groups f g rs)
  unfolding base_groups
  base-sized = sized-groups (length (leaf_groups f rs)) g (from_zero (entries_to place 0 (leaf_groups f rs))) some-rows

  -- and they are the entries to the leaves
  base-flat : length (from_zero (entries_to place 0 (leaf_groups f rs))) ≡ length (leaf_groups f rs)
      → flat (base_groups f g rs) ≡ from_zero (entries_to place 0 (leaf_groups f rs))
  unfolding base_groups
  base-flat e = flat-groups (length (leaf_groups f rs)) g (from_zero (entries_to place 0 (leaf_groups f rs))) some-rows (omega arith)

-- build's layout is a well-formed tree of the records, wherever the pages suffice
pub layout-laws : (f g : ℕ) (rs : List (List ℕ)) → 1 ≤ f → f ≤ 15 → 1 ≤ g → g ≤ 30 → Each (Long 16) rs → Each Bytes rs
    → ascend_records 0 rs ≡ true → length (leaf_groups f rs) ≤ leaf_pages → length (base_groups f g rs) ≤ base_pages
    → Laid (layout f g rs) rs
layout-laws f g rs f1 f15 g1 g30 long bytes order most seven =
    let ls : List (List (List ℕ)) = leaf_groups f rs in
    let level : List (List ℕ) = from_zero (entries_to place 0 ls) in
    let bs : List (List (List ℕ)) = base_groups f g rs in
    let es : List (List ℕ) = entries_to base_place 0 bs in
    let sl : Sized f ls = unfold leaf_groups in sized-groups (length rs) f rs f1 in
    let fl : flat ls ≡ rs = unfold leaf_groups in flat-groups (length rs) f rs f1 (omega arith) in
    let bl : Each Bytes (flat ls) = rw fl bytes in
    let on-leaves : Paged place 0 (length ls) Leafy = λ k h l. place_in k (omega arith) in
    let small : Paged place 0 (length ls) (λ p. p < 65536) = λ k h l. omega (arith, on-leaves k h l) in
    let lower : Heads 114 99 place 0 0 level ls =
    heads-zero 114 99 0 place 0 (entries_to place 0 ls) ls (heads-from 114 99 f 0 place 0 ls sl bl (rw fl order) small) (omega (arith, place_in 0 (omega arith))) in
    let sb : Sized g bs = base-sized f g rs g1 in
    let fb : flat bs ≡ level = base-flat f g rs g1 (heads-length lower) in
    let bb : Each Bytes (flat bs) = rw fb (heads-bytes lower) in
    let low : Paged base_place 0 (length bs) (λ p. p < 65536) = λ k h l. omega (arith, base-place-in k (omega arith)) in
    let upper : Heads 101 110 base_place 0 0 es bs = heads-from 101 110 g 0 base_place 0 bs sb bb (rw fb (heads-ascend lower)) low in
    let t : Parts es level bs ls =
    record {
      seven = seven;
      most = most;
      upper = upper;
      lower = lower;
      grouped = fb;
      bases = λ i h. group-fill base g i bs (omega arith) (omega arith) sb (rw fb (heads-long lower)) (rw fb (heads-ascend lower)) h;
      pointed = λ i h. pointing-group first_leaf last_leaf i bs (rw fb (heads-pointing first_leaf last_leaf lower on-leaves)) h;
      leaves = λ i h. group-fill leaf f i ls (omega arith) (omega arith) sl (rw fl long) (rw fl order) h;
      starts = from-starts base_place 0 g bs sb (rw fb (zero-first (entries_to place 0 ls)));
      heads = λ ps h. from-headed base_place 0 g ps bs sb bb low h;
    } in
    rw (layout-sheet f g rs) (rw fl at (laid-joined es level bs ls t bb bl))
