-- The layout page by page: each page that the code makes is that page of the layout, and 64 of them are the layout. Assumes nothing.
use Prim.Native.Nat.{ℕ, zero, suc, ◌+◌, ◌-◌, ◌*◌, ◌/◌, ◌≤◌, ◌<◌, min}
use native.Mathlib.Nat.{zero-add, mul_comm, mul-le-mul_left, div-le_self}
use native.Mathlib.Omega.{arith}
use mathlib.Core.Path.{◌≡◌, refl, sym, ap, ap₂, ◌∙◌}
use mathlib.Core.Bool.{Bool, false}
use mathlib.Core.List.{List, [], ◌∷◌, ◌++◌, map, append-nil}
use lib.ListN.{length, take, drop, get_or, replicate, length-append, length-take, length-replicate, get_or-replicate, get_or-append}
use lib.Seq.{get_or-append-add}
use lib.Dec.{eqb, leb}
use borrow.Author.Tests.{eq-eqb, ne_eqb, lt-ltb, le-ltb, le-leb, lt-leb}
use Rattle.field.specs.Test.{pick}
use Rattle.field.specs.Bytes.{zeroes, Bytes}
use Rattle.field.proofs.Test.{pick_true, pick-false, pick-either}
use Rattle.field.proofs.Part.{split}
use Rattle.field.proofs.Zero.{length-zeroes}
use Rattle.page.specs.Page.{Kind, root, base, leaf, empty, first_base, last_base, base_pages, first_leaf, leaf_pages, rows_of, joined, made}
use Rattle.page.specs.Places.{place, base_place}
use Rattle.page.specs.Pages.{page, put_page}
use Rattle.page.specs.Each.{Each, nil, Long}
use Rattle.page.proofs.Rows.{long-rows_of, length-joined, joined-append, rows_of-joined, get_or-rows_of}
use Rattle.page.proofs.Made.{length-made}
use Rattle.page.proofs.Pages.{page-put_page-same, page-put_page-other, pages-ext}
use Rattle.tree.specs.Layout.{entries_to, fresh, filled, leaf_groups, base_groups, layout}
use Rattle.tree.specs.Pieces.{pieces, entry_run, Leaves, Buildable, nth, layout_page}
use Rattle.tree.proofs.Sound.{each_of}
use Rattle.tree.proofs.Into.{each-drop}
use Rattle.tree.proofs.Listing.{each_take}
use Rattle.tree.proofs.Groups.{pieces-some, leaf-count, leaf-group, leaf-inside, base-count, base-inside, base-group, root-group, long-run, length_run}

-- ---- build's tests

-- what the counts of leaves and base pages say of the records
pub buildable : (f g : ℕ) (records : List ℕ) → 1 ≤ f → f ≤ 15 → 1 ≤ g → g ≤ 30 → length (leaf_groups f (rows_of 16 (length records / 16) records)) ≤ leaf_pages
    → length (base_groups f g (rows_of 16 (length records / 16) records)) ≤ base_pages → Buildable f g (length records)
buildable f g records a b c d l m = record {
  leaf-least = a;
  leaf-most = b;
  base-least = c;
  base-most = d;
  leaves = rw (← leaf-count f g (length records / 16) records a c) l;
  bases = rw (← base-count f g (length records / 16) records a c) m;
}

pub pieces-few : (n k : ℕ) → 1 ≤ k → pieces n k ≤ n + k
unfolding pieces
pieces-few n k h = omega (arith, div-le_self (n + k - 1) k)

-- ---- a page by its place

pub nth-some : (k : Kind) (gs : List (List (List ℕ))) (i : ℕ) → i < length gs → nth k gs i ≡ fresh k (get_or gs i [])
unfolding nth
nth-some k gs i h = pick_true _ _ _ (lt-ltb i (length gs) h)

pub nth-none : (k : Kind) (gs : List (List (List ℕ))) (i : ℕ) → length gs ≤ i → nth k gs i ≡ fresh empty []
unfolding nth
nth-none k gs i h = pick-false _ _ _ (le-ltb i (length gs) h)

blank-is : made 101 0 (zeroes 8) [] ≡ fresh empty []
unfolding fresh
blank-is = refl

pub small_product : (g j : ℕ) → g ≤ 30 → g * j ≤ 30 * j
small_product g j h = omega (arith, mul-le-mul_left j h, mul_comm j g, mul_comm j 30)

module _ (f g : ℕ) (records : List ℕ) (b : Buildable f g (length records)) where
  abbrev n : ℕ
  n = length records / 16

  abbrev rs : List (List ℕ)
  rs = rows_of 16 (length records / 16) records

  abbrev nl : ℕ
  nl = pieces (length records / 16) f

  pub records-few : length records / 16 ≤ 840
  records-few =
      split (f * leaf_pages) n
      (λ a. absurd (let x : leaf_pages < nl = pieces-some f b.leaf-least n leaf_pages a in let y : ⊥ = omega (arith, b.leaves) in y))
      (λ a. omega (arith, b.leaf-most))

  -- ---- base pages

  pub base-none : (j : ℕ) (r : List ℕ) → pieces (length records / 16) f ≤ g * j → r ≡ made 101 0 (zeroes 8) [] → r ≡ nth base (base_groups f g (rows_of 16 (length records / 16) records)) j
  base-none j r h e =
      let c : length (base_groups f g rs) ≡ pieces nl g = base-count f g n records b.leaf-least b.base-least in
      let k : length (base_groups f g rs) ≤ j =
      split j (length (base_groups f g rs)) (λ a. absurd (let y : g * j < nl = base-inside f g n records b.leaf-least b.base-least j (omega arith) in let z : ⊥ = omega arith in z)) (λ a. a) in
      e ∙ blank-is ∙ sym (nth-none base (base_groups f g rs) j k)

  module _ (j m : ℕ) (h : g * j < pieces (length records / 16) f) (em : m ≡ min g (pieces (length records / 16) f - g * j)) where
    inside : j < pieces nl g
    inside = pieces-some g b.base-least nl j h

    pub base-some : (r : List ℕ) → r ≡ made 98 0 (zeroes 8) (entry_run f records 1 (g * j) (place (g * j)) m) → r ≡ nth base (base_groups f g (rows_of 16 (length records / 16) records)) j
    base-some r e =
        let c : length (base_groups f g rs) ≡ pieces nl g = base-count f g n records b.leaf-least b.base-least in
        e ∙ sym (nth-some base (base_groups f g rs) j (rw c inside) ∙ (unfold fresh in ap (made 98 0 (zeroes 8)) (base-group f g n records b.leaf-least b.base-least j m inside em)))

    pub base-leaves : Leaves (length records) f 1 (g * j) m
    base-leaves = record {
      begin = λ c k.
          let z : g * j + 1 * c ≡ g * j + c = omega arith in
          let i : f * (g * j + c) < n = leaf-inside f g n records b.leaf-least b.base-least (g * j + c) (omega arith) in
          rw z (omega arith);
    }

  -- ---- the root

  pub root-leaves : Leaves (length records) f g 0 (pieces (pieces (length records / 16) f) g)
  root-leaves = record {
    begin = λ c k.
        let i : f * (g * c) < n = leaf-inside f g n records b.leaf-least b.base-least (g * c) (base-inside f g n records b.leaf-least b.base-least c k) in
        rw (zero-add (g * c)) (omega arith);
  }

  module _ (bytes : Bytes records) where
    pub root-page : (p : ℕ) (r : List ℕ) → p ≡ 0 → r ≡ made 114 0 (zeroes 8) (entry_run f records g 0 first_base (pieces (pieces (length records / 16) f) g))
        → r ≡ layout_page f g (rows_of 16 (length records / 16) records) p
    unfolding layout_page fresh
    root-page p r h e = e ∙ sym (pick_true _ _ _ (eq-eqb p 0 h) ∙ ap (made 114 0 (zeroes 8)) (root-group f g n records b.leaf-least b.base-least bytes))

  module _ (p : ℕ) (ne : p ≡ 0 → ⊥) where
    pub base-page : (r : List ℕ) → p ≤ last_base → r ≡ nth base (base_groups f g (rows_of 16 (length records / 16) records)) (p - first_base)
        → r ≡ layout_page f g (rows_of 16 (length records / 16) records) p
    unfolding layout_page
    base-page r h e = e ∙ sym (pick-false _ _ _ (ne_eqb p 0 ne) ∙ pick_true _ _ _ (le-leb p last_base h))

    module _ (low : last_base < p) where
      leaf-place : layout_page f g (rows_of 16 (length records / 16) records) p ≡ nth leaf (leaf_groups f (rows_of 16 (length records / 16) records)) (p - first_leaf)
      unfolding layout_page
      leaf-place = pick-false _ _ _ (ne_eqb p 0 ne) ∙ pick-false _ _ _ (lt-leb p last_base low)

      leaf-number : length (leaf_groups f rs) ≡ nl
      leaf-number = leaf-count f g n records b.leaf-least b.base-least

      pub leaf-page-is : (r : List ℕ) → p - first_leaf < pieces (length records / 16) f
          → r ≡ fresh leaf (take f (drop (f * (p - first_leaf)) (rows_of 16 (length records / 16) records))) → r ≡ layout_page f g (rows_of 16 (length records / 16) records) p
      leaf-page-is r h e =
          e ∙ sym (leaf-place ∙ nth-some leaf (leaf_groups f rs) (p - first_leaf) (rw leaf-number h) ∙ ap (fresh leaf) (leaf-group f g n records b.leaf-least b.base-least (p - first_leaf) h))

      pub empty-page-is : (r : List ℕ) → pieces (length records / 16) f ≤ p - first_leaf → r ≡ made 101 0 (zeroes 8) [] → r ≡ layout_page f g (rows_of 16 (length records / 16) records) p
      empty-page-is r h e = e ∙ blank-is ∙ sym (leaf-place ∙ nth-none leaf (leaf_groups f rs) (p - first_leaf) (rw leaf-number h))

  pub leaf-begins : (i : ℕ) → i < pieces (length records / 16) f → f * i < length records / 16
  leaf-begins i h = leaf-inside f g n records b.leaf-least b.base-least i h

-- ---- pages side by side

joined-cons : (r : List ℕ) (xs : List (List ℕ)) → joined (r ∷ xs) ≡ r ++ joined xs
unfolding joined
joined-cons r xs = refl

fill-at : (k : Kind) (gs : List (List (List ℕ))) (m i : ℕ) → i < length gs + m → get_or (map (fresh k) gs ++ replicate m (fresh empty [])) i [] ≡ nth k gs i
fill-at k [] m i h = get_or-replicate m i (fresh empty []) [] (omega arith) ∙ sym (nth-none k [] i (omega arith))
fill-at k (x ∷ xs) m zero h = sym (nth-some k (x ∷ xs) 0 (omega arith))
fill-at k (x ∷ xs) m (suc i) h =
    fill-at k xs m i (omega arith)
    ∙ split i (length xs)
    (λ a. nth-some k xs i a ∙ sym (nth-some k (x ∷ xs) (suc i) (omega arith)))
    (λ a. nth-none k xs i a ∙ sym (nth-none k (x ∷ xs) (suc i) (omega arith)))

fill-length : (k : Kind) (gs : List (List (List ℕ))) (m : ℕ) → length (map (fresh k) gs ++ replicate m (fresh empty [])) ≡ length gs + m
fill-length k [] m = length-replicate m (fresh empty []) ∙ sym (zero-add m)
fill-length k (x ∷ xs) m = ap suc (fill-length k xs m) ∙ (let e : suc (length xs + m) ≡ suc (length xs) + m = omega arith in e)

either-long : (x y : List ℕ) (t : Bool) → length x ≡ 256 → length y ≡ 256 → length (pick t x y) ≡ 256
either-long x y t p q = pick-either (λ (l : List ℕ). length l ≡ 256) t x y p q

-- a new page is 256 bytes where its rows fit
fresh-long : (k : Kind) (sz : ℕ) (xs : List (List ℕ)) → Each (Long sz) xs → sz * length xs ≤ 240 → length (fresh k xs) ≡ 256
unfolding fresh
fresh-long k sz xs long h = length-made k.sign 0 (zeroes 8) xs (length-zeroes 8) (rw (length-joined sz xs long) h)

module _ (f g : ℕ) (records : List ℕ) (b : Buildable f g (length records)) (bytes : Bytes records) where
  abbrev n' : ℕ
  n' = length records / 16

  abbrev rows' : List (List ℕ)
  rows' = rows_of 16 (length records / 16) records

  abbrev bs : List (List (List ℕ))
  bs = base_groups f g (rows_of 16 (length records / 16) records)

  abbrev ls : List (List (List ℕ))
  ls = leaf_groups f (rows_of 16 (length records / 16) records)

  bases : length bs ≤ base_pages
  bases = rw (base-count f g n' records b.leaf-least b.base-least) b.bases

  leaves : length ls ≤ leaf_pages
  leaves = rw (leaf-count f g n' records b.leaf-least b.base-least) b.leaves

  empty-long : length (fresh empty []) ≡ 256
  empty-long = fresh-long empty 16 [] nil (omega arith)

  base-long : (j : ℕ) → length (nth base bs j) ≡ 256
  base-long j =
      split j (length bs)
      (λ a. let nb : length bs ≡ pieces (pieces n' f) g = base-count f g n' records b.leaf-least b.base-least in
      let h : j < pieces (pieces n' f) g = omega arith in
      let m : ℕ = min g (pieces n' f - g * j) in
      rw (nth-some base bs j a, base-group f g n' records b.leaf-least b.base-least j m h refl)
      (fresh-long base 8 (entry_run f records 1 (g * j) (place (g * j)) m) (long-run f records 1 (g * j) (place (g * j)) m)
      (rw (length_run f records 1 (g * j) (place (g * j)) m) (omega (arith, b.base-most)))))
      (λ a. rw (nth-none base bs j a) empty-long)

  leaf-long : (i : ℕ) → length (nth leaf ls i) ≡ 256
  leaf-long i =
      split i (length ls)
      (λ a. let h : i < pieces n' f = omega (arith, leaf-count f g n' records b.leaf-least b.base-least) in
      let xs : List (List ℕ) = take f (drop (f * i) rows') in
      let long : Each (Long 16) xs = each_take f (drop (f * i) rows') (each-drop (f * i) rows' (long-rows_of 16 n' records (omega arith))) in
      rw (nth-some leaf ls i a, leaf-group f g n' records b.leaf-least b.base-least i h)
      (fresh-long leaf 16 xs long (omega (arith, length-take f (drop (f * i) rows'), b.leaf-most))))
      (λ a. rw (nth-none leaf ls i a) empty-long)

  -- all pages, as a list
  sheets : List (List ℕ)
  sheets =
      fresh root (entries_to base_place 0 bs)
      ∷ ((map (fresh base) bs ++ replicate (base_pages - length bs) (fresh empty [])) ++ (map (fresh leaf) ls ++ replicate (leaf_pages - length ls) (fresh empty [])))

  layout-joined : layout f g rows' ≡ joined sheets
  unfolding layout filled sheets
  layout-joined =
      let ab : List (List ℕ) = map (fresh base) bs in
      let ae : List (List ℕ) = replicate (base_pages - length bs) (fresh empty []) in
      let lb : List (List ℕ) = map (fresh leaf) ls in
      let le : List (List ℕ) = replicate (leaf_pages - length ls) (fresh empty []) in
      let q : joined ((ab ++ ae) ++ (lb ++ le)) ≡ (joined ab ++ joined ae) ++ (joined lb ++ joined le) =
      joined-append (ab ++ ae) (lb ++ le) ∙ ap₂ (λ (x y : List ℕ). x ++ y) (joined-append ab ae) (joined-append lb le) in
      sym (joined-cons (fresh root (entries_to base_place 0 bs)) ((ab ++ ae) ++ (lb ++ le)) ∙ ap (λ (x : List ℕ). fresh root (entries_to base_place 0 bs) ++ x) q)

  length-sheets : length sheets ≡ 64
  unfolding sheets
  length-sheets =
      let la = fill-length base bs (base_pages - length bs) in
      let ll = fill-length leaf ls (leaf_pages - length ls) in
      let lt = length-append (map (fresh base) bs ++ replicate (base_pages - length bs) (fresh empty [])) (map (fresh leaf) ls ++ replicate (leaf_pages - length ls) (fresh empty [])) in
      omega (arith, bases, leaves)

  sheet-at : (q : ℕ) → q < 64 → get_or sheets q [] ≡ layout_page f g rows' q
  unfolding sheets layout_page
  sheet-at zero h = sym (pick_true _ _ _ (eq-eqb 0 0 refl))
  sheet-at (suc i) h =
      let e : length bs + (base_pages - length bs) ≡ base_pages = omega (arith, bases) in
      let la : length (map (fresh base) bs ++ replicate (base_pages - length bs) (fresh empty [])) ≡ base_pages = fill-length base bs (base_pages - length bs) ∙ e in
      let z : eqb (suc i) 0 ≡ false = ne_eqb (suc i) 0 (λ y. omega arith) in
      split i base_pages
      (λ a. let k : suc i - first_base ≡ i = omega arith in
      get_or-append (map (fresh base) bs ++ replicate (base_pages - length bs) (fresh empty [])) (map (fresh leaf) ls ++ replicate (leaf_pages - length ls) (fresh empty [])) [] i (omega arith)
      ∙ fill-at base bs (base_pages - length bs) i (omega (arith, bases))
      ∙ sym (pick-false _ _ _ z ∙ pick_true _ _ _ (le-leb (suc i) last_base (omega arith)) ∙ ap (nth base bs) k))
      (λ a. let d : ℕ = i - base_pages in
      let k : suc i - first_leaf ≡ d = omega arith in
      let e : length (map (fresh base) bs ++ replicate (base_pages - length bs) (fresh empty [])) + d ≡ i = omega arith in
      ap (λ (x : ℕ). get_or ((map (fresh base) bs ++ replicate (base_pages - length bs) (fresh empty [])) ++ (map (fresh leaf) ls ++ replicate (leaf_pages - length ls) (fresh empty []))) x []) (sym e)
      ∙ get_or-append-add (map (fresh base) bs ++ replicate (base_pages - length bs) (fresh empty [])) (map (fresh leaf) ls ++ replicate (leaf_pages - length ls) (fresh empty [])) d []
      ∙ fill-at leaf ls (leaf_pages - length ls) d (omega (arith, leaves))
      ∙ sym (pick-false _ _ _ z ∙ pick-false _ _ _ (lt-leb (suc i) last_base (omega arith)) ∙ ap (nth leaf ls) k))

  pub page-long : (q : ℕ) → length (layout_page f g (rows_of 16 (length records / 16) records) q) ≡ 256
  unfolding layout_page
  page-long q =
      split q 1
      (λ a. let z : q ≡ 0 = omega arith in
      ap length (pick_true _ _ _ (eq-eqb q 0 z) ∙ ap (fresh root) (root-group f g n' records b.leaf-least b.base-least bytes))
      ∙ fresh-long root 8 (entry_run f records g 0 first_base (pieces (pieces n' f) g)) (long-run f records g 0 first_base (pieces (pieces n' f) g))
      (rw (length_run f records g 0 first_base (pieces (pieces n' f) g)) (omega (arith, b.bases))))
      (λ a. ap length (pick-false _ _ _ (ne_eqb q 0 (λ z. omega arith)))
      ∙ either-long (nth base bs (q - first_base)) (nth leaf ls (q - first_leaf)) (leb q last_base) (base-long (q - first_base)) (leaf-long (q - first_leaf)))

  sheets-long : Each (Long 256) sheets
  sheets-long = each_of sheets (λ i h. rw (sheet-at i (omega (arith, length-sheets))) (page-long i))

  pub length-layout : length (layout f g (rows_of 16 (length records / 16) records)) ≡ 16384
  length-layout = rw layout-joined (length-joined 256 sheets sheets-long ∙ rw length-sheets)

  pub page-layout : (q : ℕ) → q < 64 → page q (layout f g (rows_of 16 (length records / 16) records)) ≡ layout_page f g (rows_of 16 (length records / 16) records) q
  unfolding page
  page-layout q h =
      let all : rows_of 256 64 (joined sheets) ≡ sheets =
      ap₂ (λ (k : ℕ) (l : List ℕ). rows_of 256 k l) (sym length-sheets) (sym (append-nil (joined sheets))) ∙ rows_of-joined 256 sheets [] sheets-long in
      rw layout-joined
      (sym (get_or-rows_of 256 64 q (joined sheets) h) ∙ ap (λ (x : List (List ℕ)). get_or x q []) all ∙ sheet-at q h)

  -- ---- the loop over all pages

  pub laid_more : (w image : List ℕ) (p : ℕ) → length w ≡ 16384 → p < 64 → image ≡ layout_page f g (rows_of 16 (length records / 16) records) p
      → ((q : ℕ) → q < p → page q w ≡ layout_page f g (rows_of 16 (length records / 16) records) q)
      → (q : ℕ) → q < p + 1 → page q (put_page p image w) ≡ layout_page f g (rows_of 16 (length records / 16) records) q
  laid_more w image p whole small e done q h =
      let long : length image ≡ 256 = ap length e ∙ page-long p in
      split q p
      (λ a. page-put_page-other p w whole small image long q (omega arith) (λ z. omega arith) ∙ done q a)
      (λ a. let z : q ≡ p = omega arith in
      rw z (page-put_page-same p w whole small image long ∙ e))

  pub laid-all : (w : List ℕ) (p : ℕ) → length w ≡ 16384 → 64 ≤ p → ((q : ℕ) → q < p → page q w ≡ layout_page f g (rows_of 16 (length records / 16) records) q)
      → w ≡ layout f g (rows_of 16 (length records / 16) records)
  laid-all w p whole h done = pages-ext w (layout f g rows') whole length-layout (λ q k. done q (omega arith) ∙ sym (page-layout q k))
