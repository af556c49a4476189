-- The layout as a list of 64 pages: which page stands at which number, and what holds of every page. Assumes nothing.
use Prim.Native.Nat.{ℕ, zero, suc, ◌+◌, ◌-◌, ◌≤◌, ◌<◌}
use native.Mathlib.Nat.{not-suc-le-zero}
use native.Mathlib.Omega.{arith}
use mathlib.Core.Path.{◌≡◌, refl, sym, ap, ap₂, ◌∙◌}
use mathlib.Core.List.{List, [], ◌∷◌, ◌++◌, map, append-nil}
use lib.ListN.{length, get_or, replicate, length-append, length-replicate, get_or-replicate, length-map, get_or-append}
use lib.Seq.{get_or-append-add}
use Rattle.field.proofs.Part.{split}
use Rattle.page.specs.Page.{Kind, root, base, leaf, empty, first_base, base_pages, first_leaf, leaf_pages, joined, rows_of}
use Rattle.page.specs.Places.{place, base_place}
use Rattle.page.specs.Pages.{pages}
use Rattle.page.specs.Each.{Each, nil, cons, Long}
use Rattle.page.proofs.Places.{place_of}
use Rattle.page.proofs.Rows.{each_append, joined-append, rows_of-joined}
use Rattle.tree.specs.Layout.{fresh, filled, layout, leaf_groups, base_groups, entries_to}

-- ---- n pages: one for each group, then empty ones

-- these pages as a list
unfoldable pub run : (n : ℕ) → Kind → List (List (List ℕ)) → List (List ℕ)
run n k gs = map (fresh k) gs ++ replicate (n - length gs) (fresh empty [])

-- joined, they are `filled`
pub joined-run : (n : ℕ) (k : Kind) (gs : List (List (List ℕ))) → joined (run n k gs) ≡ filled n k gs
unfolding run filled
joined-run n k gs = joined-append (map (fresh k) gs) (replicate (n - length gs) (fresh empty []))

module _ (n : ℕ) (k : Kind) (gs : List (List (List ℕ))) where
  -- n of them
  pub length_run : length gs ≤ n → length (run n k gs) ≡ n
  unfolding run
  length_run h =
      rw (length-append (map (fresh k) gs) (replicate (n - length gs) (fresh empty [])), length-map gs (fresh k), length-replicate (n - length gs) (fresh empty []))
      (omega arith)

  -- the page of group i
  pub run-full : (i : ℕ) → i < length gs → get_or (run n k gs) i [] ≡ fresh k (get_or gs i [])
  unfolding run
  run-full i h =
      get_or-append (map (fresh k) gs) (replicate (n - length gs) (fresh empty [])) [] i (rw (length-map gs (fresh k)) h) ∙ mapped gs i h
    where
      mapped : (xs : List (List (List ℕ))) (j : ℕ) → j < length xs → get_or (map (fresh k) xs) j [] ≡ fresh k (get_or xs j [])
      mapped [] j m = absurd (not-suc-le-zero m)
      mapped (x ∷ xs) zero m = refl
      mapped (x ∷ xs) (suc j) m = mapped xs j (omega arith)

  -- and the empty pages behind the groups
  pub run-empty : (i : ℕ) → length gs ≤ i → i < n → get_or (run n k gs) i [] ≡ fresh empty []
  unfolding run
  run-empty i h m =
      let front : List (List ℕ) = map (fresh k) gs in
      let d : ℕ = i - length gs in
      let e : length front + d ≡ i = rw (length-map gs (fresh k)) (omega arith) in
      rw (← e, get_or-append-add front (replicate (n - length gs) (fresh empty [])) d [])
      (get_or-replicate (n - length gs) d (fresh empty []) [] (omega arith))

-- what holds of every page of the kind and of an empty page holds of each
pub each-run : {P : List ℕ → Type 0} (n : ℕ) (k : Kind) (gs : List (List (List ℕ)))
    → ((i : ℕ) → i < length gs → P (fresh k (get_or gs i []))) → P (fresh empty [])
    → Each P (run n k gs)
unfolding run
each-run {P} n k gs f e = each_append (mapped gs f) (same (n - length gs))
  where
    mapped : (xs : List (List (List ℕ))) → ((i : ℕ) → i < length xs → P (fresh k (get_or xs i []))) → Each P (map (fresh k) xs)
    mapped [] g = nil
    mapped (x ∷ xs) g = cons (g 0 (omega arith)) (mapped xs (λ i h. g (suc i) (omega arith)))

    same : (m : ℕ) → Each P (replicate m (fresh empty []))
    same zero = nil
    same (suc m) = cons e (same m)

-- ---- the 64 pages

-- the root, base pages, leaf pages
unfoldable pub sheet : (es : List (List ℕ)) (bs ls : List (List (List ℕ))) → List (List ℕ)
sheet es bs ls = fresh root es ∷ (run base_pages base bs ++ run leaf_pages leaf ls)

-- joined, they are the layout
pub layout-sheet : (f g : ℕ) (rs : List (List ℕ))
    → layout f g rs ≡ joined (sheet (entries_to base_place 0 (base_groups f g rs)) (base_groups f g rs) (leaf_groups f rs))
unfolding layout sheet joined
layout-sheet f g rs =
    let bs : List (List (List ℕ)) = base_groups f g rs in
    let ls : List (List (List ℕ)) = leaf_groups f rs in
    rw (joined-append (run base_pages base bs) (run leaf_pages leaf ls), joined-run base_pages base bs, joined-run leaf_pages leaf ls)

module _ (es : List (List ℕ)) (bs ls : List (List (List ℕ))) where
  -- what holds of every page that is not behind its groups, and of an empty one, holds of each
  pub each-sheet : {P : List ℕ → Type 0} → P (fresh root es) → ((i : ℕ) → i < length bs → P (fresh base (get_or bs i [])))
      → ((i : ℕ) → i < length ls → P (fresh leaf (get_or ls i []))) → P (fresh empty [])
      → Each P (sheet es bs ls)
  unfolding sheet
  each-sheet r b l e = cons r (each_append (each-run base_pages base bs b e) (each-run leaf_pages leaf ls l e))

  module _ (seven : length bs ≤ base_pages) (most : length ls ≤ leaf_pages) where
    -- 64 of them
    pub length-sheet : length (sheet es bs ls) ≡ 64
    unfolding sheet
    length-sheet =
        ap suc
        (length-append (run base_pages base bs) (run leaf_pages leaf ls) ∙ ap₂ (λ (x y : ℕ). x + y) (length_run base_pages base bs seven) (length_run leaf_pages leaf ls most))

    -- 64 pages joined are those pages
    pub pages-sheet : Each (Long 256) (sheet es bs ls) → pages (joined (sheet es bs ls)) ≡ sheet es bs ls
    unfolding pages
    pages-sheet p =
        let ps : List (List ℕ) = sheet es bs ls in
        ap (λ (n : ℕ). rows_of 256 n (joined ps)) (sym length-sheet)
        ∙ ap (rows_of 256 (length ps)) (sym (append-nil (joined ps)))
        ∙ rows_of-joined 256 ps [] p

    -- the base pages behind the root
    pub sheet-base : (i : ℕ) → i < base_pages → get_or (sheet es bs ls) (base_place i) [] ≡ get_or (run base_pages base bs) i []
    unfolding sheet base_place
    sheet-base i h =
        let e : first_base + i ≡ suc i = omega arith in
        rw e (get_or-append (run base_pages base bs) (run leaf_pages leaf ls) [] i (rw (length_run base_pages base bs seven) h))

    -- the leaf pages behind these
    pub sheet-leaf : (i : ℕ) → get_or (sheet es bs ls) (place i) [] ≡ get_or (run leaf_pages leaf ls) i []
    unfolding sheet place
    sheet-leaf i =
        let e : first_leaf + i ≡ suc (length (run base_pages base bs) + i) = rw (length_run base_pages base bs seven) (omega arith) in
        rw e (get_or-append-add (run base_pages base bs) (run leaf_pages leaf ls) i [])

    -- what holds of each page in its place holds of page q
    pub places : (P : ℕ → List ℕ → Type 0) → P 0 (fresh root es)
        → ((i : ℕ) → i < length bs → P (base_place i) (fresh base (get_or bs i [])))
        → ((i : ℕ) → length bs ≤ i → i < base_pages → P (base_place i) (fresh empty []))
        → ((i : ℕ) → i < length ls → P (place i) (fresh leaf (get_or ls i [])))
        → ((i : ℕ) → length ls ≤ i → i < leaf_pages → P (place i) (fresh empty []))
        → (q : ℕ) → q < 64
        → P q (get_or (sheet es bs ls) q [])
    places P r b eb l el q h =
        split q 1
        (λ z. let e : q ≡ 0 = omega arith in
        rw e (unfold sheet in r))
        (λ z. split q first_leaf
        (λ k. let i : ℕ = q - first_base in
        let e : base_place i ≡ q = unfold base_place in omega arith in
        rw (← e, sheet-base i (omega arith))
        (split i (length bs)
        (λ m. rw (run-full base_pages base bs i m) (b i m))
        (λ m. rw (run-empty base_pages base bs i m (omega arith)) (eb i m (omega arith)))))
        (λ k. let i : ℕ = q - first_leaf in
        let e : place i ≡ q = place_of q k in
        rw (← e, sheet-leaf i)
        (split i (length ls)
        (λ m. rw (run-full leaf_pages leaf ls i m) (l i m))
        (λ m. rw (run-empty leaf_pages leaf ls i m (omega arith)) (el i m (omega arith))))))
