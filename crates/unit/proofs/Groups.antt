-- The loops of the choice of a compact unit: the lowest empty page, the largest page, how many leaves join a group, and which. The laws
-- that end in `!` are for `search`. Assumes nothing.
use Prim.Native.Nat.{ℕ, zero, suc, ◌+◌, ◌-◌, ◌*◌, ◌≤◌, ◌<◌}
use native.Mathlib.Nat.{add-zero}
use native.Mathlib.Omega.{arith}
use mathlib.Core.Path.{◌≡◌, refl, sym, ap, ◌∙◌}
use mathlib.Core.Bool.{Bool, true, false, not}
use mathlib.Core.List.{List, [], ◌∷◌, ◌++◌, append_assoc}
use lib.ListN.{length, drop, get_or, set}
use lib.Seq.{set_at}
use lib.Dec.{leb, ltb}
use borrow.Author.Tests.{le-leb, lt-leb, lt-ltb, le-ltb, not-true, not-false}
use Rattle.field.specs.Test.{both, all, pick, when}
use Rattle.field.specs.Bytes.{part, zeroes, le2, le4}
use Rattle.field.proofs.Test.{both_end, pick_true, pick-false}
use Rattle.field.proofs.Number.{le2-drop}
use Rattle.page.specs.Page.{rows_of, key_of, count, records}
use Rattle.page.specs.Pages.{page, pages}
use Rattle.page.specs.Places.{empty_leaf}
use Rattle.page.proofs.Rows.{page-row, length-rows_of, rows_of-add}
use Rattle.page.proofs.Turns.{rows_next}
use Rattle.tree.specs.Walk.{Spot}
use Rattle.tree.proofs.Turn.{none_left, under-page, pages-next, first-page}
use Rattle.unit.specs.Choice.{exceeds, lowest_empty, larger}
use Rattle.unit.specs.Chosen.{to_pages, joins, top_of}

-- ---- the lowest empty page

both-none : (a : Bool) → both a false ≡ false
unfolding both
both-none true = refl
both-none false = refl

module _ (low c : ℕ) where
  -- pages not above low are passed over
  low-skip : (p k : ℕ) (pgs : List (List ℕ)) → p + k ≤ low + 1 → lowest_empty low c p pgs ≡ lowest_empty low c (p + k) (drop k pgs)
  unfolding lowest_empty all both pick
  low-skip p zero pgs h = rw (add-zero p)
  low-skip p (suc k) [] h = refl
  low-skip p (suc k) (pg ∷ pgs) h =
      let e : p + 1 + k ≡ p + suc k = omega arith in
      rw (le-ltb low p (omega arith), ← e) (low-skip (p + 1) k pgs (omega arith))

  -- no page is left below c
  low-past : (p : ℕ) (pgs : List (List ℕ)) → c ≤ p → lowest_empty low c p pgs ≡ c
  unfolding lowest_empty all both pick
  low-past p [] h = refl
  low-past p (pg ∷ pgs) h = rw (le-ltb p c h, both-none (ltb low p)) (low-past (p + 1) pgs (omega arith))

  pub low-start! : (w : List ℕ) → lowest_empty low c 0 (pages w) ≡ lowest_empty low c (low + 1) (drop (low + 1) (pages w))
  low-start! w =
      let e : 0 + (low + 1) ≡ low + 1 = omega arith in
      rw e at (low-skip 0 (low + 1) (pages w) (omega arith))

  module _ (w : List ℕ) (p : ℕ) (e : lowest_empty low c 0 (pages w) ≡ lowest_empty low c p (drop p (pages w))) where
    pub low-end! : c ≤ p → c ≡ lowest_empty low c 0 (pages w)
    low-end! h = sym (e ∙ low-past p (drop p (pages w)) h)

    module _ (z : Bool) (k : z ≡ empty_leaf p (page p w)) (h : p < c) (above : low < p) (small : c ≤ 64) where
      turn : lowest_empty low c 0 (pages w) ≡ pick z p (lowest_empty low c (p + 1) (drop (p + 1) (pages w)))
      unfolding lowest_empty
      turn = e ∙ rw (pages-next p w (omega arith), lt-ltb low p above, lt-ltb p c h, k) (unfold all both in rw (both_end (empty_leaf p (page p w))))

      pub low-stop! : z ≡ true → p ≡ lowest_empty low c 0 (pages w)
      low-stop! t = sym (turn ∙ pick_true z p _ t)

      pub low-more! : z ≡ false → lowest_empty low c 0 (pages w) ≡ lowest_empty low c (p + 1) (drop (p + 1) (pages w))
      low-more! t = turn ∙ pick-false z p _ t

-- ---- the largest page

module _ (from n₀ at₀ low n at : ℕ) (l : List ℕ) (e : top_of from (rows_of 8 n₀ (drop at₀ l)) ≡ top_of low (rows_of 8 n (drop at l))) where
  pub top-end! : n ≤ 0 → low ≡ top_of from (rows_of 8 n₀ (drop at₀ l))
  unfolding top_of
  top-end! h = sym (e ∙ rw (none_left 8 n (drop at l) h))

  top-turn : (q : ℕ) → q ≡ le2 l (at + 6) → 0 < n → top_of low (rows_of 8 n (drop at l)) ≡ top_of (larger low q) (rows_of 8 (n - 1) (drop (at + 8) l))
  unfolding top_of
  top-turn q f more =
      let rest : List (List ℕ) = rows_of 8 (n - 1) (drop (at + 8) l) in
      ap (top_of low) (rows_next 8 n at l more) ∙ ap (λ (x : ℕ). top_of (larger low x) rest) (page-row 8 at l (omega arith) ∙ sym f)

  pub top-more! : (q k : ℕ) → k ≡ larger low q → q ≡ le2 l (at + 6) → 0 < n → top_of from (rows_of 8 n₀ (drop at₀ l)) ≡ top_of k (rows_of 8 (n - 1) (drop (at + 8) l))
  top-more! q k g f more = e ∙ top-turn q f more ∙ ap (λ (x : ℕ). top_of x (rows_of 8 (n - 1) (drop (at + 8) l))) (sym g)

-- ---- how many join

module _ (w : List ℕ) (fill from n start sum left at : ℕ) (l : List ℕ)
    (e : joins (pages w) fill from (rows_of 8 n (drop start l)) ≡ n - left + joins (pages w) fill sum (rows_of 8 left (drop at l))) where
  pub join-end! : left ≤ 0 → n ≡ joins (pages w) fill from (rows_of 8 n (drop start l))
  unfolding joins
  join-end! h =
      let z : n - left + 0 ≡ n = omega arith in
      sym (e ∙ rw (none_left 8 left (drop at l) h) z)

  module _ (p k : ℕ) (f : p ≡ le2 l (at + 6)) (g : k ≡ count (page p w)) (small : p < 64) (more : 0 < left) where
    join : joins (pages w) fill from (rows_of 8 n (drop start l))
        ≡ n - left + pick (leb (sum + k) fill) (suc (joins (pages w) fill (sum + k) (rows_of 8 (left - 1) (drop (at + 8) l)))) 0
    unfolding joins
    join = e ∙ rw (rows_next 8 left at l more, under-page w left at l p f small, g)

    pub join-stop! : fill < sum + k → n - left ≡ joins (pages w) fill from (rows_of 8 n (drop start l))
    unfolding pick
    join-stop! h = sym (join ∙ rw (lt-leb (sum + k) fill h) (add-zero (n - left)))

    pub join-more! : sum + k ≤ fill → left ≤ n
        → joins (pages w) fill from (rows_of 8 n (drop start l)) ≡ n - (left - 1) + joins (pages w) fill (sum + k) (rows_of 8 (left - 1) (drop (at + 8) l))
    unfolding pick
    join-more! h fits = join ∙ rw (le-leb (sum + k) fill h) (omega arith)

-- ---- the pages of entries, in an array

pub to_pages-append : (xs ys : List (List ℕ)) → to_pages (xs ++ ys) ≡ to_pages xs ++ to_pages ys
unfolding to_pages
to_pages-append [] ys = refl
to_pages-append (x ∷ xs) ys = rw (to_pages-append xs ys)

pub length-to_pages : (es : List (List ℕ)) → length (to_pages es) ≡ length es
unfolding to_pages
length-to_pages [] = refl
length-to_pages (e ∷ es) = ap suc (length-to_pages es)

-- one entry more
pages-more : (i : ℕ) (l : List ℕ) → to_pages (rows_of 8 (i + 1) l) ≡ to_pages (rows_of 8 i l) ++ (le2 l (8 * i + 6) ∷ [])
pages-more i l =
    let e : rows_of 8 1 (drop (8 * i) l) ≡ part (8 * i) 8 l ∷ [] = rows_next 8 1 (8 * i) l (omega arith) ∙ (unfold rows_of in refl) in
    rw (rows_of-add 8 i 1 l, e, to_pages-append (rows_of 8 i l) (part (8 * i) 8 l ∷ [])) (unfold to_pages in rw (page-row 8 (8 * i) l (omega arith)))

zeroes-one : (n : ℕ) → 0 < n → zeroes n ≡ 0 ∷ zeroes (n - 1)
unfolding zeroes
zeroes-one zero h = absurd (let x : ⊥ = omega arith in x)
zeroes-one (suc n) h = let e : suc n - 1 ≡ n = omega arith in rw e

module _ (start i : ℕ) (l list : List ℕ) (e : list ≡ to_pages (rows_of 8 i (drop start l)) ++ zeroes (8 - i)) where
  pub list-more! : (p : ℕ) → p ≡ le2 l (start + 8 * i + 6) → (k : ℕ) → i < k → k ≤ 8 → set list i p ≡ to_pages (rows_of 8 (i + 1) (drop start l)) ++ zeroes (8 - (i + 1))
  list-more! p f k h small =
      let a : List ℕ = to_pages (rows_of 8 i (drop start l)) in
      let la : length a ≡ i = length-to_pages (rows_of 8 i (drop start l)) ∙ length-rows_of 8 i (drop start l) in
      let z : 8 - i - 1 ≡ 8 - (i + 1) = omega arith in
      let q : start + (8 * i + 6) ≡ start + 8 * i + 6 = omega arith in
      let v : le2 (drop start l) (8 * i + 6) ≡ p = le2-drop start (8 * i + 6) l ∙ rw q (sym f) in
      rw (e, zeroes-one (8 - i) (omega arith), set_at a 0 (zeroes (8 - i - 1)) p i la, z, pages-more i (drop start l), v)
      (sym (append_assoc a (p ∷ []) (zeroes (8 - (i + 1)))))

  pub list-end! : (k : ℕ) → i ≤ k → k ≤ i → list ≡ to_pages (rows_of 8 k (drop start l)) ++ zeroes (8 - k)
  list-end! k h g = let z : i ≡ k = omega arith in rw (← z) e

-- ---- LK

pub exceeds-any! : (there : Bool) (lk k : ℕ) → not there ≡ true → true ≡ exceeds k (when there lk)
unfolding exceeds when
exceeds-any! there lk k h = rw (not-true there h)

pub exceeds-some! : (there : Bool) (lk k p : ℕ) (w : List ℕ) → not there ≡ false → k ≡ le4 w (256 * p + 18) → Spot 16 w p
    → ltb lk k ≡ exceeds (key_of (get_or (records (page p w)) 0 [])) (when there lk)
unfolding exceeds when
exceeds-some! there lk k p w h f s = rw (not-false there h, f, first-page 16 p w (omega arith) s.full)

-- a leaf that none joins, and one that is not alone
pub alone! : (a : Bool) (k : ℕ) → k < 1 → false ≡ both a (leb 1 k)
alone! a k h = sym (rw (lt-leb 1 k h) (both-none a))

pub not-alone! : (z a : Bool) (k : ℕ) → z ≡ a → 1 ≤ k → z ≡ both a (leb 1 k)
not-alone! z a k e h = e ∙ sym (rw (le-leb 1 k h) (both_end a))
