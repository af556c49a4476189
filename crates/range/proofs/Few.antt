-- A well-formed tree has at most 840 records: no two entries lead to the same leaf page, there are 56 of these, and each has at most 15 records.
-- Assumes nothing.
use Prim.Native.Nat.{ℕ, zero, suc, ◌+◌, ◌-◌, ◌*◌, ◌≤◌, ◌<◌}
use native.Mathlib.Nat.{mul-suc}
use native.Mathlib.Omega.{arith}
use mathlib.Core.Path.{◌≡◌, refl, sym, ◌∙◌}
use mathlib.Core.Bool.{Bool, true, false}
use mathlib.Core.List.{List, [], ◌∷◌, ◌++◌}
use lib.ListN.{length, drop, get_or, length-append, length-drop}
use lib.Dec.{eqb}
use borrow.Author.Tests.{eq-eqb, ne_eqb}
use Rattle.field.specs.Test.{pick}
use Rattle.field.proofs.Test.{all_head, pick_true, pick-false}
use Rattle.field.proofs.Part.{split}
use Rattle.page.specs.Page.{to_page, rows, first_base, last_base, first_leaf, last_leaf, leaf_pages, is_empty}
use Rattle.page.specs.Places.{Leafy}
use Rattle.page.specs.Pages.{page, pages}
use Rattle.page.specs.Each.{Each, nil, cons}
use Rattle.page.proofs.Rows.{each_append, length-rows}
use Rattle.page.proofs.Order.{pointing-at}
use Rattle.page.proofs.Pages.{get_or-pages, length-pages, formed-page}
use Rattle.tree.specs.Tree.{under, below, base_entries, all_records, pointers, pointed_once, well_formed}
use Rattle.tree.specs.Walk.{Below, Above}
use Rattle.tree.specs.Reader.{Sound}
use Rattle.tree.proofs.Regions.{root-points, base-points}
use Rattle.tree.proofs.Sound.{root-entries, each_of}
use Rattle.tree.proofs.Tally.{pointers-append, once-at}
use Rattle.tree.proofs.Onward.{sound-over, each-under}

-- ---- sums over n page numbers from p

sum_from : (f : ℕ → ℕ) (p n : ℕ) → ℕ
sum_from f p zero = 0
sum_from f p (suc n) = f p + sum_from f (suc p) n

sum-few : (f : ℕ → ℕ) (p n : ℕ) → ((q : ℕ) → p ≤ q → q < p + n → f q ≤ 1) → sum_from f p n ≤ n
unfolding sum_from
sum-few f p zero h = omega arith
sum-few f p (suc n) h = omega (arith, h p (omega arith) (omega arith), sum-few f (suc p) n (λ q a b. h q (omega arith) (omega arith)))

sum-add : (f g : ℕ → ℕ) (p n : ℕ) → sum_from (λ q. f q + g q) p n ≡ sum_from f p n + sum_from g p n
unfolding sum_from
sum-add f g p zero = refl
sum-add f g p (suc n) = omega (arith, sum-add f g (suc p) n)

sum-none : (p n : ℕ) → sum_from (λ q. 0) p n ≡ 0
unfolding sum_from
sum-none p zero = refl
sum-none p (suc n) = omega (arith, sum-none (suc p) n)

sum_past : (x p n : ℕ) → x < p → sum_from (λ q. pick (eqb x q) 1 0) p n ≡ 0
unfolding sum_from
sum_past x p zero h = refl
sum_past x p (suc n) h =
    let z : pick {A = ℕ} (eqb x p) 1 0 ≡ 0 = pick-false _ _ _ (ne_eqb x p (λ e. omega arith)) in
    omega (arith, sum_past x (suc p) n (omega arith))

sum_one : (x p n : ℕ) → p ≤ x → x < p + n → sum_from (λ q. pick (eqb x q) 1 0) p n ≡ 1
unfolding sum_from
sum_one x p zero h k = absurd (let y : ⊥ = omega arith in y)
sum_one x p (suc n) h k =
    split x (suc p)
    (λ a. let z : pick {A = ℕ} (eqb x p) 1 0 ≡ 1 = pick_true _ _ _ (eq-eqb x p (omega arith)) in
    omega (arith, sum_past x (suc p) n a))
    (λ a. let z : pick {A = ℕ} (eqb x p) 1 0 ≡ 0 = pick-false _ _ _ (ne_eqb x p (λ e. omega arith)) in
    omega (arith, sum_one x (suc p) n a (omega arith)))

-- ---- entries that point into leaf pages are as many as these are pointed to

sum-pointers : (es : List (List ℕ)) → Each (λ e. Leafy (to_page e)) es → length es ≡ sum_from (λ p. pointers p es) first_leaf leaf_pages
unfolding pointers
sum-pointers [] nil = sym (sum-none first_leaf leaf_pages)
sum-pointers (e ∷ es) (cons h p) =
    omega (arith, sum-add (λ q. pick (eqb (to_page e) q) 1 0) (λ q. pointers q es) first_leaf leaf_pages, sum_one (to_page e) first_leaf leaf_pages h.0 (omega (arith, h.1)), sum-pointers es p)

pick_small : (b : Bool) → pick b 0 1 ≤ 1
unfolding pick
pick_small true = omega arith
pick_small false = omega arith

at-most-once : (es : List (List ℕ)) (p i : ℕ) (pgs : List (List ℕ)) → pointed_once es p pgs ≡ true → i < length pgs → pointers (p + i) es ≤ 1
at-most-once es p i pgs t h = rw (once-at es p i pgs t h) (pick_small (is_empty (get_or pgs i [])))

module _ (w : List ℕ) (s : Sound w) where
  abbrev tops : List (List ℕ)
  tops = rows 8 (page 0 w)

  level-points : (es : List (List ℕ)) → Each (Above w) es → Each (λ e. to_page e ≤ last_base) es → Each (λ e. Leafy (to_page e)) (below 8 (pages w) es)
  unfolding below under
  level-points [] nil nil = nil
  level-points (e ∷ es) (cons o p) (cons k q) =
      let b : ℕ = to_page e in
      let to = base-points b (page b w) (formed-page b w s.form.forms o.base.inside) o.base.past k in
      rw (get_or-pages b w o.base.inside) (each_append (each_of (rows 8 (page b w)) (λ i h. pointing-at first_leaf last_leaf i (rows 8 (page b w)) to h)) (level-points es p q))

  sound-once : pointed_once (rows 8 (page 0 w) ++ below 8 (pages w) (rows 8 (page 0 w))) 1 (drop 1 (pages w)) ≡ true
  unfolding well_formed base_entries
  sound-once = rw (root-entries w) at (all_head _ _ s.well)

  leaves-few : length (below 8 (pages w) (rows 8 (page 0 w))) ≤ leaf_pages
  leaves-few =
      let level : List (List ℕ) = below 8 (pages w) tops in
      let low : Each (λ e. to_page e ≤ last_base) tops =
      each_of tops (λ i h. (pointing-at first_base last_base i tops (root-points (page 0 w) (formed-page 0 w s.form.forms (omega arith))) h).1) in
      let n : length level ≡ sum_from (λ p. pointers p level) first_leaf leaf_pages = sum-pointers level (level-points tops (sound-over w s) low) in
      let ld : length (drop 1 (pages w)) ≡ 63 = length-drop 1 (pages w) ∙ rw (length-pages w) in
      let few : (q : ℕ) → first_leaf ≤ q → q < first_leaf + leaf_pages → pointers q level ≤ 1 =
      λ q a b. let i : ℕ = q - 1 in
      let e : 1 + i ≡ q = omega arith in
      let o : pointers (1 + i) (tops ++ level) ≤ 1 = at-most-once (tops ++ level) 1 i (drop 1 (pages w)) sound-once (omega arith) in
      rw (← e) (omega (arith, pointers-append (1 + i) tops level)) in
      omega (arith, sum-few (λ p. pointers p level) first_leaf leaf_pages few)

  records-few : (es : List (List ℕ)) → Each (Below 16 w) es → length (below 16 (pages w) es) ≤ 15 * length es
  unfolding below under
  records-few [] nil = omega arith
  records-few (e ∷ es) (cons h p) =
      let q : ℕ = to_page e in
      rw (get_or-pages q w h.inside, length-append (rows 16 (page q w)) (below 16 (pages w) es), length-rows 16 (page q w))
      (omega (arith, h.fits, records-few es p, mul-suc 15 (length es)))

  pub tree-few : length (all_records (pages w)) ≤ 840
  unfolding all_records base_entries
  tree-few = rw (root-entries w) (omega (arith, records-few (below 8 (pages w) tops) (each-under w tops (sound-over w s)), leaves-few))
