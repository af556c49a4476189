-- Counting how often each page is pointed to, and that the counts being right is the clause of the well-formed tree. Assumes nothing.
use Prim.Native.Nat.{ℕ, zero, suc, ◌+◌, ◌-◌, ◌*◌, ◌≤◌, ◌<◌}
use native.Mathlib.Nat.{add-zero, zero-add, not-suc-le-zero}
use native.Mathlib.Omega.{arith}
use mathlib.Core.Path.{◌≡◌, refl, sym, ◌∙◌}
use mathlib.Core.Bool.{Bool, true, false, not, false≢true}
use mathlib.Core.List.{List, [], ◌∷◌, ◌++◌}
use lib.ListN.{length, take, drop, get_or, set, length-drop, drop_of_length-le}
use lib.Seq.{get_or-set_same, get_or-set_other, get_or-drop}
use lib.Dec.{eqb}
use borrow.Author.Tests.{eq-eqb, ne_eqb, eqb-true, not-true, not-false}
use Rattle.field.specs.Test.{both, pick}
use Rattle.field.specs.Bytes.{le2}
use Rattle.field.proofs.Test.{both-1, both-2, both_true, both_false, pick_true}
use Rattle.field.proofs.Part.{split}
use Rattle.page.specs.Page.{rows_of, to_page, count, letter, rows, is_empty, formed}
use Rattle.page.specs.Pages.{page, pages}
use Rattle.page.proofs.Rows.{page-row, length-rows}
use Rattle.page.proofs.Turns.{rows_next}
use Rattle.page.proofs.Pages.{formed-page, get_or-pages, length-pages, lent-page}
use Rattle.tree.specs.Tree.{below, pointers, pointed_once}
use Rattle.tree.specs.Walk.{InForm, Tallied, Roomy, rightly}
use Rattle.tree.proofs.Regions.{decide, letter-empty, letter-full}
use Rattle.tree.proofs.Turn.{none_left, below_next, letter-page, pages-next}

-- ---- pointers of entries

pub pointers-append : (p : ℕ) (xs ys : List (List ℕ)) → pointers p (xs ++ ys) ≡ pointers p xs + pointers p ys
unfolding pointers
pointers-append p [] ys = sym (zero-add (pointers p ys))
pointers-append p (e ∷ es) ys = rw (pointers-append p es ys) (omega arith)

pick_small : (b : Bool) → pick b 1 0 ≤ 1
unfolding pick
pick_small true = omega arith
pick_small false = omega arith

pub pointers-few : (p : ℕ) (es : List (List ℕ)) → pointers p es ≤ length es
unfolding pointers
pointers-few p [] = omega arith
pointers-few p (e ∷ es) = omega (arith, pick_small (eqb (to_page e) p), pointers-few p es)

-- an entry points to its page at least once
pub pointers-some : (i : ℕ) (es : List (List ℕ)) → i < length es → 1 ≤ pointers (to_page (get_or es i [])) es
unfolding pointers pick
pointers-some i [] h = absurd (not-suc-le-zero h)
pointers-some zero (e ∷ es) h = rw (eq-eqb (to_page e) (to_page e) refl) (omega arith)
pointers-some (suc i) (e ∷ es) h =
    let r : 1 ≤ pointers (to_page (get_or es i [])) es = pointers-some i es (omega arith) in
    omega arith

-- ---- the loop that counts entries

pub tally-none : (counts : List ℕ) (ys : List (List ℕ)) → Tallied counts ys counts ys
tally-none counts ys = record { same = λ p h. refl }

pub tally-end : (sum : List ℕ) (n at : ℕ) (l counts : List ℕ) (ys : List (List ℕ)) → Tallied sum (rows_of 8 n (drop at l)) counts ys → n ≤ 0 → Tallied sum [] counts ys
tally-end sum n at l counts ys t h = rw (none_left 8 n (drop at l) h) at t

pub room-one : (sum : List ℕ) (n q : ℕ) → Roomy sum n → 0 < n → q < 64 → get_or sum q 0 + 1 < 65536
room-one sum n q r h k = omega (arith, r.room q k)

module _ (sum : List ℕ) (q : ℕ) (small : q < 64) (long : length sum ≡ 64) where
  added : List ℕ
  added = set sum q (get_or sum q 0 + 1)

  added-same : (p : ℕ) → q ≡ p → get_or (set sum q (get_or sum q 0 + 1)) p 0 ≡ get_or sum p 0 + 1
  added-same p z = rw (← z) (get_or-set_same sum q (get_or sum q 0 + 1) 0 (omega arith))

  -- one more at page q
  added-at : (p : ℕ) → get_or (set sum q (get_or sum q 0 + 1)) p 0 ≡ get_or sum p 0 + pick (eqb q p) 1 0
  unfolding pick
  added-at p =
      split q p
      (λ a. rw (get_or-set_other sum q p (get_or sum q 0 + 1) 0 (λ z. omega arith), ne_eqb q p (λ z. omega arith)) (sym (add-zero (get_or sum p 0))))
      (λ a. split p q
      (λ b. rw (get_or-set_other sum q p (get_or sum q 0 + 1) 0 (λ z. omega arith), ne_eqb q p (λ z. omega arith)) (sym (add-zero (get_or sum p 0))))
      (λ b. let z : q ≡ p = omega arith in
      rw (eq-eqb q p z) (added-same p z)))

  pub roomy-more : (n : ℕ) → Roomy sum n → 0 < n → Roomy (set sum q (get_or sum q 0 + 1)) (n - 1)
  roomy-more n r h = record { room = λ p k. omega (arith, r.room p k, added-at p, pick_small (eqb q p)) }

  pub tally-more : (n at : ℕ) (l counts : List ℕ) (ys : List (List ℕ)) → q ≡ le2 l (at + 6) → 0 < n → Tallied sum (rows_of 8 n (drop at l)) counts ys
      → Tallied (set sum q (get_or sum q 0 + 1)) (rows_of 8 (n - 1) (drop (at + 8) l)) counts ys
  unfolding pointers
  tally-more n at l counts ys f more t = record {
    same = λ p h.
        let s : get_or sum p 0 + (pick (eqb q p) 1 0 + pointers p (rows_of 8 (n - 1) (drop (at + 8) l))) ≡ get_or counts p 0 + pointers p ys =
        rw (rows_next 8 n at l more, page-row 8 at l (omega arith), ← f) at (t.same p h) in
        omega (arith, added-at p);
  }

-- ---- the loop that counts the entries of the pages below

module _ (w : List ℕ) (n at : ℕ) (l sum r : List ℕ) (q m : ℕ) (f : q ≡ le2 l (at + 6)) (k : m ≡ count (page q w)) (more : 0 < n) (small : q < 64)
    (t : Tallied r [] sum (rows_of 8 m (drop 16 (take (256 * q + 256 - 256 * q) (drop (256 * q) w))))) where
  counted : (p : ℕ) → p < 64 → get_or r p 0 ≡ get_or sum p 0 + pointers p (rows 8 (page q w))
  unfolding rows pointers
  counted p h =
      let s : get_or r p 0 + 0 ≡ get_or sum p 0 + pointers p (rows_of 8 (count (page q w)) (drop 16 (page q w))) = rw (lent-page q w, k) at (t.same p h) in
      omega arith

  pub under_more : (counts : List ℕ) (ys : List (List ℕ)) → Tallied sum (below 8 (pages w) (rows_of 8 n (drop at l))) counts ys
      → Tallied r (below 8 (pages w) (rows_of 8 (n - 1) (drop (at + 8) l))) counts ys
  under_more counts ys u = record {
    same = λ p h.
        let rest : List (List ℕ) = below 8 (pages w) (rows_of 8 (n - 1) (drop (at + 8) l)) in
        let s : get_or sum p 0 + pointers p (rows 8 (page q w) ++ rest) ≡ get_or counts p 0 + pointers p ys = rw (below_next 8 w n at l q f small more) at (u.same p h) in
        omega (arith, counted p h, pointers-append p (rows 8 (page q w)) rest);
  }

  pub roomy-under : m ≤ 30 → Roomy sum (30 * n) → Roomy r (30 * (n - 1))
  roomy-under few u = record {
    room = λ p h. omega (arith, counted p h, pointers-few p (rows 8 (page q w)), length-rows 8 (page q w), u.room p h);
  }

pub roomy-page : (sum : List ℕ) (n m : ℕ) → Roomy sum (30 * n) → 0 < n → m ≤ 30 → Roomy sum m
roomy-page sum n m u h k = record { room = λ p g. omega (arith, u.room p g) }

pub under-end : (w sum : List ℕ) (n at : ℕ) (l counts : List ℕ) (ys : List (List ℕ)) → Tallied sum (below 8 (pages w) (rows_of 8 n (drop at l))) counts ys → n ≤ 0
    → Tallied sum [] counts ys
unfolding below
under-end w sum n at l counts ys t h = rw (none_left 8 n (drop at l) h) at t

-- ---- counts that are right

pub letter-tells : (p : ℕ) (pg : List ℕ) → formed p pg ≡ true → is_empty pg ≡ eqb (letter pg) 101
letter-tells p pg e =
    decide (eqb (letter pg) 101)
    (λ t. letter-empty p pg e (eqb-true (letter pg) 101 t) ∙ sym t)
    (λ t. letter-full pg (λ z. absurd (false≢true (sym t ∙ eq-eqb (letter pg) 101 z))) ∙ sym t)

module _ (counts w : List ℕ) (form : InForm w) (p : ℕ) (h : p < 64) (e : rightly counts 1 (drop 1 (pages w)) ≡ rightly counts p (drop p (pages w)))
    (z : Bool) (f : z ≡ eqb (get_or counts p 0) (pick (eqb (get_or w (256 * p + 1) 0) 101) 0 1)) where
  turn : rightly counts 1 (drop 1 (pages w)) ≡ both z (rightly counts (p + 1) (drop (p + 1) (pages w)))
  unfolding rightly
  turn = e ∙ rw (pages-next p w h, f, letter-page p w, letter-tells p (page p w) (formed-page p w form.forms h))

  pub right-stop! : not z ≡ true → false ≡ rightly counts 1 (drop 1 (pages w))
  right-stop! g = sym (turn ∙ both_false _ _ (not-true z g))

  pub right-more! : not z ≡ false → rightly counts 1 (drop 1 (pages w)) ≡ rightly counts (p + 1) (drop (p + 1) (pages w))
  right-more! g = turn ∙ both_true _ _ (not-false z g)

pub right-end! : (counts w : List ℕ) (p : ℕ) → rightly counts 1 (drop 1 (pages w)) ≡ rightly counts p (drop p (pages w)) → 64 ≤ p → true ≡ rightly counts 1 (drop 1 (pages w))
right-end! counts w p e h =
    let k : length (pages w) ≤ p = omega (arith, length-pages w) in
    sym (e ∙ rw (drop_of_length-le (pages w) k) (unfold rightly in refl))

pub right-pointed : (counts : List ℕ) (es : List (List ℕ)) (p : ℕ) (pgs : List (List ℕ)) → ((q : ℕ) → q < 64 → get_or counts q 0 ≡ pointers q es) → p + length pgs ≤ 64
    → rightly counts p pgs ≡ pointed_once es p pgs
unfolding rightly pointed_once
right-pointed counts es p [] f h = refl
right-pointed counts es p (pg ∷ pgs) f h = rw (f p (omega arith), right-pointed counts es (p + 1) pgs f (omega arith))

-- ---- what a page pointed to rightly is like

pub once-at : (es : List (List ℕ)) (p i : ℕ) (pgs : List (List ℕ)) → pointed_once es p pgs ≡ true → i < length pgs → pointers (p + i) es ≡ pick (is_empty (get_or pgs i [])) 0 1
unfolding pointed_once
once-at es p i [] e h = absurd (not-suc-le-zero h)
once-at es p zero (pg ∷ pgs) e h = rw (add-zero p) (eqb-true (pointers p es) (pick (is_empty pg) 0 1) (both-1 _ _ e))
once-at es p (suc i) (pg ∷ pgs) e h =
    let q : p + suc i ≡ p + 1 + i = omega arith in
    rw q (once-at es (p + 1) i pgs (both-2 _ _ e) (omega arith))

-- a page that an entry points to is not empty
pub once-full : (es : List (List ℕ)) (w : List ℕ) (i : ℕ) → pointed_once es 1 (drop 1 (pages w)) ≡ true → i < length es → 1 ≤ to_page (get_or es i []) → to_page (get_or es i []) < 64
    → is_empty (page (to_page (get_or es i [])) w) ≡ false
once-full es w i e h lo hi =
    let q : ℕ = to_page (get_or es i []) in
    let j : ℕ = q - 1 in
    let z : 1 + j ≡ q = omega arith in
    let ld : length (drop 1 (pages w)) ≡ 63 = length-drop 1 (pages w) ∙ rw (length-pages w) in
    let o : pointers (1 + j) es ≡ pick (is_empty (get_or (drop 1 (pages w)) j [])) 0 1 = once-at es 1 j (drop 1 (pages w)) e (omega arith) in
    let o2 : pointers q es ≡ pick (is_empty (page q w)) 0 1 = rw (get_or-drop 1 (pages w) j [], z, get_or-pages q w hi) at o in
    decide (is_empty (page q w))
    (λ t. absurd (let n : pointers q es ≡ 0 = o2 ∙ pick_true _ _ _ t in let x : ⊥ = omega (arith, pointers-some i es h) in x))
    (λ t. t)
