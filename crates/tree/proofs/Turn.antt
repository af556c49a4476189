-- One turn over entries that stand in a page: the entry in front with the page below it, and those behind. All 64 pages, one by one.
-- Assumes nothing.
use Prim.Native.Nat.{ℕ, zero, suc, ◌+◌, ◌-◌, ◌*◌, ◌≤◌, ◌<◌}
use native.Mathlib.Nat.{le_trans, not-suc-le-zero}
use native.Mathlib.Numerals.{add-one}
use native.Mathlib.Omega.{arith}
use mathlib.Core.Path.{◌≡◌, refl, sym, ◌∙◌}
use mathlib.Core.Bool.{true}
use mathlib.Core.List.{List, [], ◌∷◌, ◌++◌}
use lib.ListN.{drop, get_or}
use lib.Seq.{drop-cons}
use lib.Dec.{leb}
use borrow.Author.Tests.{leb-true, le-leb}
use Rattle.field.specs.Test.{both}
use Rattle.field.specs.Bytes.{part, le2, le4}
use Rattle.field.proofs.Test.{both-1, both-2, both-intro}
use Rattle.field.proofs.Number.{le2-part, le4-part}
use Rattle.field.proofs.Part.{get_or-part}
use Rattle.page.specs.Page.{rows_of, key_of, to_page, pointing, count, letter, rows}
use Rattle.page.specs.Pages.{page, pages}
use Rattle.page.specs.Each.{Each, cons}
use Rattle.page.proofs.Rows.{page-row, key-at}
use Rattle.page.proofs.Turns.{rows_next, pointing-next}
use Rattle.page.proofs.Pages.{get_or-pages, length-pages}
use Rattle.tree.specs.Tree.{under, below}
use Rattle.tree.specs.Walk.{Spot, Below, Over, Above}

pub none_left : (sz n : ℕ) (l : List ℕ) → n ≤ 0 → rows_of sz n l ≡ []
unfolding rows_of
none_left sz zero l h = refl
none_left sz (suc n) l h = absurd (not-suc-le-zero h)

-- ---- a property of each entry

pub each-head : {P : List ℕ → Type 0} {r : List ℕ} {rs : List (List ℕ)} → Each P (r ∷ rs) → P r
each-head (cons h p) = h

pub each_tail : {P : List ℕ → Type 0} {r : List ℕ} {rs : List (List ℕ)} → Each P (r ∷ rs) → Each P rs
each_tail (cons h p) = p

module _ (P : List ℕ → Type 0) (n at : ℕ) (l : List ℕ) (e : Each P (rows_of 8 n (drop at l))) (more : 0 < n) where
  pub each-here : P (part at 8 l)
  each-here = each-head (rw (rows_next 8 n at l more) at e)

  pub each-behind : Each P (rows_of 8 (n - 1) (drop (at + 8) l))
  each-behind = each_tail (rw (rows_next 8 n at l more) at e)

-- the page below the entry in front
pub spot-here : (sz : ℕ) (w : List ℕ) (n at : ℕ) (l : List ℕ) (q : ℕ) → q ≡ le2 l (at + 6) → Each (Below sz w) (rows_of 8 n (drop at l)) → 0 < n → Spot sz w q
spot-here sz w n at l q f e more = rw (f, ← page-row 8 at l (omega arith)) (each-here (Below sz w) n at l e more)

-- the base page below the entry in front, with the leaf pages below that
pub over-here : (w : List ℕ) (n at : ℕ) (l : List ℕ) (q : ℕ) → q ≡ le2 l (at + 6) → Each (Above w) (rows_of 8 n (drop at l)) → 0 < n → Over w q
over-here w n at l q f e more = rw (f, ← page-row 8 at l (omega arith)) (each-here (Above w) n at l e more)

-- ---- entries that point into from .. to

pub pointing-wider : (from to from' to' : ℕ) (es : List (List ℕ)) → from' ≤ from → to ≤ to' → pointing from to es ≡ true → pointing from' to' es ≡ true
unfolding pointing
pointing-wider from to from' to' [] a b t = refl
pointing-wider from to from' to' (e ∷ es) a b t =
    let t1 = both-2 _ _ t in
    both-intro _ _ (le-leb from' (to_page e) (le_trans a (leb-true from (to_page e) (both-1 _ _ t))))
    (both-intro _ _ (le-leb (to_page e) to' (le_trans (leb-true (to_page e) to (both-1 _ _ t1)) b)) (pointing-wider from to from' to' es a b (both-2 _ _ t1)))

module _ (from to n at : ℕ) (l : List ℕ) (e : pointing from to (rows_of 8 n (drop at l)) ≡ true) (more : 0 < n) where
  turn : both (leb from (le2 l (at + 6))) (both (leb (le2 l (at + 6)) to) (pointing from to (rows_of 8 (n - 1) (drop (at + 8) l)))) ≡ true
  turn = sym (pointing-next from to n at l more) ∙ e

  pub point-low : from ≤ le2 l (at + 6)
  point-low = leb-true from (le2 l (at + 6)) (both-1 _ _ turn)

  pub point-high : le2 l (at + 6) ≤ to
  point-high = leb-true (le2 l (at + 6)) to (both-1 _ _ (both-2 _ _ turn))

  pub point-behind : pointing from to (rows_of 8 (n - 1) (drop (at + 8) l)) ≡ true
  point-behind = both-2 _ _ (both-2 _ _ turn)

-- ---- pages below entries

pub under-page : (w : List ℕ) (n at : ℕ) (l : List ℕ) (q : ℕ) → q ≡ le2 l (at + 6) → q < 64 → under (pages w) (part at 8 l) ≡ page q w
unfolding under
under-page w n at l q f h = rw (page-row 8 at l (omega arith), ← f) (get_or-pages q w h)

pub below_next : (sz : ℕ) (w : List ℕ) (n at : ℕ) (l : List ℕ) (q : ℕ) → q ≡ le2 l (at + 6) → q < 64 → 0 < n
    → below sz (pages w) (rows_of 8 n (drop at l)) ≡ rows sz (page q w) ++ below sz (pages w) (rows_of 8 (n - 1) (drop (at + 8) l))
unfolding below
below_next sz w n at l q f h more = rw (rows_next 8 n at l more, under-page w n at l q f h)

-- ---- numbers of page p where they stand in all pages

pub count-page : (p : ℕ) (w : List ℕ) → le2 w (256 * p + 2) ≡ count (page p w)
unfolding count page
count-page p w = sym (le2-part (256 * p) 256 w 2 (omega arith))

pub letter-page : (p : ℕ) (w : List ℕ) → get_or w (256 * p + 1) 0 ≡ letter (page p w)
unfolding letter page
letter-page p w = sym (get_or-part (256 * p) 256 w 1 (omega arith))

pub first-page : (sz p : ℕ) (w : List ℕ) → 6 ≤ sz → 0 < count (page p w) → le4 w (256 * p + 18) ≡ key_of (get_or (rows sz (page p w)) 0 [])
unfolding page
first-page sz p w s h =
    let z : 16 + sz * 0 + 2 ≡ 18 = omega arith in
    sym (le4-part (256 * p) 256 w 18 (omega arith)) ∙ (rw z at (key-at sz 0 (page p w) s h))

-- ---- all pages, one after the other

pub pages-next : (p : ℕ) (w : List ℕ) → p < 64 → drop p (pages w) ≡ page p w ∷ drop (p + 1) (pages w)
pages-next p w h = rw (add-one p) (drop-cons (pages w) p [] (omega (arith, length-pages w)) ∙ rw (get_or-pages p w h))
