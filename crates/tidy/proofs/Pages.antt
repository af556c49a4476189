-- The state of 64 pages in form: what stands on each leaf page, the entries of each base page, and what a page replaced changes of them.
-- Assumes nothing.
use Prim.Native.Nat.{ℕ, ◌*◌, ◌≤◌, ◌<◌}
use native.Mathlib.Omega.{arith}
use mathlib.Core.Path.{◌≡◌, refl, sym, ◌∙◌}
use mathlib.Core.Logic.{◌≢◌, ◌⊎◌, inr, ⊎_elim}
use mathlib.Core.Bool.{Bool, true, false, cond}
use mathlib.Core.List.{List, []}
use borrow.Author.Tests.{le-leb, lt-leb, eq-eqb, ne_eqb}
use lib.Dec.{eqb, leb}
use lib.ListN.{length, drop_of_length-le}
use Rattle.field.specs.Test.{pick}
use Rattle.field.specs.Bytes.{part, Bytes}
use Rattle.field.proofs.Test.{both-1, both-2, pick-or}
use Rattle.field.proofs.Part.{split}
use Rattle.page.specs.Page.{count, root, base, leaf, empty, rows, rows_of, entries, records, is_root, is_base, is_leaf, is_empty, formed}
use Rattle.page.specs.Page.{first_base, last_base, first_leaf, to_bases}
use Rattle.page.specs.Pages.{page, put_page}
use Rattle.page.proofs.Made.{shaped-facts, Fill, fit-leaf, fit-base, fit-root}
use Rattle.page.proofs.Region.{fill-of}
use Rattle.page.proofs.Pages.{bytes-put_page, length-put_page, page-put_page-same, page-put_page-other, formed-page, formed-put_page}
use Rattle.tidy.specs.Tidy.{Sound}
use Rattle.tidy.proofs.Model.{Entry, upd}
use Rattle.tidy.proofs.Trail.{eq?}
use Rattle.tidy.proofs.Entries.{ents}

-- ---- the kinds of page in form

-- the root
pub root-form : (pg : List ℕ) → formed 0 pg ≡ true → is_root pg ≡ true
unfolding formed pick
root-form pg e = rw (eq-eqb 0 0 refl) at e

-- a base page: empty, or of entries
pub base-form : (p : ℕ) (pg : List ℕ) → first_base ≤ p → p ≤ last_base → formed p pg ≡ true → (is_empty pg ≡ true) ⊎ (is_base pg ≡ true)
unfolding formed
base-form p pg h k e = by_tests (eqb p 0) (ne_eqb p 0 (λ z. omega arith)) (leb p last_base) (le-leb p last_base k) e
  where
    by_tests : (t : Bool) → t ≡ false → (u : Bool) → u ≡ true → pick t (is_root pg) (pick (is_empty pg) true (pick u (is_base pg) (is_leaf pg))) ≡ true
        → (is_empty pg ≡ true) ⊎ (is_base pg ≡ true)
    by_tests t a u b f = pick-or (is_empty pg) (is_base pg) (unfold pick in (rw (a, b) at f))

-- a leaf page: empty, or of records
pub leaf-form : (p : ℕ) (pg : List ℕ) → first_leaf ≤ p → formed p pg ≡ true → (is_empty pg ≡ true) ⊎ (is_leaf pg ≡ true)
unfolding formed
leaf-form p pg h e = by_tests (eqb p 0) (ne_eqb p 0 (λ z. omega arith)) (leb p last_base) (lt-leb p last_base h) e
  where
    by_tests : (t : Bool) → t ≡ false → (u : Bool) → u ≡ false → pick t (is_root pg) (pick (is_empty pg) true (pick u (is_base pg) (is_leaf pg))) ≡ true
        → (is_empty pg ≡ true) ⊎ (is_leaf pg ≡ true)
    by_tests t a u b f = pick-or (is_empty pg) (is_leaf pg) (unfold pick in (rw (a, b) at f))

-- an empty page has no rows
pub rows_empty : (sz : ℕ) (pg : List ℕ) → is_empty pg ≡ true → rows sz pg ≡ []
unfolding is_empty rows rows_of
rows_empty sz pg e = let z : count pg ≡ 0 = omega (arith, (shaped-facts empty pg e).room) in rw z

-- a leaf has rows
pub leaf-rows : (pg : List ℕ) → is_leaf pg ≡ true → Fill leaf (records pg)
unfolding is_leaf
leaf-rows pg e = fill-of leaf pg fit-leaf e

-- a base page has entries
pub base-rows : (pg : List ℕ) → is_base pg ≡ true → Fill base (entries pg)
unfolding is_base
base-rows pg e = fill-of base pg fit-base (both-1 _ _ e)

-- the root may have some
pub root-rows : (pg : List ℕ) → is_root pg ≡ true → Fill root (entries pg)
unfolding is_root
root-rows pg e = fill-of root pg fit-root (both-1 _ _ e)

-- the root's entries point to base pages
pub root-pointing : (pg : List ℕ) → is_root pg ≡ true → to_bases (entries pg) ≡ true
unfolding is_root
root-pointing pg e = both-2 _ _ e

-- ---- 64 pages of bytes in form

-- each page is in form
pub sound-page : (p : ℕ) (w : List ℕ) → Sound w → p < 64 → formed p (page p w) ≡ true
sound-page p w h k = formed-page p w h.form k

-- no page stands behind the 64
pub page-past : (p : ℕ) (w : List ℕ) → length w ≡ 16384 → 64 ≤ p → page p w ≡ []
unfolding page part
page-past p w e h = let k : length w ≤ 256 * p = omega arith in rw (drop_of_length-le w {i = 256 * p} k)

-- ---- what stands on each page

-- the records of a leaf page
abbrev pub leaf_of : List ℕ → ℕ → List (List ℕ)
leaf_of w p = cond (leb first_leaf p) (records (page p w)) []

-- the entries of a base page
abbrev pub base_of : List ℕ → ℕ → List Entry
base_of w p = cond (leb first_base p) (cond (leb p last_base) (ents (entries (page p w))) []) []

-- the root's entries
abbrev pub root_of : List ℕ → List Entry
root_of w = ents (entries (page 0 w))

-- of a leaf page
pub leaf-at : (w : List ℕ) (p : ℕ) → first_leaf ≤ p → leaf_of w p ≡ records (page p w)
leaf-at w p h = rw (le-leb first_leaf p h)

-- of any other
pub leaf-not : (w : List ℕ) (p : ℕ) → p < first_leaf → leaf_of w p ≡ []
leaf-not w p h = rw (lt-leb first_leaf p h)

-- of a base page
pub base-at : (w : List ℕ) (p : ℕ) → first_base ≤ p → p ≤ last_base → base_of w p ≡ ents (entries (page p w))
base-at w p h k = rw (le-leb first_base p h, le-leb p last_base k)

-- of any other
pub base-not : (w : List ℕ) (p : ℕ) → (p ≡ 0) ⊎ (first_leaf ≤ p) → base_of w p ≡ []
base-not w p s =
    ⊎_elim (λ (e : p ≡ 0). rw (lt-leb first_base p (omega arith))) (λ (h : first_leaf ≤ p). rw (le-leb first_base p (omega arith), lt-leb p last_base h)) s

-- ---- a page replaced

module _ (p : ℕ) (pg w : List ℕ) (sound : Sound w) (small : p < 64) (long : length pg ≡ 256) where
  -- the pages stay in form
  pub sound-put : Bytes pg → formed p pg ≡ true → Sound (put_page p pg w)
  sound-put b f =
      record {
        whole = length-put_page p w sound.whole small pg long;
        bytes = bytes-put_page p pg w b sound.bytes;
        form = formed-put_page p pg w sound.whole small long f sound.form;
      }

  -- the page itself
  pub page-same : page p (put_page p pg w) ≡ pg
  page-same = page-put_page-same p w sound.whole small pg long

  -- any other page
  pub page-other : (q : ℕ) → q ≢ p → page q (put_page p pg w) ≡ page q w
  page-other q d =
      split q 64
      (λ h. page-put_page-other p w sound.whole small pg long q h d)
      (λ h. page-past q (put_page p pg w) (length-put_page p w sound.whole small pg long) h ∙ sym (page-past q w sound.whole h))

  -- a leaf page
  pub put-leaf : first_leaf ≤ p → (q : ℕ) → upd (leaf_of w) p (records pg) q ≡ leaf_of (put_page p pg w) q
  put-leaf h q =
      ⊎_elim
      (λ (e : q ≡ p). rw (eq-eqb q p e, e, le-leb first_leaf p h, page-same))
      (λ (d : q ≢ p). rw (ne_eqb q p d, page-other q d))
      (eq? q p)

  -- base pages stay
  pub put-leaf-base : first_leaf ≤ p → (q : ℕ) → base_of w q ≡ base_of (put_page p pg w) q
  put-leaf-base h q =
      split q first_leaf
      (λ k. rw (page-other q (λ e. omega arith)))
      (λ k. base-not w q (inr k) ∙ sym (base-not (put_page p pg w) q (inr k)))

  -- a base page
  pub put-base : first_base ≤ p → p ≤ last_base → (q : ℕ) → upd (base_of w) p (ents (entries pg)) q ≡ base_of (put_page p pg w) q
  put-base h k q =
      ⊎_elim
      (λ (e : q ≡ p). rw (eq-eqb q p e, e, le-leb first_base p h, le-leb p last_base k, page-same))
      (λ (d : q ≢ p). rw (ne_eqb q p d, page-other q d))
      (eq? q p)

  -- leaf pages stay
  pub put-base-leaf : p ≤ last_base → (q : ℕ) → leaf_of w q ≡ leaf_of (put_page p pg w) q
  put-base-leaf h q =
      split q first_leaf
      (λ k. leaf-not w q k ∙ sym (leaf-not (put_page p pg w) q k))
      (λ k. rw (page-other q (λ e. omega arith)))

  -- the root stays
  pub put-root : 1 ≤ p → page 0 (put_page p pg w) ≡ page 0 w
  put-root h = page-other 0 (λ e. omega arith)
