-- List over all leaf pages: the records of a page, then those behind it. Assumes nothing.
use Prim.Native.Nat.{ℕ, zero, suc, ◌+◌, ◌-◌, ◌*◌, ◌≤◌, ◌<◌}
use native.Mathlib.Omega.{arith}
use mathlib.Core.Path.{◌≡◌, refl, ap, ◌∙◌}
use mathlib.Core.Bool.{Bool, true, false}
use mathlib.Core.List.{List, [], ◌∷◌, ◌++◌}
use lib.ListN.{length, take, drop, length-drop}
use Rattle.page.specs.Page.{rows_of, to_page, count, rows}
use Rattle.page.specs.Pages.{page, pages}
use Rattle.page.specs.Each.{Each, nil, cons, Long}
use Rattle.page.proofs.Rows.{each_append, long-rows_of}
use Rattle.page.proofs.Pages.{get_or-pages, lent-page, length-page}
use Rattle.field.specs.Test.{pick}
use Rattle.tree.specs.Tree.{under, below, all_records}
use Rattle.tree.specs.Answer.{between, in_bounds, written, count_written, more_remain}
use Rattle.tree.specs.Walk.{Ascending, Spot, Below}
use Rattle.tree.specs.Reader.{Sound, from_root, behind, to_come, On, Ran, Lists}
use Rattle.tree.specs.declared.walk.Place.{Place}
use Rattle.tree.proofs.Onward.{come-on, come-end, sound-over, each-under, few-records}
use Rattle.tree.proofs.Listing.{Same, between-append, between-few, each-between, same_more, same_stop, same_end, length-write, written-run, count-run-all, more-run, count_small, count-least}

-- ---- every record has 16 bytes

pub each-drop : {P : List ℕ → Type 0} (i : ℕ) (es : List (List ℕ)) → Each P es → Each P (drop i es)
each-drop zero es p = p
each-drop (suc i) [] nil = nil
each-drop (suc i) (e ∷ es) (cons h p) = each-drop i es p

module _ (w : List ℕ) (whole : length w ≡ 16384) where
  long-page : (q : ℕ) → Spot 16 w q → Each (Long 16) (rows 16 (page q w))
  unfolding rows
  long-page q s = long-rows_of 16 (count (page q w)) (drop 16 (page q w)) (rw (length-drop 16 (page q w), length-page q w whole s.inside) (omega (arith, s.fits)))

  long-below : (es : List (List ℕ)) → Each (Below 16 w) es → Each (Long 16) (below 16 (pages w) es)
  unfolding below under
  long-below [] nil = nil
  long-below (e ∷ es) (cons h p) = rw (get_or-pages (to_page e) w h.inside) (each_append (long-page (to_page e) h) (long-below es p))

  long-behind : Sound w → (at : Place) → On w at → Each (Long 16) (behind w at)
  unfolding behind from_root
  long-behind s at on =
      each_append (long-below (drop at.entry (rows 8 (page at.base w))) (each-drop at.entry (rows 8 (page at.base w)) on.over.leaves))
      (long-below (below 8 (pages w) (drop at.root (rows 8 (page 0 w)))) (each-under w (drop at.root (rows 8 (page 0 w))) (each-drop at.root (rows 8 (page 0 w)) (sound-over w s))))

-- the page that is lent: its records fit it, there is one, and they ascend
pub spot-page : (w : List ℕ) (q m : ℕ) → length w ≡ 16384 → Spot 16 w q → m ≡ count (page q w)
    → let pg = take (256 * q + 256 - 256 * q) (drop (256 * q) w) in (length pg ≡ 256) × (m ≡ count pg) × (16 + 16 * m ≤ 256) × (0 < m) × Ascending (rows 16 pg)
spot-page w q m whole s e =
    rw (lent-page q w) (length-page q w whole s.inside, e, omega (arith, s.fits), omega (arith, s.full), s.order)

-- ---- what list answers

pub ran-answer : (rs : List (List ℕ)) (out out' : List ℕ) (k : ℕ) (z : Bool) → Ran 0 rs out out' k z
    → Lists rs out out' k z
ran-answer rs out out' k z r =
    (r.0 ∙ written-run rs out, r.1 ∙ count-run-all rs out, ap (λ (b : Bool). pick {A = ℕ} b 1 0) r.2 ∙ more-run rs out)

-- ---- the count is small
pub bounds-few : (low high : ℕ) (w : List ℕ) → Sound w → length (in_bounds low high w) ≤ 13500
unfolding in_bounds
bounds-few low high w s = omega (arith, between-few low high (all_records (pages w)), few-records w s)

pub same-small : (low high : ℕ) (w : List ℕ) (out₀ : List ℕ) (rest : List (List ℕ)) (out : List ℕ) (k : ℕ) → Sound w → Same (in_bounds low high w) out₀ 0 rest out k → k ≤ 13500
same-small low high w out₀ rest out k s r =
    omega (arith, r.count, count-least rest out k, count_small (in_bounds low high w) out₀ 0, bounds-few low high w s)

pub ran-small : (low high : ℕ) (w : List ℕ) (out₀ out' : List ℕ) (k : ℕ) (z : Bool) → Sound w → Ran 0 (in_bounds low high w) out₀ out' k z → k ≤ 13500
ran-small low high w out₀ out' k z s r = omega (arith, r.1, count_small (in_bounds low high w) out₀ 0, bounds-few low high w s)

-- ---- a leaf page, then those behind

module _ (w : List ℕ) (sound : Sound w) (every : List (List ℕ)) (out₀ : List ℕ) (low high : ℕ) (at : Place) (on : On w at) (front : at.row ≡ 0) (out : List ℕ) (k : ℕ)
    (s : Same every out₀ 0 (between low high (to_come w at)) out k) (m : ℕ) (e : m ≡ count (page at.leaf w)) (out' : List ℕ) (k' : ℕ) (z : Bool)
    (r : Ran k (between low high (rows_of 16 m (drop 16 (take (256 * at.leaf + 256 - 256 * at.leaf) (drop (256 * at.leaf) w))))) out out' k' z) where
  here : List (List ℕ)
  here = between low high (rows 16 (page at.leaf w))

  rest : List (List ℕ)
  rest = between low high (behind w at)

  apart : Same every out₀ 0 (here ++ rest) out k
  unfolding here rest
  apart =
      let c : to_come w at ≡ rows 16 (page at.leaf w) ++ behind w at = come-on w at on.spot.past ∙ rw front in
      rw (c, between-append low high (rows 16 (page at.leaf w)) (behind w at)) at s

  ran : Ran k here out out' k' z
  unfolding here rows
  ran = rw (lent-page at.leaf w, e) at r

  long-here : Each (Long 16) here
  unfolding here
  long-here = each-between low high (rows 16 (page at.leaf w)) (long-page w sound.form.whole at.leaf on.spot)

  long_rest : Each (Long 16) rest
  unfolding rest
  long_rest = each-between low high (behind w at) (long-behind w sound.form.whole sound at on)

  pub into_more : z ≡ false → (nx : Place) → to_come w nx ≡ behind w at → Same every out₀ 0 (between low high (to_come w nx)) out' k'
  unfolding rest
  into_more h nx g = rw g (same_more every out₀ 0 here rest out k apart long-here out' k' z ran long_rest h)

  pub into-stop : z ≡ true → Ran 0 every out₀ out' k' z
  into-stop h = same_stop every out₀ 0 here rest out k apart long-here out' k' z ran h

  answer : z ≡ true → Lists every out₀ out' k' true
  answer h = ran-answer every out₀ out' k' true (rw h at (into-stop h))

  pub into-bytes : z ≡ true → out' ≡ written every out₀
  into-bytes h = (answer h).0

  pub into-count : z ≡ true → k' ≡ count_written every out₀
  into-count h = (answer h).1

  pub into-remain : z ≡ true → pick true 1 0 ≡ more_remain every out₀
  into-remain h = (answer h).2

  pub into_few : z ≡ true → in_bounds low high w ≡ every → k' ≤ 13500
  into_few h q = ran-small low high w out₀ out' k' z sound (rw q (into-stop h))

  pub into-length : length out' ≡ length out₀
  into-length = rw ran.0 (length-write here out k long-here s.fits) ∙ s.room

pub into-end : (w : List ℕ) (every : List (List ℕ)) (out₀ : List ℕ) (low high : ℕ) (at : Place) (out : List ℕ) (k : ℕ) → Same every out₀ 0 (between low high (to_come w at)) out k
    → at.leaf ≡ 0 → Ran 0 every out₀ out k false
into-end w every out₀ low high at out k s h =
    let n : between low high [] ≡ [] = unfold between in refl in
    same_end every out₀ 0 out k (rw (come-end w at h, n) at s)
