-- The walk through all records in key order: what is left at a position, and at the next one. Assumes nothing.
use Prim.Native.Nat.{ℕ, ◌+◌, ◌*◌, ◌≤◌, ◌<◌}
use native.Mathlib.Nat.{mul-suc}
use native.Mathlib.Numerals.{add-one}
use native.Mathlib.Omega.{arith}
use mathlib.Core.Path.{◌≡◌, refl, sym, ap, ◌∙◌}
use mathlib.Core.List.{List, [], ◌∷◌, ◌++◌, append_assoc}
use lib.ListN.{length, drop, get_or, length-append, drop_of_length-le}
use lib.Seq.{drop-cons}
use borrow.Author.Tests.{eq-eqb, ne_eqb}
use Rattle.field.specs.Bytes.{part, le2}
use Rattle.field.proofs.Test.{all_head, pick_true, pick-false}
use Rattle.field.proofs.Number.{le2-part}
use Rattle.field.proofs.Part.{part-part}
use Rattle.page.specs.Page.{to_page, count, rows}
use Rattle.page.specs.Pages.{page, pages}
use Rattle.page.specs.Each.{Each, nil, cons}
use Rattle.page.proofs.Rows.{each_append, each_at, length-rows, page-at, get_or_rows}
use Rattle.page.proofs.Pages.{get_or-pages}
use Rattle.tree.specs.Tree.{under, below, base_entries, all_records, well_formed}
use Rattle.tree.specs.Walk.{Spot, Below, Over, Above}
use Rattle.tree.specs.Reader.{Sound, from_root, behind, to_come, On, Stands}
use Rattle.tree.specs.declared.walk.Place.{Place}
use Rattle.tree.proofs.Sound.{root-entries, root-ordered, all-over, each_map}

-- entry i of page p where it stands in all pages
pub entry-page : (p i : ℕ) (w : List ℕ) → 16 + 8 * count (page p w) ≤ 256 → i < count (page p w) → le2 w (256 * p + (16 + 8 * i + 6)) ≡ to_page (get_or (rows 8 (page p w)) i [])
unfolding page
entry-page p i w h k = sym (le2-part (256 * p) 256 w (16 + 8 * i + 6) (omega arith)) ∙ page-at i (page p w) k

-- ---- rows below entries

pub below-append : (sz : ℕ) (ps xs ys : List (List ℕ)) → below sz ps (xs ++ ys) ≡ below sz ps xs ++ below sz ps ys
unfolding below
below-append sz ps [] ys = refl
below-append sz ps (e ∷ es) ys = rw (below-append sz ps es ys) (sym (append_assoc (rows sz (under ps e)) (below sz ps es) (below sz ps ys)))

pub below-drop : (sz : ℕ) (w : List ℕ) (es : List (List ℕ)) (i q : ℕ) → i < length es → q ≡ to_page (get_or es i []) → q < 64
    → below sz (pages w) (drop i es) ≡ rows sz (page q w) ++ below sz (pages w) (drop (i + 1) es)
unfolding below under
below-drop sz w es i q h e k = rw (add-one i, drop-cons es i [] h, ← e, get_or-pages q w k)

pub below-done : (sz : ℕ) (ps es : List (List ℕ)) (i : ℕ) → length es ≤ i → below sz ps (drop i es) ≡ []
below-done sz ps es i h = rw (drop_of_length-le es h) (unfold below in refl)

-- ---- the entries of a well-formed tree

module _ (w : List ℕ) (s : Sound w) where
  pub sound-over : Each (Above w) (rows 8 (page 0 w))
  unfolding well_formed
  sound-over = all-over w s.form (all_head _ _ s.well)

  pub root_over : (i b : ℕ) → i < count (page 0 w) → b ≡ to_page (get_or (rows 8 (page 0 w)) i []) → Over w b
  root_over i b h e = rw e (each_at i sound-over (rw (length-rows 8 (page 0 w)) h))

  pub root-fits : 16 + 8 * count (page 0 w) ≤ 256
  root-fits = omega (arith, (root-ordered w s.form).room)

pub leaf-spot : (w : List ℕ) (b j q : ℕ) → Over w b → j < count (page b w) → q ≡ to_page (get_or (rows 8 (page b w)) j []) → Spot 16 w q
leaf-spot w b j q o h e = rw e (each_at j o.leaves (rw (length-rows 8 (page b w)) h))

-- ---- positions

-- what is left at a position on a leaf page
pub come-on : (w : List ℕ) (at : Place) → 0 < at.leaf → to_come w at ≡ drop at.row (rows 16 (page at.leaf w)) ++ behind w at
unfolding to_come
come-on w at h = pick-false _ _ _ (ne_eqb at.leaf 0 (λ z. omega arith))

pub come-end : (w : List ℕ) (at : Place) → at.leaf ≡ 0 → to_come w at ≡ []
unfolding to_come
come-end w at h = pick_true _ _ _ (eq-eqb at.leaf 0 h)

pub end-stands : (w : List ℕ) (at : Place) → at.leaf ≡ 0 → Stands w at
end-stands w at h = record { on = λ k. absurd (let x : ⊥ = omega arith in x) }

-- the first record of leaf page q, below entry j of base page b
module _ (w : List ℕ) (o b j q : ℕ) (over : Over w b) (h : j < count (page b w)) (e : q ≡ to_page (get_or (rows 8 (page b w)) j [])) where
  abbrev there : Place
  there = record { root = o; base = b; entry = j + 1; leaf = q; row = 0 }

  pub there-stands : Stands w there
  there-stands = let s : Spot 16 w q = leaf-spot w b j q over h e in record { on = λ k. record { over = over; spot = s; here = s.full } }

  pub there-come : to_come w there ≡ below 16 (pages w) (drop j (rows 8 (page b w))) ++ from_root w o
  unfolding behind
  there-come =
      let s : Spot 16 w q = leaf-spot w b j q over h e in
      let k : j < length (rows 8 (page b w)) = rw (length-rows 8 (page b w)) h in
      come-on w there s.past
      ∙ sym (append_assoc (rows 16 (page q w)) (below 16 (pages w) (drop (j + 1) (rows 8 (page b w)))) (from_root w o))
      ∙ ap (λ (x : List (List ℕ)). x ++ from_root w o) (sym (below-drop 16 w (rows 8 (page b w)) j q k e s.inside))

-- below entry i of the root
pub root-come : (w : List ℕ) (s : Sound w) (i b : ℕ) → i < count (page 0 w) → b ≡ to_page (get_or (rows 8 (page 0 w)) i [])
    → from_root w i ≡ below 16 (pages w) (drop 0 (rows 8 (page b w))) ++ from_root w (i + 1)
unfolding from_root
root-come w s i b h e =
    let k : i < length (rows 8 (page 0 w)) = rw (length-rows 8 (page 0 w)) h in
    ap (below 16 (pages w)) (below-drop 8 w (rows 8 (page 0 w)) i b k e (root_over w s i b h e).base.inside)
    ∙ below-append 16 (pages w) (rows 8 (page b w)) (below 8 (pages w) (drop (i + 1) (rows 8 (page 0 w))))

pub from-done : (w : List ℕ) (i : ℕ) → count (page 0 w) ≤ i → from_root w i ≡ []
unfolding from_root
from-done w i h = rw (below-done 8 (pages w) (rows 8 (page 0 w)) i (rw (length-rows 8 (page 0 w)) h)) (unfold below in refl)

pub all_from : (w : List ℕ) → from_root w 0 ≡ all_records (pages w)
unfolding from_root all_records base_entries
all_from w = rw (root-entries w)

-- behind the last entry of a base page
pub behind-base : (w : List ℕ) (at : Place) → count (page at.base w) ≤ at.entry → behind w at ≡ from_root w at.root
unfolding behind
behind-base w at h = rw (below-done 16 (pages w) (rows 8 (page at.base w)) at.entry (rw (length-rows 8 (page at.base w)) h))

-- ---- the next record

module _ (w : List ℕ) (at : Place) (on : On w at) where
  abbrev rs : List (List ℕ)
  rs = rows 16 (page at.leaf w)

  inside-rows : at.row < length (rows 16 (page at.leaf w))
  inside-rows = rw (length-rows 16 (page at.leaf w)) on.here

  -- the record at the position is the first of those to come
  pub come-first : to_come w at ≡ part (16 + 16 * at.row) 16 (page at.leaf w) ∷ (drop (at.row + 1) (rows 16 (page at.leaf w)) ++ behind w at)
  come-first = come-on w at on.spot.past ∙ rw (drop-cons rs at.row [] inside-rows, add-one at.row, get_or_rows 16 at.row (page at.leaf w) on.here)

  pub come-more : to_come w (record { root = at.root; base = at.base; entry = at.entry; leaf = at.leaf; row = at.row + 1 }) ≡ drop 1 (to_come w at)
  unfolding behind
  come-more =
      come-on w (record { root = at.root; base = at.base; entry = at.entry; leaf = at.leaf; row = at.row + 1 }) on.spot.past
      ∙ sym (ap (drop 1) come-first)

  pub stands-more : at.row + 1 < count (page at.leaf w)
      → Stands w (record { root = at.root; base = at.base; entry = at.entry; leaf = at.leaf; row = at.row + 1 })
  stands-more h = record { on = λ k. record { over = on.over; spot = on.spot; here = h } }

  pub come-behind : count (page at.leaf w) ≤ at.row + 1 → behind w at ≡ drop 1 (to_come w at)
  come-behind h =
      let k : length (rows 16 (page at.leaf w)) ≤ at.row + 1 = rw (length-rows 16 (page at.leaf w)) h in
      sym (ap (drop 1) come-first ∙ rw (drop_of_length-le rs k))

  -- the record's bytes among all pages
  pub come-bytes : length w ≡ 16384 → part (256 * at.leaf + (16 + 16 * at.row)) 16 w ≡ get_or (to_come w at) 0 []
  unfolding page
  come-bytes whole =
      let small : at.leaf < 64 = on.spot.inside in
      sym (part-part (16 + 16 * at.row) 16 (256 * at.leaf) 256 w (omega (arith, on.here, on.spot.fits)) (omega arith))
      ∙ sym (ap (λ (x : List (List ℕ)). get_or x 0 []) come-first)

  -- fewer records are left behind the leaf page
  pub behind-less : length (behind w at) < length (to_come w at)
  behind-less =
      rw (come-first, length-append (drop (at.row + 1) (rows 16 (page at.leaf w))) (behind w at)) (omega arith)

-- ---- how many records there are

below-few : (sz m : ℕ) (w : List ℕ) (es : List (List ℕ)) → Each (λ e. (to_page e < 64) × (count (page (to_page e) w) ≤ m)) es → length (below sz (pages w) es) ≤ m * length es
unfolding below under
below-few sz m w [] nil = omega arith
below-few sz m w (e ∷ es) (cons h p) =
    rw (get_or-pages (to_page e) w h.0, length-append (rows sz (page (to_page e) w)) (below sz (pages w) es), length-rows sz (page (to_page e) w))
    (omega (arith, h.1, below-few sz m w es p, mul-suc m (length es)))

pub each-under : (w : List ℕ) (es : List (List ℕ)) → Each (Above w) es → Each (Below 16 w) (below 8 (pages w) es)
unfolding below under
each-under w [] nil = nil
each-under w (e ∷ es) (cons h p) = rw (get_or-pages (to_page e) w h.base.inside) (each_append h.leaves (each-under w es p))

pub few-records : (w : List ℕ) → Sound w → length (all_records (pages w)) ≤ 13500
unfolding all_records base_entries
few-records w s =
    let es : List (List ℕ) = rows 8 (page 0 w) in
    let o : Each (Above w) es = sound-over w s in
    let ne : length es ≤ 30 = rw (length-rows 8 (page 0 w)) (root-ordered w s.form).room in
    let nb : length (below 8 (pages w) es) ≤ 30 * length es = below-few 8 30 w es (each_map (λ x h. (h.base.inside, omega (arith, h.base.fits))) o) in
    let nr : length (below 16 (pages w) (below 8 (pages w) es)) ≤ 15 * length (below 8 (pages w) es) =
    below-few 16 15 w (below 8 (pages w) es) (each_map (λ x h. (h.inside, omega (arith, h.fits))) (each-under w es o)) in
    rw (root-entries w) (omega arith)
