-- 64 pages in form: the root's entries, the pages below them and their entries; and where each page is pointed to rightly, each page
-- below an entry has rows. Assumes nothing.
use Prim.Native.Nat.{ℕ, suc, ◌+◌, ◌-◌, ◌*◌, ◌≤◌, ◌<◌}
use native.Mathlib.Omega.{arith}
use mathlib.Core.Path.{◌≡◌, sym, ◌∙◌}
use mathlib.Core.Bool.{true, false, false≢true}
use mathlib.Core.List.{List, [], ◌∷◌, ◌++◌}
use lib.ListN.{length, take, drop, get_or}
use borrow.Author.Tests.{leb-true}
use Rattle.field.proofs.Test.{both-1, both-2}
use Rattle.page.specs.Page.{base, leaf, rows_of, to_page, pointing, count, rows, first_base, last_base, first_leaf, last_leaf, is_base, is_leaf, is_empty, formed}
use Rattle.page.specs.Places.{Basic, Leafy}
use Rattle.page.specs.Pages.{page, pages}
use Rattle.page.specs.Each.{Each, nil, cons}
use Rattle.page.proofs.Rows.{each_append, each_at}
use Rattle.page.proofs.Made.{shaped-facts}
use Rattle.page.proofs.Pages.{formed-page, get_or-pages, lent-page, length-page}
use Rattle.tree.specs.Tree.{under, root_entries, below, base_entries, pointed_once}
use Rattle.tree.specs.Walk.{InForm, Spot, Below, Over, Above}
use Rattle.tree.proofs.Regions.{as-root, as-empty, as-base, as-leaf, formed-kind, Ordered, entries-ordered, records-ordered, root-points, base-points}
use Rattle.tree.proofs.Turn.{pointing-wider}
use Rattle.tree.proofs.Tally.{once-full}

-- ---- the root

pub root-entries : (w : List ℕ) → root_entries (pages w) ≡ rows 8 (page 0 w)
unfolding root_entries
root-entries w = rw (get_or-pages 0 w (omega arith))

module _ (w : List ℕ) (f : InForm w) where
  pub root-formed : formed 0 (page 0 w) ≡ true
  root-formed = formed-page 0 w f.forms (omega arith)

  pub root-ordered : Ordered 8 101 110 30 (page 0 w)
  root-ordered = entries-ordered 0 (page 0 w) root-formed (omega arith)

  -- ---- a base page that is lent to a call over its entries

  module _ (q m : ℕ) (lo : first_base ≤ q) (hi : q ≤ last_base) (e : m ≡ count (page q w)) where
    base-formed : formed q (page q w) ≡ true
    base-formed = formed-page q w f.forms (omega arith)

    pub base-few : m ≤ 30
    base-few = omega (arith, (entries-ordered q (page q w) base-formed hi).room)

    pub base-asks : (16 + 8 * m ≤ length (take (256 * q + 256 - 256 * q) (drop (256 * q) w)))
        × (pointing 0 63 (rows_of 8 m (drop 16 (take (256 * q + 256 - 256 * q) (drop (256 * q) w)))) ≡ true)
    base-asks =
        let o : Ordered 8 101 110 30 (page q w) = entries-ordered q (page q w) base-formed hi in
        rw (lent-page q w)
        (omega (arith, o.whole, o.room), pointing-wider first_leaf last_leaf 0 63 _ (omega arith) (omega arith) (rw e (unfold rows in base-points q (page q w) base-formed lo hi)))

-- the same of a base page known to have leaf pages below
pub over-asks : (w : List ℕ) (q m : ℕ) → length w ≡ 16384 → Over w q → m ≡ count (page q w)
    → (16 + 8 * m ≤ length (take (256 * q + 256 - 256 * q) (drop (256 * q) w))) × Each (Below 16 w) (rows_of 8 m (drop 16 (take (256 * q + 256 - 256 * q) (drop (256 * q) w))))
over-asks w q m whole o e =
    rw (lent-page q w)
    (omega (arith, length-page q w whole o.base.inside, o.base.fits), rw e (unfold rows in o.leaves))

-- ---- pages pointed to rightly

pub each_of : {P : List ℕ → Type 0} (es : List (List ℕ)) → ((i : ℕ) → i < length es → P (get_or es i [])) → Each P es
each_of [] f = nil
each_of (e ∷ es) f = cons (f 0 (omega arith)) (each_of es (λ i h. f (suc i) (omega arith)))

pub each_left : {P : List ℕ → Type 0} (xs ys : List (List ℕ)) → Each P (xs ++ ys) → Each P xs
each_left [] ys p = nil
each_left (x ∷ xs) ys (cons h p) = cons h (each_left xs ys p)

pub each_right : {P : List ℕ → Type 0} (xs ys : List (List ℕ)) → Each P (xs ++ ys) → Each P ys
each_right [] ys p = p
each_right (x ∷ xs) ys (cons h p) = each_right xs ys p

pub each_map : {P Q : List ℕ → Type 0} {es : List (List ℕ)} → ((e : List ℕ) → P e → Q e) → Each P es → Each Q es
each_map f nil = nil
each_map f (cons {r} h p) = cons (f r h) (each_map f p)

-- an entry's page, where that page is not empty
abbrev Full : List ℕ → List ℕ → Type 0
Full w e = is_empty (page (to_page e) w) ≡ false

pointing-each : (from to : ℕ) (es : List (List ℕ)) → pointing from to es ≡ true → Each (λ e. (from ≤ to_page e) × (to_page e ≤ to)) es
unfolding pointing
pointing-each from to [] t = nil
pointing-each from to (e ∷ es) t =
    let t1 = both-2 _ _ t in
    cons (leb-true from (to_page e) (both-1 _ _ t), leb-true (to_page e) to (both-1 _ _ t1)) (pointing-each from to es (both-2 _ _ t1))

-- a page in form that is not empty has a row
full-count : (q : ℕ) (pg : List ℕ) → formed q pg ≡ true → 0 < q → is_empty pg ≡ false → 0 < count pg
full-count q pg e h t = elim (formed-kind q pg e) [
  | as-root z s ↦ absurd (let x : ⊥ = omega arith in x)
  | as-empty z s ↦ absurd (false≢true (sym t ∙ s))
  | as-base z k s ↦ let y : 1 ≤ count pg = unfold is_base in (shaped-facts base pg (both-1 _ _ s)).enough in y
  | as-leaf k s ↦ let y : 1 ≤ count pg = unfold is_leaf in (shaped-facts leaf pg s).enough in y
]

module _ (w : List ℕ) (f : InForm w) where
  spot_base : (q : ℕ) → first_base ≤ q → q ≤ last_base → is_empty (page q w) ≡ false → Spot 8 w q
  spot_base q lo hi t =
      let g : formed q (page q w) ≡ true = formed-page q w f.forms (omega arith) in
      let o : Ordered 8 101 110 30 (page q w) = entries-ordered q (page q w) g hi in
      record {
        past = omega arith;
        inside = omega arith;
        fits = omega (arith, o.room);
        full = full-count q (page q w) g lo t;
        order = record { one = 101; two = 110; order = o.order };
      }

  spot-leaf : (q : ℕ) → first_leaf ≤ q → q ≤ last_leaf → is_empty (page q w) ≡ false → Spot 16 w q
  spot-leaf q lo hi t =
      let g : formed q (page q w) ≡ true = formed-page q w f.forms (omega arith) in
      let o : Ordered 16 114 99 15 (page q w) = records-ordered q (page q w) g lo in
      record {
        past = omega arith;
        inside = omega arith;
        fits = omega (arith, o.room);
        full = full-count q (page q w) g (omega arith) t;
        order = record { one = 114; two = 99; order = o.order };
      }

  spots : (es : List (List ℕ)) → Each (λ e. Leafy (to_page e)) es → Each (Full w) es → Each (Below 16 w) es
  spots [] nil nil = nil
  spots (e ∷ es) (cons h p) (cons t q) = cons (spot-leaf (to_page e) h.0 h.1 t) (spots es p q)

  overs : (es : List (List ℕ)) → Each (λ e. Basic (to_page e)) es → Each (Full w) es → Each (Full w) (below 8 (pages w) es) → Each (Above w) es
  unfolding below under
  overs [] nil nil r = nil
  overs (e ∷ es) (cons h p) (cons t q) r =
      let g : to_page e < 64 = omega (arith, h.1) in
      let r1 : Each (Full w) (rows 8 (page (to_page e) w)) = rw (get_or-pages (to_page e) w g) at (each_left (rows 8 (get_or (pages w) (to_page e) [])) (below 8 (pages w) es) r) in
      let fm : formed (to_page e) (page (to_page e) w) ≡ true = formed-page (to_page e) w f.forms g in
      cons
      (record {
        base = spot_base (to_page e) h.0 h.1 t;
        leaves = spots (rows 8 (page (to_page e) w)) (pointing-each first_leaf last_leaf (rows 8 (page (to_page e) w)) (base-points (to_page e) (page (to_page e) w) fm h.0 h.1)) r1;
      })
      (overs es p q (each_right (rows 8 (get_or (pages w) (to_page e) [])) (below 8 (pages w) es) r))

  -- all entries of base pages point to leaf pages
  level-points : (es : List (List ℕ)) → Each (λ e. Basic (to_page e)) es → Each (λ e. Leafy (to_page e)) (below 8 (pages w) es)
  unfolding below under
  level-points [] nil = nil
  level-points (e ∷ es) (cons h p) =
      let g : to_page e < 64 = omega (arith, h.1) in
      let fm : formed (to_page e) (page (to_page e) w) ≡ true = formed-page (to_page e) w f.forms g in
      rw (get_or-pages (to_page e) w g)
      (each_append (pointing-each first_leaf last_leaf (rows 8 (page (to_page e) w)) (base-points (to_page e) (page (to_page e) w) fm h.0 h.1)) (level-points es p))

  -- the entries of root and base pages, where each page is pointed to rightly
  pub all-over : pointed_once (root_entries (pages w) ++ base_entries (pages w)) 1 (drop 1 (pages w)) ≡ true → Each (Above w) (rows 8 (page 0 w))
  unfolding base_entries
  all-over e =
      let es : List (List ℕ) = root_entries (pages w) in
      let level : List (List ℕ) = below 8 (pages w) es in
      let rp : Each (λ x. Basic (to_page x)) es = rw (root-entries w) (pointing-each first_base last_base (rows 8 (page 0 w)) (root-points (page 0 w) (root-formed w f))) in
      let lp : Each (λ x. Leafy (to_page x)) level = level-points es rp in
      let both-in : Each (λ x. (1 ≤ to_page x) × (to_page x < 64)) (es ++ level) =
      each_append (each_map (λ x h. (h.0, omega (arith, h.1))) rp) (each_map (λ x h. (omega (arith, h.0), omega (arith, h.1))) lp) in
      let full : Each (Full w) (es ++ level) = each_of (es ++ level) (λ i h. let g = each_at i both-in h in once-full (es ++ level) w i e h g.0 g.1) in
      rw (root-entries w) at (overs es rp (each_left es level full) (each_right es level full))
