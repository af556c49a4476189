-- The walk over the leaves in key order as code makes it: the root's entries where they stand at the front of all pages, the base page
-- below the entry in front, the leaves below that, and those behind. Assumes nothing.
use Prim.Native.Nat.{ℕ, ◌+◌, ◌-◌, ◌*◌, ◌≤◌, ◌<◌}
use native.Mathlib.Omega.{arith}
use mathlib.Core.Path.{◌≡◌, sym, ap, ◌∙◌}
use mathlib.Core.Bool.{true}
use mathlib.Core.List.{List, [], ◌++◌}
use mathlib.Core.Option.{Option}
use lib.ListN.{length, take, drop, get_or, take-append-drop, length-take, length-drop}
use lib.Seq.{drop-append-le}
use lib.Dec.{eqb}
use Rattle.field.specs.Bytes.{le2}
use Rattle.page.specs.Page.{rows_of, to_bases, first_base, last_base, count, rows, entries, is_empty, formed}
use Rattle.page.specs.Pages.{page, pages}
use Rattle.page.specs.Places.{Basic}
use Rattle.page.proofs.Rows.{rows_of-front, page-row}
use Rattle.page.proofs.Turns.{rows_next}
use Rattle.page.proofs.Pages.{formed-page, lent-page}
use Rattle.tree.specs.Tree.{root_entries, leaves_under, leaves_below}
use Rattle.tree.specs.Walk.{InForm}
use Rattle.tree.proofs.Regions.{entries-ordered, root-points}
use Rattle.tree.proofs.Turn.{none_left, under-page, letter-page, point-low, point-high, point-behind}
use Rattle.tree.proofs.Tally.{letter-tells}
use Rattle.tree.proofs.Sound.{root-entries, root-formed, root-ordered, base-few, base-asks}
use Rattle.tree.proofs.Chain.{root-rows}
use Rattle.unit.specs.Next.{lowest_to}

-- a page's letter says whether it is empty
pub empty-letter : (w : List ℕ) (p : ℕ) → InForm w → p < 64 → eqb (get_or w (256 * p + 1) 0) 101 ≡ is_empty (page p w)
empty-letter w p f h = rw (letter-page p w) (sym (letter-tells p (page p w) (formed-page p w f.forms h)))

-- ---- the root's entries at the front of all pages

module _ (w : List ℕ) (f : InForm w) (n : ℕ) (e : n ≡ count (page 0 w)) where
  pub few-root : n ≤ 30
  few-root = omega (arith, (root-ordered w f).room)

  pub root-front : rows_of 8 n (drop 16 w) ≡ root_entries (pages w)
  root-front =
      let m = few-root in
      let lt : length (take 256 w) ≡ 256 = length-take 256 w ∙ rw f.whole in
      let ld : length (drop 16 (take 256 w)) ≡ 240 = length-drop 16 (take 256 w) ∙ rw lt in
      let s : drop 16 w ≡ drop 16 (take 256 w) ++ drop 256 w =
      ap (drop 16) (sym (take-append-drop 256 w)) ∙ drop-append-le 16 (take 256 w) (drop 256 w) (omega arith) in
      rw s (rows_of-front 8 n (drop 16 (take 256 w)) (drop 256 w) (omega arith)) ∙ root-rows w f n e

  pub root-pointing : to_bases (rows_of 8 n (drop 16 w)) ≡ true
  root-pointing = rw (root-front, root-entries w) (root-points (page 0 w) (root-formed w f))

-- ---- the leaves below the entry in front, and those behind

pub leaves-next : (w : List ℕ) (n at : ℕ) (l : List ℕ) (q : ℕ) → q ≡ le2 l (at + 6) → q < 64 → 0 < n
    → leaves_below (pages w) (rows_of 8 n (drop at l))
    ≡ leaves_under (pages w) q (rows 8 (page q w)) ++ leaves_below (pages w) (rows_of 8 (n - 1) (drop (at + 8) l))
unfolding leaves_below
leaves-next w n at l q f h more = rw (rows_next 8 n at l more, under-page w n at l q f h, page-row 8 at l (omega arith), ← f)

pub leaves-end : (w : List ℕ) (n : ℕ) (l : List ℕ) → n ≤ 0 → leaves_below (pages w) (rows_of 8 n l) ≡ []
unfolding leaves_below
leaves-end w n l h = rw (none_left 8 n l h)

-- ---- root entries still to be walked: `left` of them, from the offset at of all pages

pub record Ahead (w : List ℕ) (at left : ℕ) : Type 0 where
  pub form : InForm w
  pub fits : at + 8 * left ≤ 256
  pub points : to_bases (rows_of 8 left (drop at w)) ≡ true

pub ahead-all : (w : List ℕ) (n : ℕ) → InForm w → n ≡ count (page 0 w) → Ahead w 16 n
ahead-all w n f e = record { form = f; fits = omega (arith, few-root w f n e); points = root-pointing w f n e }

module _ (w : List ℕ) (at left : ℕ) (a : Ahead w at left) (more : 0 < left) where
  pub ahead-behind : Ahead w (at + 8) (left - 1)
  ahead-behind = record { form = a.form; fits = omega (arith, a.fits); points = point-behind first_base last_base left at w a.points more }

  module _ (q : ℕ) (f : q ≡ le2 w (at + 6)) where
    -- the base page below the entry in front
    pub ahead-base : Basic q
    ahead-base = (omega (arith, point-low first_base last_base left at w a.points more), omega (arith, point-high first_base last_base left at w a.points more))

    -- its entries, m of them, where it is lent
    module _ (m : ℕ) (g : m ≡ count (page q w)) where
      pub base-count : m ≤ 30
      base-count = base-few w a.form q m ahead-base.0 ahead-base.1 g

      pub base-room : 16 + 8 * m ≤ length (take (256 * q + 256 - 256 * q) (drop (256 * q) w))
      base-room = (base-asks w a.form q m ahead-base.0 ahead-base.1 g).0

-- the entries of a base page where it is lent
pub base-rows : (w : List ℕ) (q m : ℕ) → m ≡ count (page q w) → rows_of 8 m (drop 16 (take (256 * q + 256 - 256 * q) (drop (256 * q) w))) ≡ rows 8 (page q w)
unfolding rows
base-rows w q m g = rw (lent-page q w, g)

-- a page of the root's or a base page's place, where it is lent: its entries lie within
pub lent-room : (w : List ℕ) (q m : ℕ) → m ≡ count (page q w) → formed q (page q w) ≡ true → q < 8 → 16 + 8 * m ≤ length (take (256 * q + 256 - 256 * q) (drop (256 * q) w))
lent-room w q m g f h =
    let o = entries-ordered q (page q w) f (omega arith) in
    rw (lent-page q w) (omega (arith, o.room, o.whole))

-- what holds of them holds of the page's entries
pub lent-lowest! : (w : List ℕ) (q m p : ℕ) (s o : Option ℕ) → o ≡ lowest_to s p (rows_of 8 m (drop 16 (take (256 * q + 256 - 256 * q) (drop (256 * q) w)))) → m ≡ count (page q w)
    → o ≡ lowest_to s p (entries (page q w))
lent-lowest! w q m p s o e g = e ∙ rw (base-rows w q m g)
