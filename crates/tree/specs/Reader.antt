-- A position in key order, on plain numbers: the records still to come from it, and what it stands on. Assumes nothing.
use Rattle.std.specs.Prelude.{ℕ, ◌+◌, ◌-◌, ◌*◌, ◌<◌, ◌≡◌, Bool, true, List, [], ◌++◌, length, take, drop, eqb, ltb}
use Rattle.field.specs.Test.{pick}
use Rattle.field.specs.Bytes.{put}
use Rattle.page.specs.Page.{joined, count, rows}
use Rattle.page.specs.Pages.{page, pages}
use Rattle.tree.specs.Tree.{below, well_formed}
use Rattle.tree.specs.Answer.{room_for, written, count_written, more_remain}
use Rattle.tree.specs.Walk.{InForm, Spot, Over}
use Rattle.tree.specs.declared.walk.Place.{Place}

-- 64 pages in form that are a well-formed tree
pub record Sound (w : List ℕ) : Type 0 where
  pub form : InForm w
  pub well : well_formed (pages w) ≡ true

-- the records below the root's entries from the i-th
unfoldable pub from_root : (w : List ℕ) (i : ℕ) → List (List ℕ)
from_root w i = below 16 (pages w) (below 8 (pages w) (drop i (rows 8 (page 0 w))))

-- the records behind the leaf page of a position
unfoldable pub behind : (w : List ℕ) → Place → List (List ℕ)
behind w at = below 16 (pages w) (drop at.entry (rows 8 (page at.base w))) ++ from_root w at.root

-- the records from a position on; leaf page 0 says that none is left
unfoldable pub to_come : (w : List ℕ) → Place → List (List ℕ)
to_come w at = pick (eqb at.leaf 0) [] (drop at.row (rows 16 (page at.leaf w)) ++ behind w at)

-- where a record is left, the position stands on one, below the base page that it names
pub record On (w : List ℕ) (at : Place) : Type 0 where
  pub over : Over w at.base
  pub spot : Spot 16 w at.leaf
  pub here : at.row < count (page at.leaf w)

pub record Stands (w : List ℕ) (at : Place) : Type 0 where
  pub on : 0 < at.leaf → On w at

-- ---- records written one after the other, n of them being written already

unfoldable pub write_at : (n : ℕ) (rs : List (List ℕ)) (out : List ℕ) → List ℕ
write_at n rs out = put (16 * n) (joined (take (room_for out - n) rs)) out

unfoldable pub count_at : (n : ℕ) (rs : List (List ℕ)) (out : List ℕ) → ℕ
count_at n rs out = n + length (take (room_for out - n) rs)

unfoldable pub more_at : (n : ℕ) (rs : List (List ℕ)) (out : List ℕ) → Bool
more_at n rs out = ltb (room_for out - n) (length rs)

-- rs written into out behind n others gives the bytes out' and k records in all, and z tells whether some did not fit
abbrev pub Ran : (n : ℕ) (rs : List (List ℕ)) (out out' : List ℕ) (k : ℕ) (z : Bool) → Type 0
Ran n rs out out' k z = (out' ≡ write_at n rs out) × (k ≡ count_at n rs out) × (z ≡ more_at n rs out)

-- what list leaves of out and tells, where the records in bounds are rs
abbrev pub Lists : (rs : List (List ℕ)) (out out' : List ℕ) (k : ℕ) (z : Bool) → Type 0
Lists rs out out' k z = (out' ≡ written rs out) × (k ≡ count_written rs out) × (pick z 1 0 ≡ more_remain rs out)
