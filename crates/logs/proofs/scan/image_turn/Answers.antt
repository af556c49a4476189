-- `logs::scan::image_turn` meets its contract. Assumes nothing.
use mathlib.Core.Bool.{not}
use Prim.Native.Nat.{◌+◌, ◌≤◌}
use native.Mathlib.Omega.{arith}
use mathlib.Core.Path.{◌≡◌, sym, ap}
use lib.ListN.{drop}
use borrow.Author.Rules.{part_to_end}
use Rattle.logs.specs.Record.{length_of}
use Rattle.logs.specs.Stand.{stands_image}
use Rattle.logs.specs.Scan.{images_on}
use Rattle.logs.proofs.Images.{image-room}
use Rattle.logs.proofs.Ways.{lost-pick, on-pick}
use Rattle.logs.proofs.scan.image_turn.Goals as goal
use Rattle.logs.proofs.scan.image_turn.Goals.{After-is_image}

-- the test of the LG
tested : (c : After-is_image) → let a = c.args in
    c.is_image.result ≡ stands_image (a.w.number.0 + 1) (images_on a.l.now a.w) (drop a.w.at a.l.now)
tested c = rw part_to_end at (c.is_image.ensures _ (sym c.least_page-least.ensures))

pub least_page-least-requires : goal.least_page-least-requires
least_page-least-requires c = c.requires.0

pub slice_bounds-is_image-count : goal.slice_bounds-is_image-count
slice_bounds-is_image-count c = omega (arith, c.requires.0.inside)

pub slice_bounds-is_image-start : goal.slice_bounds-is_image-start
slice_bounds-is_image-start c = omega (arith, c.requires.0.inside)

pub overflow_add-w : goal.overflow_add-w
overflow_add-w c = omega (arith, c.requires.1)

pub returns-then-not-is_image : goal.returns-then-not-is_image
returns-then-not-is_image c = lost-pick _ _ _ _ c.lost.ensures (tested (goal.at.returns-then-not-is_image c).After-is_image) (ap not c.if-not-is_image.true)

pub imaged-requires : goal.imaged-requires
unfolding length_of
imaged-requires c =
    let a = c in
    let r = image-room _ _ a.args.l.now a.args.w.at _ (tested (goal.at.imaged-requires c).After-is_image) (ap not c.if-not-is_image.false) in
    let d : a.args.w.done ≤ a.args.w.at = omega (arith, a.requires.0.laid) in
    (a.requires.1, omega (arith, r, a.requires.0.small), d)

pub returns : goal.returns
returns c = on-pick _ _ _ _ c.imaged.ensures (tested (goal.at.returns c).After-is_image) (ap not c.if-not-is_image.false)
