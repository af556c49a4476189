-- `resuming::lacking::same_image` meets its contract. Assumes nothing.
use native.Mathlib.Omega.{arith}
use Rattle.logs.specs.Record.{length_of}
use Rattle.resuming.proofs.Agrees.{page-other!, page-same! }
use borrow.Author.Rules.{rules}
use Rattle.resuming.proofs.lacking.same_image.Statement.{statement}
use Rattle.resuming.proofs.lacking.same_image.Tie as tie

get2-requires : tie.Need-get2-requires
unfolding length_of
get2-requires c κs = omega (arith, c.before.before.before.requires.3)

returns : tie.Need-returns-then-get2-d
returns c = search page-other!

blank-requires : tie.Need-blank-page-requires
blank-requires c κs = search rules

slice-aggregate-draw : tie.Need-slice_bounds-draw-end
slice-aggregate-draw c = search rules

draw-requires : tie.Need-draw-requires
draw-requires c κs = search rules

add-same-bytes : tie.Need-overflow_add-same_bytes
add-same-bytes c = search rules

sub-same-bytes : tie.Need-slice_bounds-same_bytes-count
sub-same-bytes c = search rules

part-same-bytes-start : tie.Need-slice_bounds-same_bytes-start
part-same-bytes-start c = search rules

part-same-bytes-end : tie.Need-slice_bounds-same_bytes-end
unfolding length_of
part-same-bytes-end c = omega (arith, c.before.before.before.before.before.before.before.before.before.before.requires.3)

slice-aggregate-same-bytes : tie.Need-slice_bounds-same_bytes-end-2
slice-aggregate-same-bytes c = search rules

same-bytes-requires : tie.Need-same_bytes-requires
same-bytes-requires c κs = search rules

returns-2 : tie.Need-returns
returns-2 c = search page-same!

pub same_image_spec : {M : Type 1} → statement M
same_image_spec =
    tie.close
    (tie.spec
    get2-requires
    returns
    blank-requires
    slice-aggregate-draw
    draw-requires
    add-same-bytes
    sub-same-bytes
    part-same-bytes-start
    part-same-bytes-end
    slice-aggregate-same-bytes
    same-bytes-requires
    returns-2)
