-- `tree::list::list_page` meets its contract. Assumes nothing.
use Rattle.tree.specs.Answer.{room_for}
use Rattle.tree.proofs.Listing.{run-room!, page-bytes!, page-count!, page-more! }
use native.Mathlib.Omega.{arith}
use borrow.Author.Rules.{rules}
use Rattle.tree.proofs.list.list_page.Statement.{statement}
use Rattle.tree.proofs.list.list_page.Tie as tie

sub-whole : tie.Need-overflow_sub-out
unfolding room_for
sub-whole c = omega arith

whole-requires : tie.Need-whole-requires
whole-requires c κs = search rules

list-leaf-requires : tie.Need-list_leaf-requires
list-leaf-requires c κs = search rules

same_length : tie.Need-shape_of-out-then-not-whole
same_length c = search rules

returns : tie.Need-returns-then-not-whole
returns c = search rules

mul-copy : tie.Need-overflow_mul-n
unfolding room_for
mul-copy c = omega arith

mul-copy-2 : tie.Need-overflow_mul-k
mul-copy-2 c = search rules

add-copy : tie.Need-overflow_add-k
add-copy c = search rules

sub-copy : tie.Need-slice_bounds-copy-count
sub-copy c = search rules

part-copy-start : tie.Need-slice_bounds-copy-start
part-copy-start c = search rules

part-copy-end : tie.Need-slice_bounds-copy-end
part-copy-end c = search rules

copy-requires : tie.Need-copy-requires
copy-requires c κs = search run-room!

add-t9 : tie.Need-overflow_add-result
unfolding room_for
add-t9 c = omega arith

same-length-2 : tie.Need-shape_of-out
same-length-2 c = search rules

returns-2 : tie.Need-returns
returns-2 c = (search page-bytes!, search page-count!, search page-more!)

pub list_page_spec : {M : Type 1} → statement M
list_page_spec =
    tie.close
    (tie.spec
    sub-whole
    whole-requires
    list-leaf-requires
    same_length
    returns
    mul-copy
    mul-copy-2
    add-copy
    sub-copy
    part-copy-start
    part-copy-end
    copy-requires
    add-t9
    same-length-2
    returns-2)
