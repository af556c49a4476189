-- `unit::apply::holds` meets its contract. Assumes nothing.
use Rattle.unit.proofs.Applied.{not-leaf!, leaf-same!, whole-leaf, room-leaf}
use borrow.Author.Rules.{rules}
use Rattle.unit.proofs.apply.holds.Statement.{statement}
use Rattle.unit.proofs.apply.holds.Tie as tie

is-leaf-requires : tie.Need-is_leaf-requires
is-leaf-requires c κs = search rules

returns : tie.Need-returns-then-not-is_leaf
returns c = search not-leaf!

count-requires : tie.Need-count-requires
count-requires c κs = search whole-leaf

cast-end : tie.Need-overflow_cast-end
cast-end c = search rules

mul-end : tie.Need-overflow_mul-end
mul-end c = search rules

add-end : tie.Need-overflow_add-end
add-end c = search rules

sub-same-bytes : tie.Need-slice_bounds-same_bytes-count
sub-same-bytes c = search rules

part-same-bytes-start : tie.Need-slice_bounds-same_bytes-start
part-same-bytes-start c = search rules

part-same-bytes-end : tie.Need-slice_bounds-same_bytes-end
part-same-bytes-end c = search room-leaf

same-bytes-requires : tie.Need-same_bytes-requires
same-bytes-requires c κs = search rules

returns-2 : tie.Need-returns
returns-2 c = search leaf-same!

pub holds_spec : {M : Type 1} → statement M
holds_spec =
    tie.close
    (tie.spec
    is-leaf-requires
    returns
    count-requires
    cast-end
    mul-end
    add-end
    sub-same-bytes
    part-same-bytes-start
    part-same-bytes-end
    same-bytes-requires
    returns-2)
