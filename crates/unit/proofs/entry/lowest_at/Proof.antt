-- `unit::entry::lowest_at` meets its contract. Assumes nothing.
use Rattle.unit.proofs.Walk.{lent-room, lent-lowest! }
use borrow.Author.Rules.{rules}
use Rattle.unit.proofs.entry.lowest_at.Statement.{statement}
use Rattle.unit.proofs.entry.lowest_at.Tie as tie

cast-count-at : tie.Need-overflow_cast-b
cast-count-at c = search rules

count-at-requires : tie.Need-count_at-n-requires
count-at-requires c κs = search rules

cast-at : tie.Need-overflow_cast-at
cast-at c = search rules

mul_at : tie.Need-overflow_mul-at
mul_at c = search rules

add-lowest-to : tie.Need-overflow_add-at
add-lowest-to c = search rules

sub-lowest-to : tie.Need-slice_bounds-lowest_to-count
sub-lowest-to c = search rules

part-lowest-to-start : tie.Need-slice_bounds-lowest_to-start
part-lowest-to-start c = search rules

part-lowest-to-end : tie.Need-slice_bounds-lowest_to-end
part-lowest-to-end c = search rules

lowest-to-requires : tie.Need-lowest_to-requires
lowest-to-requires c κs = search lent-room

returns : tie.Need-returns
returns c = search lent-lowest!

pub lowest_at_spec : {M : Type 1} → statement M
lowest_at_spec =
    tie.close
    (tie.spec
    cast-count-at
    count-at-requires
    cast-at
    mul_at
    add-lowest-to
    sub-lowest-to
    part-lowest-to-start
    part-lowest-to-end
    lowest-to-requires
    returns)
