-- `unit::apply::entry_at` meets its contract. Assumes nothing.
use Rattle.unit.proofs.Applied.{entry-place!, entry-room}
use borrow.Author.Rules.{rules}
use Rattle.unit.proofs.apply.entry_at.Statement.{statement}
use Rattle.unit.proofs.apply.entry_at.Tie as tie

cast-at : tie.Need-overflow_cast-at
cast-at c = search rules

mul_at : tie.Need-overflow_mul-at
mul_at c = search rules

cast-count-at : tie.Need-overflow_cast-base
cast-count-at c = search rules

count-at-requires : tie.Need-count_at-rows-requires
count-at-requires c κs = search rules

add-entry-with : tie.Need-overflow_add-at
add-entry-with c = search rules

sub-entry-with : tie.Need-slice_bounds-entry_with-count
sub-entry-with c = search rules

part-entry-with-start : tie.Need-slice_bounds-entry_with-start
part-entry-with-start c = search rules

part-entry-with-end : tie.Need-slice_bounds-entry_with-end
part-entry-with-end c = search rules

entry-with-requires : tie.Need-entry_with-requires
entry-with-requires c κs = search entry-room

returns : tie.Need-returns
returns c = search entry-place!

pub entry_at_spec : {M : Type 1} → statement M
entry_at_spec =
    tie.close
    (tie.spec
    cast-at
    mul_at
    cast-count-at
    count-at-requires
    add-entry-with
    sub-entry-with
    part-entry-with-start
    part-entry-with-end
    entry-with-requires
    returns)
