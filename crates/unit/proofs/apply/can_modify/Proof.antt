-- `unit::apply::can_modify` meets its contract. Assumes nothing.
use Rattle.unit.proofs.Applied.{can-page, can-base, can-missing, can-point, can-remove}
use borrow.Author.Rules.{rules}
use Rattle.unit.proofs.apply.can_modify.Statement.{statement}
use Rattle.unit.proofs.apply.can_modify.Tie as tie

cast-at : tie.Need-overflow_cast-at
cast-at c = search rules

mul_at : tie.Need-overflow_mul-at
mul_at c = search rules

add-is-base : tie.Need-overflow_add-at
add-is-base c = search rules

sub-is-base : tie.Need-slice_bounds-is_base-count
sub-is-base c = search rules

part-is-base-start : tie.Need-slice_bounds-is_base-start
part-is-base-start c = search rules

part-is-base-end : tie.Need-slice_bounds-is_base-end
part-is-base-end c = search rules

is-base-requires : tie.Need-is_base-requires
is-base-requires c κs = search rules

returns : tie.Need-returns-then-not-is_base
returns c = search can-page

cast-count-at : tie.Need-overflow_cast-base
cast-count-at c = search rules

count-at-requires : tie.Need-count_at-rows-requires
count-at-requires c κs = search rules

entry-at-requires : tie.Need-entry_at-requires
entry-at-requires c κs = (search rules, search rules, search can-base)

returns-2 : tie.Need-returns-then-entry_at-rows
returns-2 c = search can-missing

returns-3 : tie.Need-returns-then-new-ne0
returns-3 c = search can-point

returns-4 : tie.Need-returns
returns-4 c = search can-remove

pub can_modify_spec : {M : Type 1} → statement M
can_modify_spec =
    tie.close
    (tie.spec
    cast-at
    mul_at
    add-is-base
    sub-is-base
    part-is-base-start
    part-is-base-end
    is-base-requires
    returns
    cast-count-at
    count-at-requires
    entry-at-requires
    returns-2
    returns-3
    returns-4)
