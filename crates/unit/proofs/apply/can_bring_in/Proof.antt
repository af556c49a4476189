-- `unit::apply::can_bring_in` meets its contract. Assumes nothing.
use Rattle.unit.proofs.Applied.{in-can}
use borrow.Author.Rules.{rules}
use Rattle.unit.proofs.apply.can_bring_in.Statement.{statement}
use Rattle.unit.proofs.apply.can_bring_in.Tie as tie

cast-at : tie.Need-overflow_cast-at
cast-at c = search rules

mul_at : tie.Need-overflow_mul-at
mul_at c = search rules

add-takes : tie.Need-overflow_add-at
add-takes c = search rules

sub-takes : tie.Need-slice_bounds-takes-count
sub-takes c = search rules

part-takes-start : tie.Need-slice_bounds-takes-start
part-takes-start c = search rules

part-takes-end : tie.Need-slice_bounds-takes-end
part-takes-end c = search rules

takes-requires : tie.Need-takes-requires
takes-requires c κs = search rules

returns : tie.Need-returns
returns c = search in-can

pub can_bring_in_spec : {M : Type 1} → statement M
can_bring_in_spec =
    tie.close
    (tie.spec
    cast-at
    mul_at
    add-takes
    sub-takes
    part-takes-start
    part-takes-end
    takes-requires
    returns)
