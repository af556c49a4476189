-- `stepping::formed_at` meets its contract. Assumes nothing.
use Rattle.stepping.proofs.Steps.{lent-formed! }
use borrow.Author.Rules.{rules}
use Rattle.stepping.proofs.formed_at.Statement.{statement}
use Rattle.stepping.proofs.formed_at.Tie as tie

cast-at : tie.Need-overflow_cast-at
cast-at c = search rules

mul_at : tie.Need-overflow_mul-at
mul_at c = search rules

cast-formed : tie.Need-overflow_cast-p
cast-formed c = search rules

add-formed : tie.Need-overflow_add-at
add-formed c = search rules

sub-formed : tie.Need-slice_bounds-formed-count
sub-formed c = search rules

part-formed-start : tie.Need-slice_bounds-formed-start
part-formed-start c = search rules

part-formed-end : tie.Need-slice_bounds-formed-end
part-formed-end c = search rules

formed-requires : tie.Need-formed-requires
formed-requires c κs = search rules

returns : tie.Need-returns
returns c = search lent-formed!

pub formed_at_spec : {M : Type 1} → statement M
formed_at_spec =
    tie.close
    (tie.spec
    cast-at
    mul_at
    cast-formed
    add-formed
    sub-formed
    part-formed-start
    part-formed-end
    formed-requires
    returns)
