-- `flushing::number_at` meets its contract: the number of the page that is lent. Assumes nothing.
use mathlib.Core.Path.{ap, ◌∙◌}
use Rattle.page.specs.Page.{number}
use Rattle.page.proofs.Pages.{lent-page}
use borrow.Author.Rules.{rules}
use Rattle.flushing.proofs.number_at.Statement.{statement}
use Rattle.flushing.proofs.number_at.Tie as tie

cast-at : tie.Need-overflow_cast-at
cast-at c = search rules

mul_at : tie.Need-overflow_mul-at
mul_at c = search rules

add-number : tie.Need-overflow_add-at
add-number c = search rules

sub_number : tie.Need-slice_bounds-number-count
sub_number c = search rules

part-number-start : tie.Need-slice_bounds-number-start
part-number-start c = search rules

part-number-end : tie.Need-slice_bounds-number-end
part-number-end c = search rules

number-requires : tie.Need-number-requires
number-requires c κs = search rules

returns : tie.Need-returns
returns c = c.number.ensures ∙ ap number (lent-page _ _)

pub number_at_spec : {M : Type 1} → statement M
number_at_spec =
    tie.close
    (tie.spec
    cast-at
    mul_at
    add-number
    sub_number
    part-number-start
    part-number-end
    number-requires
    returns)
