-- `saving::draw::begin` meets its contract: a blank page, its number, and the spare bytes copied. Assumes nothing.
use Rattle.saving.proofs.Image.{begun-clear!, begun-kept! }
use borrow.Author.Rules.{rules}
use Rattle.saving.proofs.draw.begin.Statement.{statement}
use Rattle.saving.proofs.draw.begin.Tie as tie

stamp-requires : tie.Need-stamp-requires
stamp-requires c κs = search rules

same_length : tie.Need-shape_of-image-then-not-kept
same_length c = search rules

returns : tie.Need-returns-then-not-kept
returns c = λ s e. search begun-clear!

cast-at : tie.Need-overflow_cast-at
cast-at c = search rules

mul_at : tie.Need-overflow_mul-at
mul_at c = search rules

add_at : tie.Need-overflow_add-at
add_at c = search rules

add-copy : tie.Need-overflow_add-at-2
add-copy c = search rules

sub-copy : tie.Need-slice_bounds-copy-count
sub-copy c = search rules

part-copy-start : tie.Need-slice_bounds-copy-start
part-copy-start c = search rules

part-copy-end : tie.Need-slice_bounds-copy-end
part-copy-end c = search rules

copy-requires : tie.Need-copy-requires
copy-requires c κs = search rules

same-length-2 : tie.Need-shape_of-image
same-length-2 c = search rules

returns-2 : tie.Need-returns
returns-2 c = λ s e. search begun-kept!

pub begin_spec : {M : Type 1} → statement M
begin_spec =
    tie.close
    (tie.spec
    stamp-requires
    same_length
    returns
    cast-at
    mul_at
    add_at
    add-copy
    sub-copy
    part-copy-start
    part-copy-end
    copy-requires
    same-length-2
    returns-2)
