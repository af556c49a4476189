-- `flushing::copy_page` meets its contract: a copy of the page's bytes to where it begins. Assumes nothing.
use Rattle.page.specs.Pages.{put_page}
use Rattle.page.proofs.Pages.{lent-page}
use borrow.Author.Rules.{rules}
use Rattle.flushing.proofs.copy_page.Statement.{statement}
use Rattle.flushing.proofs.copy_page.Tie as tie

cast-at : tie.Need-overflow_cast-at
cast-at c = search rules

mul_at : tie.Need-overflow_mul-at
mul_at c = search rules

add-copy : tie.Need-overflow_add-at
add-copy c = search rules

sub-copy : tie.Need-slice_bounds-copy-count
sub-copy c = search rules

part-copy-start : tie.Need-slice_bounds-copy-start
part-copy-start c = search rules

part-copy-end : tie.Need-slice_bounds-copy-end
part-copy-end c = search rules

copy-requires : tie.Need-copy-requires
copy-requires c κs = search rules

same_length : tie.Need-shape_of-store
same_length c = search rules

returns : tie.Need-returns
unfolding put_page
returns c = rw lent-page at c.before.before.copy.ensures

pub copy_page_spec : {M : Type 1} → statement M
copy_page_spec =
    tie.close
    (tie.spec
    cast-at
    mul_at
    add-copy
    sub-copy
    part-copy-start
    part-copy-end
    copy-requires
    same_length
    returns)
