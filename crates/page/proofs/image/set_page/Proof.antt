-- `page::image::set_page` meets its contract: a copy to where the page begins. Assumes nothing.
use Rattle.page.specs.Pages.{put_page}
use borrow.Author.Rules.{rules}
use Rattle.page.proofs.image.set_page.Statement.{statement}
use Rattle.page.proofs.image.set_page.Tie as tie

cast-at : tie.Need-overflow_cast-at
cast-at c = search rules

mul_at : tie.Need-overflow_mul-at
mul_at c = search rules

slice-aggregate-copy : tie.Need-slice_bounds-copy-end
slice-aggregate-copy c = search rules

copy-requires : tie.Need-copy-requires
copy-requires c κs = search rules

same_length : tie.Need-shape_of-w
same_length c = search rules

returns : tie.Need-returns
unfolding put_page
returns c = c.before.before.copy.ensures

pub set_page_spec : {M : Type 1} → statement M
set_page_spec =
    tie.close (tie.spec cast-at mul_at slice-aggregate-copy copy-requires same_length returns)
