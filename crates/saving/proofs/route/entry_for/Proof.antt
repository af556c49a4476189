-- `saving::route::entry_for` meets its contract: the entries before it are counted by the keys of those behind the first. Assumes nothing.
use Rattle.saving.proofs.Leads.{entry-placed! }
use borrow.Author.Rules.{rules}
use Rattle.saving.proofs.route.entry_for.Statement.{statement}
use Rattle.saving.proofs.route.entry_for.Tie as tie

cast-at : tie.Need-overflow_cast-at
cast-at c = search rules

mul_at : tie.Need-overflow_mul-at
mul_at c = search rules

cast-count-at : tie.Need-overflow_cast-p
cast-count-at c = search rules

count-at-requires : tie.Need-count_at-n-requires
count-at-requires c κs = search rules

add-leading : tie.Need-overflow_add-at
add-leading c = search rules

sub-leading : tie.Need-slice_bounds-leading-count
sub-leading c = search rules

part-leading-start : tie.Need-slice_bounds-leading-start
part-leading-start c = search rules

part-leading-end : tie.Need-slice_bounds-leading-end
part-leading-end c = search rules

sub-leading-2 : tie.Need-overflow_sub-n
sub-leading-2 c = search rules

add-leading-2 : tie.Need-overflow_add-key
add-leading-2 c = search rules

leading-requires : tie.Need-leading-requires
leading-requires c κs = search rules

returns : tie.Need-returns
returns c = search entry-placed!

pub entry_for_spec : {M : Type 1} → statement M
entry_for_spec =
    tie.close
    (tie.spec
    cast-at
    mul_at
    cast-count-at
    count-at-requires
    add-leading
    sub-leading
    part-leading-start
    part-leading-end
    sub-leading-2
    add-leading-2
    leading-requires
    returns)
