-- `page::form::entries_ok` meets its contract: the entries in order and pointing well, then the zeros behind them. Assumes nothing.
use Rattle.page.proofs.Tests.{points-order!, points-rest! }
use borrow.Author.Rules.{rules}
use Rattle.page.proofs.form.entries_ok.Statement.{statement}
use Rattle.page.proofs.form.entries_ok.Tie as tie

count-requires : tie.Need-count-n-requires
count-requires c κs = search rules

cast-n : tie.Need-overflow_cast-n
cast-n c = search rules

entries-ascend-requires : tie.Need-entries_ascend-requires
entries-ascend-requires c κs = search rules

returns : tie.Need-returns-then-not-entries_ascend
returns c = search points-order!

mul-end : tie.Need-overflow_mul-end
mul-end c = search rules

add-end : tie.Need-overflow_add-end
add-end c = search rules

sub-zeros : tie.Need-slice_bounds-zeros-count
sub-zeros c = search rules

part-zeros-start : tie.Need-slice_bounds-zeros-start
part-zeros-start c = search rules

part-zeros-end : tie.Need-slice_bounds-zeros-end
part-zeros-end c = search rules

zeros-requires : tie.Need-zeros-requires
zeros-requires c κs = search rules

returns-2 : tie.Need-returns
returns-2 c = search points-rest!

pub entries_ok_spec : {M : Type 1} → statement M
entries_ok_spec =
    tie.close
    (tie.spec
    count-requires
    cast-n
    entries-ascend-requires
    returns
    mul-end
    add-end
    sub-zeros
    part-zeros-start
    part-zeros-end
    zeros-requires
    returns-2)
