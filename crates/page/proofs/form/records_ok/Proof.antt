-- `page::form::records_ok` meets its contract: the records in order, then the zeros behind them. Assumes nothing.
use Rattle.page.proofs.Tests.{body-order!, body-rest! }
use borrow.Author.Rules.{rules}
use Rattle.page.proofs.form.records_ok.Statement.{statement}
use Rattle.page.proofs.form.records_ok.Tie as tie

count-requires : tie.Need-count-n-requires
count-requires c κs = search rules

cast-n : tie.Need-overflow_cast-n
cast-n c = search rules

records-ascend-requires : tie.Need-records_ascend-requires
records-ascend-requires c κs = search rules

returns : tie.Need-returns-then-not-records_ascend
returns c = search body-order!

mul-end : tie.Need-overflow_mul-end
mul-end c = search rules

add-end : tie.Need-overflow_add-end
add-end c = search rules

sub-zeros : tie.Need-slice_bounds-zeros-count
sub-zeros c = search rules

part-zeros-start : tie.Need-slice_bounds-zeros-start
part-zeros-start c = search rules

part-zeros-end : tie.Need-slice_bounds-zeros-end
part-zeros-end c = search rules

zeros-requires : tie.Need-zeros-requires
zeros-requires c κs = search rules

returns-2 : tie.Need-returns
returns-2 c = search body-rest!

pub records_ok_spec : {M : Type 1} → statement M
records_ok_spec =
    tie.close
    (tie.spec
    count-requires
    cast-n
    records-ascend-requires
    returns
    mul-end
    add-end
    sub-zeros
    part-zeros-start
    part-zeros-end
    zeros-requires
    returns-2)
