-- `ranging::has_row` meets its contract. Assumes nothing.
use Rattle.ranging.proofs.Tested.{row-past!, row-other!, row-many!, row-is! }
use borrow.Author.Rules.{rules}
use Rattle.ranging.proofs.has_row.Statement.{statement}
use Rattle.ranging.proofs.has_row.Tie as tie

returns : tie.Need-returns-then-p-ge64
returns c = search row-past!

mul-if2 : tie.Need-overflow_mul-p
mul-if2 c = search rules

add-if2 : tie.Need-overflow_add-p
add-if2 c = search rules

shared-slice-read-if2 : tie.Need-bounds-w-p
shared-slice-read-if2 c = search rules

returns-2 : tie.Need-returns-then-w-p
returns-2 c = search row-other!

count-at-requires : tie.Need-count_at-n-requires
count-at-requires c κs = search rules

returns-3 : tie.Need-returns-then-most-n
returns-3 c = search row-many!

cast-result : tie.Need-overflow_cast-result
cast-result c = search rules

returns-4 : tie.Need-returns
returns-4 c = search row-is!

pub has_row_spec : {M : Type 1} → statement M
has_row_spec =
    tie.close
    (tie.spec
    returns
    mul-if2
    add-if2
    shared-slice-read-if2
    returns-2
    count-at-requires
    returns-3
    cast-result
    returns-4)
