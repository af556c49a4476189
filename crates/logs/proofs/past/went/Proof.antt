-- `logs::past::went` meets its contract. Assumes nothing.
use Rattle.logs.specs.Scan.{went}
use borrow.Author.Rules.{rules}
use Rattle.logs.proofs.past.went.Statement.{statement}
use Rattle.logs.proofs.past.went.Tie as tie

add-t7 : tie.Need-overflow_add-result
add-t7 c = search rules

add-t8 : tie.Need-overflow_add-result-2
add-t8 c = search rules

add-t10 : tie.Need-overflow_add-result-3
add-t10 c = search rules

first-rows-requires : tie.Need-first_rows-requires
first-rows-requires c κs = search rules

returns : tie.Need-returns
unfolding went
returns c = rw c.first_rows.ensures

pub went_spec : {M : Type 1} → statement M
went_spec = tie.close (tie.spec add-t7 add-t8 add-t10 first-rows-requires returns)
