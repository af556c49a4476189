-- `unit::apply::stamped` meets its contract. Assumes nothing.
use Rattle.unit.proofs.Repeats.{stamp-page! }
use borrow.Author.Rules.{rules}
use Rattle.unit.proofs.apply.stamped.Statement.{statement}
use Rattle.unit.proofs.apply.stamped.Tie as tie

cast-get4 : tie.Need-overflow_cast-p
cast-get4 c = search rules

mul-get4 : tie.Need-overflow_mul-p
mul-get4 c = search rules

add-get4 : tie.Need-overflow_add-p
add-get4 c = search rules

get4-requires : tie.Need-get4-requires
get4-requires c κs = search rules

returns : tie.Need-returns
returns c = search stamp-page!

pub stamped_spec : {M : Type 1} → statement M
stamped_spec = tie.close (tie.spec cast-get4 mul-get4 add-get4 get4-requires returns)
