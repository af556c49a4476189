-- `field::word` meets its contract: a sum is zero where both its numbers are. Assumes nothing.
use Rattle.field.proofs.Gather.{zero-eight! }
use borrow.Author.Rules.{rules}
use Rattle.field.proofs.word.Statement.{statement}
use Rattle.field.proofs.word.Tie as tie

get4-requires : tie.Need-get4-requires
get4-requires c κs = search rules

cast-result : tie.Need-overflow_cast-result
cast-result c = search rules

add-get4 : tie.Need-overflow_add-i
add-get4 c = search rules

get4-requires-2 : tie.Need-get4-requires-2
get4-requires-2 c κs = search rules

cast-result-2 : tie.Need-overflow_cast-result-2
cast-result-2 c = search rules

mul-result : tie.Need-overflow_mul-result
mul-result c = search rules

add-result : tie.Need-overflow_add-result
add-result c = search rules

returns : tie.Need-returns
returns c = search zero-eight!

pub word_spec : {M : Type 1} → statement M
word_spec =
    tie.close
    (tie.spec get4-requires cast-result add-get4 get4-requires-2 cast-result-2 mul-result add-result returns)
