-- `logs::reading::largest_key` meets its contract: the key of the last row, if it is larger. Assumes nothing.
use Rattle.logs.proofs.Rowed.{largest-key! }
use borrow.Author.Rules.{rules}
use Rattle.logs.proofs.reading.largest_key.Statement.{statement}
use Rattle.logs.proofs.reading.largest_key.Tie as tie

sub-last : tie.Need-overflow_sub-last
sub-last c = search rules

mul-last : tie.Need-overflow_mul-last
mul-last c = search rules

add-last : tie.Need-overflow_add-last
add-last c = search rules

add-get4 : tie.Need-overflow_add-last-2
add-get4 c = search rules

get4-requires : tie.Need-get4-requires
get4-requires c κs = search rules

larger-requires : tie.Need-larger-requires
larger-requires c κs = search rules

returns : tie.Need-returns
returns c = search largest-key!

pub largest_key_spec : {M : Type 1} → statement M
largest_key_spec =
    tie.close (tie.spec sub-last mul-last add-last add-get4 get4-requires larger-requires returns)
