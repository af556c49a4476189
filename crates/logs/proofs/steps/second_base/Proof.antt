-- `logs::steps::second_base` meets its contract. Assumes nothing.
use Rattle.logs.proofs.Placed.{second-same!, second-other! }
use borrow.Author.Rules.{rules}
use Rattle.logs.proofs.steps.second_base.Statement.{statement}
use Rattle.logs.proofs.steps.second_base.Tie as tie

byte-at-requires : tie.Need-byte_at-requires
byte-at-requires c κs = search rules

get2-requires : tie.Need-get2-requires
get2-requires c κs = search rules

returns : tie.Need-returns-then-byte_at-lt2
returns c = search second-same!

add-get2 : tie.Need-overflow_add-get2
add-get2 c = search rules

get2-requires-2 : tie.Need-get2-requires-2
get2-requires-2 c κs = search rules

returns-2 : tie.Need-returns
returns-2 c = search second-other!

pub second_base_spec : {M : Type 1} → statement M
second_base_spec =
    tie.close (tie.spec byte-at-requires get2-requires returns add-get2 get2-requires-2 returns-2)
