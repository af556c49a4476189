-- `tree::list::whole` meets its contract. Assumes nothing.
use Rattle.tree.proofs.Listing.{whole-less!, whole-rest! }
use borrow.Author.Rules.{rules}
use Rattle.tree.proofs.list.whole.Statement.{statement}
use Rattle.tree.proofs.list.whole.Tie as tie

returns : tie.Need-returns-then-room-m
returns c = search whole-less!

add-within : tie.Need-overflow_add-high
add-within c = search rules

within-requires : tie.Need-within-requires
within-requires c κs = search rules

returns-2 : tie.Need-returns
returns-2 c = search whole-rest!

pub whole_spec : {M : Type 1} → statement M
whole_spec = tie.close (tie.spec returns add-within within-requires returns-2)
