-- `tree::well::bound_at` meets its contract. Assumes nothing.
use Rattle.tree.proofs.Between.{bound-none!, bound-next! }
use borrow.Author.Rules.{rules}
use Rattle.tree.proofs.well.bound_at.Statement.{statement}
use Rattle.tree.proofs.well.bound_at.Tie as tie

returns : tie.Need-returns-then-left-eq0
returns c = search bound-none!

add-get4 : tie.Need-overflow_add-at
add-get4 c = search rules

get4-requires : tie.Need-get4-requires
get4-requires c κs = search rules

cast-result : tie.Need-overflow_cast-result
cast-result c = search rules

returns-2 : tie.Need-returns
returns-2 c = search bound-next!

pub bound_at_spec : {M : Type 1} → statement M
bound_at_spec = tie.close (tie.spec returns add-get4 get4-requires cast-result returns-2)
