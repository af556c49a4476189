-- `saving::put::free_leaf` meets its contract. Assumes nothing.
use Rattle.saving.specs.Save.{free_leaf}
use borrow.Author.Rules.{rules}
use Rattle.saving.proofs.put.free_leaf.Statement.{statement}
use Rattle.saving.proofs.put.free_leaf.Tie as tie

add-t3 : tie.Need-overflow_add-lowest_empty
add-t3 c = search rules

lowest-empty-requires : tie.Need-lowest_empty-requires
lowest-empty-requires c κs = search rules

returns : tie.Need-returns
unfolding free_leaf
returns c = c.lowest_empty.ensures

pub free_leaf_spec : {M : Type 1} → statement M
free_leaf_spec = tie.close (tie.spec add-t3 lowest-empty-requires returns)
