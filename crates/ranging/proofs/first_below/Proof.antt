-- `ranging::first_below` meets its contract. Assumes nothing.
use Rattle.ranging.specs.Reading.{first_below}
use borrow.Author.Rules.{rules}
use Rattle.ranging.proofs.first_below.Statement.{statement}
use Rattle.ranging.proofs.first_below.Tie as tie

entry-to-requires : tie.Need-entry_to-leaf-requires
entry-to-requires c κs = search rules

add-t6 : tie.Need-overflow_add-result
add-t6 c = search rules

returns : tie.Need-returns
unfolding first_below
returns c = rw c.entry_to-leaf.ensures

pub first_below_spec : {M : Type 1} → statement M
first_below_spec = tie.close (tie.spec entry-to-requires add-t6 returns)
