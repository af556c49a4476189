-- `unit::apply::open_to` meets its contract. Assumes nothing.
use Rattle.unit.proofs.Applied.{open-empty!, open-leaf! }
use borrow.Author.Rules.{rules}
use Rattle.unit.proofs.apply.open_to.Statement.{statement}
use Rattle.unit.proofs.apply.open_to.Tie as tie

is-empty-requires : tie.Need-is_empty-requires
is-empty-requires c κs = search rules

returns : tie.Need-returns-then-is_empty
returns c = search open-empty!

is-leaf-requires : tie.Need-is_leaf-requires
is-leaf-requires c κs = search rules

returns-2 : tie.Need-returns
returns-2 c = search open-leaf!

pub open_to_spec : {M : Type 1} → statement M
open_to_spec = tie.close (tie.spec is-empty-requires returns is-leaf-requires returns-2)
