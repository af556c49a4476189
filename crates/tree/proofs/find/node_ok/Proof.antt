-- `tree::find::node_ok` meets its contract. Assumes nothing.
use Rattle.tree.proofs.Descent.{node-root!, node-base! }
use borrow.Author.Rules.{rules}
use Rattle.tree.proofs.find.node_ok.Statement.{statement}
use Rattle.tree.proofs.find.node_ok.Tie as tie

is-root-requires : tie.Need-is_root-requires
is-root-requires c κs = search rules

returns : tie.Need-returns-then-p-eq0
returns c = search node-root!

is-base-requires : tie.Need-is_base-requires
is-base-requires c κs = search rules

returns-2 : tie.Need-returns
returns-2 c = search node-base!

pub node_ok_spec : {M : Type 1} → statement M
node_ok_spec = tie.close (tie.spec is-root-requires returns is-base-requires returns-2)
