-- `tree::find::way_on` meets its contract. Assumes nothing.
use Rattle.tree.proofs.Descent.{way-broken!, way-through!, entries_fit}
use borrow.Author.Rules.{rules}
use Rattle.tree.proofs.find.way_on.Statement.{statement}
use Rattle.tree.proofs.find.way_on.Tie as tie

node-ok-requires : tie.Need-node_ok-requires
node-ok-requires c κs = search rules

returns : tie.Need-returns-then-not-node_ok
returns c = search way-broken!

count-requires : tie.Need-count-requires
count-requires c κs = search rules

last-not-above-requires : tie.Need-last_not_above-requires
last-not-above-requires c κs = search entries_fit

returns-2 : tie.Need-returns
returns-2 c = search way-through!

pub way_on_spec : {M : Type 1} → statement M
way_on_spec = tie.close (tie.spec node-ok-requires returns count-requires last-not-above-requires returns-2)
