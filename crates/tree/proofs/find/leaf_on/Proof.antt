-- `tree::find::leaf_on` meets its contract. Assumes nothing.
use Rattle.tree.proofs.Descent.{leaf-broken-reply!, leaf-broken-bytes!, leaf-reply!, leaf-bytes!, records-fit}
use borrow.Author.Rules.{rules}
use Rattle.tree.proofs.find.leaf_on.Statement.{statement}
use Rattle.tree.proofs.find.leaf_on.Tie as tie

is-leaf-requires : tie.Need-is_leaf-requires
is-leaf-requires c κs = search rules

missing-requires : tie.Need-missing-requires
missing-requires c κs = search rules

returns : tie.Need-returns-then-not-is_leaf
returns c = (search leaf-broken-reply!, search leaf-broken-bytes!)

count-requires : tie.Need-count-requires
count-requires c κs = search rules

record-with-requires : tie.Need-record_with-requires
record-with-requires c κs = search records-fit

returns-2 : tie.Need-returns
returns-2 c = (search leaf-reply!, search leaf-bytes!)

pub leaf_on_spec : {M : Type 1} → statement M
leaf_on_spec = tie.close (tie.spec is-leaf-requires missing-requires returns count-requires record-with-requires returns-2)
