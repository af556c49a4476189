-- `tree::find::missing` meets its contract. Assumes nothing.
use borrow.Author.Rules.{rules}
use Rattle.field.specs.Bytes.{zeroes}
use Rattle.tree.proofs.find.missing.Statement.{statement}
use Rattle.tree.proofs.find.missing.Tie as tie

returns : tie.Need-returns
unfolding zeroes
returns c = search rules

pub missing_spec : {M : Type 1} → statement M
missing_spec = tie.close (tie.spec returns)
