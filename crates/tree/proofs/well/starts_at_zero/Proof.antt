-- `tree::well::starts_at_zero` meets its contract. Assumes nothing.
use Rattle.tree.proofs.Chain.{starts-none!, starts-first! }
use borrow.Author.Rules.{rules}
use Rattle.tree.proofs.well.starts_at_zero.Statement.{statement}
use Rattle.tree.proofs.well.starts_at_zero.Tie as tie

count-at-requires : tie.Need-count_at-requires
count-at-requires c κs = search rules

returns : tie.Need-returns-then-count_at-eq0
returns c = search starts-none!

get4-requires : tie.Need-get4-requires
get4-requires c κs = search rules

returns-2 : tie.Need-returns
returns-2 c = search starts-first!

pub starts_at_zero_spec : {M : Type 1} → statement M
starts_at_zero_spec = tie.close (tie.spec count-at-requires returns get4-requires returns-2)
