-- `tree::well::count_at` meets its contract. Assumes nothing.
use mathlib.Core.Path.{◌∙◌}
use Rattle.tree.proofs.Turn.{count-page}
use borrow.Author.Rules.{rules}
use Rattle.tree.proofs.well.count_at.Statement.{statement}
use Rattle.tree.proofs.well.count_at.Tie as tie

mul-get2 : tie.Need-overflow_mul-p
mul-get2 c = search rules

add-get2 : tie.Need-overflow_add-p
add-get2 c = search rules

get2-requires : tie.Need-get2-requires
get2-requires c κs = search rules

returns : tie.Need-returns
returns c = c.get2.ensures ∙ count-page c.before.before.args.p c.before.before.args.w.now

pub count_at_spec : {M : Type 1} → statement M
count_at_spec = tie.close (tie.spec mul-get2 add-get2 get2-requires returns)
