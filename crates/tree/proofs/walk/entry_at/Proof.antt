-- `tree::walk::entry_at` meets its contract. Assumes nothing.
use mathlib.Core.Path.{◌∙◌}
use Rattle.tree.proofs.Onward.{entry-page}
use borrow.Author.Rules.{rules}
use Rattle.tree.proofs.walk.entry_at.Statement.{statement}
use Rattle.tree.proofs.walk.entry_at.Tie as tie

mul-get2 : tie.Need-overflow_mul-p
mul-get2 c = search rules

mul-get2-2 : tie.Need-overflow_mul-i
mul-get2-2 c = search rules

add-get2 : tie.Need-overflow_add-i
add-get2 c = search rules

add-get2-2 : tie.Need-overflow_add-i-2
add-get2-2 c = search rules

add-get2-3 : tie.Need-overflow_add-p
add-get2-3 c = search rules

get2-requires : tie.Need-get2-requires
get2-requires c κs = search rules

cast-result : tie.Need-overflow_cast-result
cast-result c = search rules

returns : tie.Need-returns
returns c = let a = c.before.before in c.get2.ensures ∙ entry-page a.args.p a.args.i a.args.w.now a.requires.2 a.requires.3

pub entry_at_spec : {M : Type 1} → statement M
entry_at_spec =
    tie.close
    (tie.spec mul-get2 mul-get2-2 add-get2 add-get2-2 add-get2-3 get2-requires cast-result returns)
