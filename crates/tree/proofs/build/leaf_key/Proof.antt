-- `tree::build::leaf_key` meets its contract. Assumes nothing.
use borrow.Author.Tests.{eq-eqb, ne_eqb}
use Rattle.field.specs.Test.{pick}
use Rattle.tree.specs.Pieces.{leaf_key}
use borrow.Author.Rules.{rules}
use Rattle.tree.proofs.build.leaf_key.Statement.{statement}
use Rattle.tree.proofs.build.leaf_key.Tie as tie

returns : tie.Need-returns-then-i-eq0
unfolding leaf_key pick
returns c = rw (eq-eqb _ _ c.if-i-eq0.true)

mul-get4 : tie.Need-overflow_mul-f
mul-get4 c = search rules

mul-get4-2 : tie.Need-overflow_mul-f-2
mul-get4-2 c = search rules

add-get4 : tie.Need-overflow_add-f
add-get4 c = search rules

get4-requires : tie.Need-get4-requires
get4-requires c κs = search rules

returns-2 : tie.Need-returns
unfolding leaf_key pick
returns-2 c = rw (ne_eqb _ _ c.before.if-i-eq0.false) c.get4.ensures

pub leaf_key_spec : {M : Type 1} → statement M
leaf_key_spec = tie.close (tie.spec returns mul-get4 mul-get4-2 add-get4 get4-requires returns-2)
