-- `ranging::entry_to` meets its contract. Assumes nothing.
use native.Mathlib.Omega.{arith}
use mathlib.Core.Path.{◌∙◌}
use Rattle.tree.proofs.Onward.{entry-page}
use Rattle.ranging.specs.Reading.{entry_to}
use borrow.Author.Rules.{rules}
use Rattle.ranging.proofs.entry_to.Statement.{statement}
use Rattle.ranging.proofs.entry_to.Tie as tie

mul-get2 : tie.Need-overflow_mul-p
mul-get2 c = search rules

mul-get2-2 : tie.Need-overflow_mul-i
mul-get2-2 c = search rules

add-get2 : tie.Need-overflow_add-i
add-get2 c = search rules

add-get2-2 : tie.Need-overflow_add-i-2
add-get2-2 c = search rules

add-get2-3 : tie.Need-overflow_add-p
add-get2-3 c = search rules

get2-requires : tie.Need-get2-requires
get2-requires c κs = search rules

cast-result : tie.Need-overflow_cast-result
cast-result c = search rules

returns : tie.Need-returns
unfolding entry_to
returns c =
    let a = c.before.before in
    c.get2.ensures ∙ entry-page a.args.p a.args.i a.args.w.now (omega (arith, a.requires.2)) a.requires.3

pub entry_to_spec : {M : Type 1} → statement M
entry_to_spec =
    tie.close
    (tie.spec mul-get2 mul-get2-2 add-get2 add-get2-2 add-get2-3 get2-requires cast-result returns)
