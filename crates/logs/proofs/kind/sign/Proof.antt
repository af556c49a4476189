-- `logs::kind::sign` meets its contract. Assumes nothing.
use mathlib.Core.Path.{◌∙◌}
use native.Mathlib.Omega.{arith}
use Rattle.logs.specs.Table.{kind_at}
use Rattle.logs.proofs.Table.{table-row, sign-byte}
use borrow.Author.Rules.{rules}
use Rattle.logs.proofs.kind.sign.Statement.{statement}
use Rattle.logs.proofs.kind.sign.Tie as tie

mul-cell : tie.Need-overflow_mul-k
mul-cell c = search rules

add-cell : tie.Need-overflow_add-k
add-cell c = search rules

cell-requires : tie.Need-cell-requires
cell-requires c κs = search rules

cast-result : tie.Need-overflow_cast-result
cast-result c = omega (arith, c.cell.ensures, (table-row _ c.before.requires).sign, sign-byte _ c.before.requires)

returns : tie.Need-returns
unfolding kind_at
returns c = c.cell.ensures ∙ (table-row _ c.before.requires).sign

pub sign_spec : {M : Type 1} → statement M
sign_spec =
    tie.close
    (tie.spec
    mul-cell
    add-cell
    cell-requires
    cast-result
    returns)
