-- `logs::kind::lead` meets its contract. Assumes nothing.
use mathlib.Core.Path.{◌∙◌}
use native.Mathlib.Omega.{arith}
use Rattle.logs.proofs.Table.{table-row}
use borrow.Author.Rules.{rules}
use Rattle.logs.proofs.kind.lead.Statement.{statement}
use Rattle.logs.proofs.kind.lead.Tie as tie

mul-cell : tie.Need-overflow_mul-k
mul-cell c = search rules

cell-requires : tie.Need-cell-requires
cell-requires c κs = search rules

cast-result : tie.Need-overflow_cast-result
cast-result c = omega (arith, c.cell.ensures, (table-row _ c.before.requires).lead)

returns : tie.Need-returns
returns c = c.cell.ensures ∙ (table-row _ c.before.requires).lead

pub lead_spec : {M : Type 1} → statement M
lead_spec =
    tie.close
    (tie.spec
    mul-cell
    cell-requires
    cast-result
    returns)
