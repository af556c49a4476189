-- `logs::kind::cell` meets its contract: the code's table is that of the kinds. Assumes nothing.
use mathlib.Core.Path.{refl}
use Rattle.logs.specs.Table.{kinds, tabled}
use borrow.Author.Rules.{rules}
use Rattle.logs.proofs.kind.cell.Statement.{statement}
use Rattle.logs.proofs.kind.cell.Tie as tie

mul-result : tie.Need-offset_bounds-i
mul-result c = search rules

array-read-result : tie.Need-bounds-i
array-read-result c = search rules

returns : tie.Need-returns
unfolding kinds tabled
returns c = refl

pub cell_spec : {M : Type 1} → statement M
cell_spec = tie.close (tie.spec mul-result array-read-result returns)
