-- `logs::kind::length_of` meets its contract. Assumes nothing.
use Prim.Native.Nat.{◌+◌, ◌*◌, ◌≤◌}
use native.Mathlib.Omega.{arith}
use mathlib.Core.Path.{◌≡◌}
use lib.ListN.{get_or}
use Rattle.logs.specs.Table.{kinds, tabled}
use Rattle.logs.proofs.Table.{each-small, fixed-small, length-is}
use borrow.Author.Rules.{rules}
use Rattle.logs.proofs.kind.length_of.Statement.{statement}
use Rattle.logs.proofs.kind.length_of.Tie as tie

-- what stands in the table
fixed : (c : tie.After-cell-each) → c.before.cell-fixed.result ≡ get_or (tabled kinds) (4 * c.before.before.args.k + 2) 0
fixed c = c.before.cell-fixed.ensures

each : (c : tie.After-cell-each) → c.cell-each.result ≡ get_or (tabled kinds) (4 * c.before.before.args.k + 3) 0
each c = c.cell-each.ensures

-- and the product is small
carried : (c : tie.After-cell-each) → c.cell-each.result * c.before.before.args.n ≤ 3840
carried c = let a = c.before.before in each-small a.args.k a.args.n c.cell-each.result a.requires.0 a.requires.1 (each c)

mul-cell : tie.Need-overflow_mul-k
mul-cell c = search rules

add-cell : tie.Need-overflow_add-k
add-cell c = search rules

cell-requires : tie.Need-cell-fixed-requires
cell-requires c κs = search rules

mul-cell-2 : tie.Need-overflow_mul-k-2
mul-cell-2 c = search rules

add-cell-2 : tie.Need-overflow_add-k-2
add-cell-2 c = search rules

cell-requires-2 : tie.Need-cell-each-requires
cell-requires-2 c κs = search rules

mul-result : tie.Need-overflow_mul-result
mul-result c = omega (arith, carried c)

add-result : tie.Need-overflow_add-result
add-result c =
    let a = c.before.before in
    omega (arith, carried c, fixed-small a.args.k c.before.cell-fixed.result a.requires.0 (fixed c))

returns : tie.Need-returns
returns c =
    let a = c.before.before in
    length-is a.args.k a.args.n c.before.cell-fixed.result c.cell-each.result a.requires.0 (fixed c) (each c)

pub length_of_spec : {M : Type 1} → statement M
length_of_spec =
    tie.close
    (tie.spec
    mul-cell
    add-cell
    cell-requires
    mul-cell-2
    add-cell-2
    cell-requires-2
    mul-result
    add-result
    returns)
