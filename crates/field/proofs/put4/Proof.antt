-- `field::put4` meets its contract: four stores side by side are one write. Assumes nothing.
use native.Mathlib.Omega.{arith}
use lib.ListN.{length-set}
use Rattle.field.specs.Bytes.{bytes4}
use Rattle.field.proofs.Number.{set4}
use borrow.Author.Rules.{rules}
use Rattle.field.proofs.put4.Statement.{statement}
use Rattle.field.proofs.put4.Tie as tie

cast-s : tie.Need-overflow_cast-s
cast-s c = search rules

slice-write-s : tie.Need-bounds-s-i
slice-write-s c = search rules

cast-s-2 : tie.Need-overflow_cast-s-2
cast-s-2 c = search rules

add-s : tie.Need-overflow_add-s
add-s c = search rules

slice-write-s-2 : tie.Need-bounds-s-i-2
slice-write-s-2 c = simp length-set (omega arith)

cast-s-3 : tie.Need-overflow_cast-s-3
cast-s-3 c = search rules

add-s-2 : tie.Need-overflow_add-s-2
add-s-2 c = search rules

slice-write-s-3 : tie.Need-bounds-s-i-3
slice-write-s-3 c = simp length-set (omega arith)

cast-s-4 : tie.Need-overflow_cast-s-4
cast-s-4 c = search rules

add-s-3 : tie.Need-overflow_add-s-3
add-s-3 c = search rules

slice-write-s-4 : tie.Need-bounds-s-i-4
slice-write-s-4 c = simp length-set (omega arith)

same_length : tie.Need-shape_of-s
same_length c = search rules

returns : tie.Need-returns
unfolding bytes4
returns c = set4 _ c.args.i _ _ _ _ c.requires

pub put4_spec : {M : Type 1} → statement M
put4_spec =
    tie.close
    (tie.spec
    cast-s
    slice-write-s
    cast-s-2
    add-s
    slice-write-s-2
    cast-s-3
    add-s-2
    slice-write-s-3
    cast-s-4
    add-s-3
    slice-write-s-4
    same_length
    returns)
