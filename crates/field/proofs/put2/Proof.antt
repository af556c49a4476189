-- `field::put2` meets its contract: two stores side by side are one write. Assumes nothing.
use native.Mathlib.Omega.{arith}
use lib.ListN.{length-set}
use Rattle.field.specs.Bytes.{bytes2}
use Rattle.field.proofs.Number.{set2}
use borrow.Author.Rules.{rules}
use Rattle.field.proofs.put2.Statement.{statement}
use Rattle.field.proofs.put2.Tie as tie

cast-s : tie.Need-overflow_cast-s
cast-s c = search rules

slice-write-s : tie.Need-bounds-s-i
slice-write-s c = search rules

cast-s-2 : tie.Need-overflow_cast-s-2
cast-s-2 c = search rules

add-s : tie.Need-overflow_add-s
add-s c = search rules

slice-write-s-2 : tie.Need-bounds-s-i-2
slice-write-s-2 c = simp length-set (omega arith)

same_length : tie.Need-shape_of-s
same_length c = search rules

returns : tie.Need-returns
unfolding bytes2
returns c = set2 _ c.args.i _ _ c.requires

pub put2_spec : {M : Type 1} → statement M
put2_spec =
    tie.close (tie.spec cast-s slice-write-s cast-s-2 add-s slice-write-s-2 same_length returns)
