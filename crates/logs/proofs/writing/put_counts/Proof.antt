-- `logs::writing::put_counts` meets its contract. Assumes nothing.
use native.Mathlib.Omega.{arith}
use lib.ListN.{length-set}
use Rattle.field.proofs.Number.{set4}
use borrow.Author.Rules.{rules}
use Rattle.logs.proofs.writing.put_counts.Statement.{statement}
use Rattle.logs.proofs.writing.put_counts.Tie as tie

slice-write-s : tie.Need-bounds-s-at
slice-write-s c = search rules

add-s : tie.Need-overflow_add-s
add-s c = search rules

slice-write-s-2 : tie.Need-bounds-s-at-2
slice-write-s-2 c = simp length-set (omega arith)

add-s-2 : tie.Need-overflow_add-s-2
add-s-2 c = search rules

slice-write-s-3 : tie.Need-bounds-s-at-3
slice-write-s-3 c = simp length-set (omega arith)

add-s-3 : tie.Need-overflow_add-s-3
add-s-3 c = search rules

slice-write-s-4 : tie.Need-bounds-s-at-4
slice-write-s-4 c = simp length-set (omega arith)

same_length : tie.Need-shape_of-s
same_length c = search rules

returns : tie.Need-returns
returns c = set4 _ c.args.at _ _ _ _ c.requires

pub put_counts_spec : {M : Type 1} → statement M
put_counts_spec =
    tie.close
    (tie.spec
    slice-write-s
    add-s
    slice-write-s-2
    add-s-2
    slice-write-s-3
    add-s-3
    slice-write-s-4
    same_length
    returns)
