-- `putting::deleting` meets its contract. Assumes nothing.
use Rattle.putting.proofs.Puts.{deleting-is! }
use borrow.Author.Rules.{rules}
use Rattle.putting.proofs.deleting.Statement.{statement}
use Rattle.putting.proofs.deleting.Tie as tie

array-write-r : tie.Need-bounds-r-0
array-write-r c = search rules

array-write-r-2 : tie.Need-bounds-r-1
array-write-r-2 c = search rules

slice-aggregate-put4 : tie.Need-slice_bounds-put4-end
slice-aggregate-put4 c = search rules

put4-requires : tie.Need-put4-requires
put4-requires c κs = search rules

returns : tie.Need-returns
returns c = search deleting-is!

pub deleting_spec : {M : Type 1} → statement M
deleting_spec =
    tie.close
    (tie.spec
    array-write-r
    array-write-r-2
    slice-aggregate-put4
    put4-requires
    returns)
