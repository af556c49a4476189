-- `field::get4` meets its contract: the number of the four bytes. Assumes nothing.
use Rattle.field.specs.Bytes.{le4}
use borrow.Author.Rules.{rules}
use Rattle.field.proofs.get4.Statement.{statement}
use Rattle.field.proofs.get4.Tie as tie

shared-slice-read-num4 : tie.Need-bounds-s-i
shared-slice-read-num4 c = search rules

add-num4 : tie.Need-overflow_add-i
add-num4 c = search rules

shared-slice-read-num4-2 : tie.Need-bounds-s-i-2
shared-slice-read-num4-2 c = search rules

add-num4-2 : tie.Need-overflow_add-i-2
add-num4-2 c = search rules

shared-slice-read-num4-3 : tie.Need-bounds-s-i-3
shared-slice-read-num4-3 c = search rules

add-num4-3 : tie.Need-overflow_add-i-3
add-num4-3 c = search rules

shared-slice-read-num4-4 : tie.Need-bounds-s-i-4
shared-slice-read-num4-4 c = search rules

num4-requires : tie.Need-num4-requires
num4-requires c κs = search rules

returns : tie.Need-returns
unfolding le4
returns c = c.num4.ensures

pub get4_spec : {M : Type 1} → statement M
get4_spec =
    tie.close
    (tie.spec
    shared-slice-read-num4
    add-num4
    shared-slice-read-num4-2
    add-num4-2
    shared-slice-read-num4-3
    add-num4-3
    shared-slice-read-num4-4
    num4-requires
    returns)
