-- `field::get2` meets its contract: the number of the two bytes. Assumes nothing.
use Rattle.field.specs.Bytes.{le2}
use borrow.Author.Rules.{rules}
use Rattle.field.proofs.get2.Statement.{statement}
use Rattle.field.proofs.get2.Tie as tie

shared-slice-read-num2 : tie.Need-bounds-s-i
shared-slice-read-num2 c = search rules

add-num2 : tie.Need-overflow_add-i
add-num2 c = search rules

shared-slice-read-num2-2 : tie.Need-bounds-s-i-2
shared-slice-read-num2-2 c = search rules

num2-requires : tie.Need-num2-requires
num2-requires c κs = search rules

returns : tie.Need-returns
unfolding le2
returns c = c.num2.ensures

pub get2_spec : {M : Type 1} → statement M
get2_spec =
    tie.close
    (tie.spec shared-slice-read-num2 add-num2 shared-slice-read-num2-2 num2-requires returns)
