-- `logs::opening::spare_zero` meets its contract: each run that is not zero ends it. Assumes nothing.
use Rattle.logs.proofs.Begun.{spare-bases!, spare-leaves!, spare-rest! }
use borrow.Author.Rules.{rules}
use Rattle.logs.proofs.opening.spare_zero.Statement.{statement}
use Rattle.logs.proofs.opening.spare_zero.Tie as tie

byte-at-requires : tie.Need-byte_at-bases-requires
byte-at-requires c κs = search rules

byte-at-requires-2 : tie.Need-byte_at-leaves-requires
byte-at-requires-2 c κs = search rules

mul-unused : tie.Need-overflow_mul-bases
mul-unused c = search rules

add-unused : tie.Need-overflow_add-bases
add-unused c = search rules

sub-unused : tie.Need-overflow_sub-bases
sub-unused c = search rules

unused-requires : tie.Need-unused-requires
unused-requires c κs = search rules

returns : tie.Need-returns-then-not-unused
returns c = search spare-bases!

mul-unused-2 : tie.Need-overflow_mul-leaves
mul-unused-2 c = search rules

add-unused-2 : tie.Need-overflow_add-leaves
add-unused-2 c = search rules

sub-unused-2 : tie.Need-overflow_sub-leaves
sub-unused-2 c = search rules

unused-requires-2 : tie.Need-unused-requires-2
unused-requires-2 c κs = search rules

returns-2 : tie.Need-returns-then-not-unused-2
returns-2 c = search spare-leaves!

unused-requires-3 : tie.Need-unused-requires-3
unused-requires-3 c κs = search rules

returns-3 : tie.Need-returns
returns-3 c = search spare-rest!

pub spare_zero_spec : {M : Type 1} → statement M
spare_zero_spec =
    tie.close
    (tie.spec
    byte-at-requires
    byte-at-requires-2
    mul-unused
    add-unused
    sub-unused
    unused-requires
    returns
    mul-unused-2
    add-unused-2
    sub-unused-2
    unused-requires-2
    returns-2
    unused-requires-3
    returns-3)
