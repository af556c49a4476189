-- `unit::apply::end_image` meets its contract. Assumes nothing.
use Rattle.unit.proofs.Ended.{laid-old!, laid-new! }
use borrow.Author.Rules.{rules}
use Rattle.unit.proofs.apply.end_image.Statement.{statement}
use Rattle.unit.proofs.apply.end_image.Tie as tie

stamped-requires : tie.Need-stamped-requires
stamped-requires c κs = search rules

same_length : tie.Need-shape_of-w-then-stamped
same_length c = search rules

returns : tie.Need-returns-then-stamped
returns c = search laid-old!

cast-copy : tie.Need-overflow_cast-p
cast-copy c = search rules

mul-copy : tie.Need-overflow_mul-p
mul-copy c = search rules

copy-requires : tie.Need-copy-requires
copy-requires c κs = search rules

same-length-2 : tie.Need-shape_of-w
same-length-2 c = search rules

returns-2 : tie.Need-returns
returns-2 c = search laid-new!

pub end_image_spec : {M : Type 1} → statement M
end_image_spec =
    tie.close
    (tie.spec
    stamped-requires
    same_length
    returns
    cast-copy
    mul-copy
    copy-requires
    same-length-2
    returns-2)
