-- `logs::writing::put_image_head` meets its contract. Assumes nothing.
use Rattle.logs.proofs.Puts.{image-puts}
use borrow.Author.Rules.{rules}
use Rattle.logs.proofs.writing.put_image_head.Statement.{statement}
use Rattle.logs.proofs.writing.put_image_head.Tie as tie

length-of-requires : tie.Need-length_of-requires
length-of-requires c κs = search rules

sub-t9 : tie.Need-overflow_sub-n
sub-t9 c = search rules

put-header-requires : tie.Need-put_header-requires
put-header-requires c κs = search rules

add-put2 : tie.Need-overflow_add-at
add-put2 c = search rules

put2-requires : tie.Need-put2-requires
put2-requires c κs = search rules

add-put2-2 : tie.Need-overflow_add-at-2
add-put2-2 c = search rules

put2-requires-2 : tie.Need-put2-requires-2
put2-requires-2 c κs = search rules

same_length : tie.Need-shape_of-s
same_length c = search rules

returns : tie.Need-returns
returns c =
    let a = c.before.before.before.before.before.before.before.before.before.before.before.before.before.before.before in
    cc (image-puts a.args.s.now a.args.at a.args.n.0 a.args.p.0 a.requires.1)

pub put_image_head_spec : {M : Type 1} → statement M
put_image_head_spec =
    tie.close
    (tie.spec
    length-of-requires
    sub-t9
    put-header-requires
    add-put2
    put2-requires
    add-put2-2
    put2-requires-2
    same_length
    returns)
