-- `logs::writing::put_paged` meets its contract. Assumes nothing.
use Rattle.logs.proofs.Puts.{paged-puts}
use Rattle.logs.specs.Table.{kind_at}
use borrow.Author.Rules.{rules}
use Rattle.logs.proofs.writing.put_paged.Statement.{statement}
use Rattle.logs.proofs.writing.put_paged.Tie as tie

length-of-requires : tie.Need-length_of-requires
length-of-requires c κs = search rules

sub-t13 : tie.Need-overflow_sub-n
sub-t13 c = search rules

put-header-requires : tie.Need-put_header-requires
put-header-requires c κs = search rules

add-put2 : tie.Need-overflow_add-at
add-put2 c = search rules

put2-requires : tie.Need-put2-requires
put2-requires c κs = search rules

add-put2-2 : tie.Need-overflow_add-at-2
add-put2-2 c = search rules

put2-requires-2 : tie.Need-put2-requires-2
put2-requires-2 c κs = search rules

add-put2-3 : tie.Need-overflow_add-at-3
add-put2-3 c = search rules

put2-requires-3 : tie.Need-put2-requires-3
put2-requires-3 c κs = search rules

add-put2-4 : tie.Need-overflow_add-at-4
add-put2-4 c = search rules

put2-requires-4 : tie.Need-put2-requires-4
put2-requires-4 c κs = search rules

same_length : tie.Need-shape_of-s
same_length c = search rules

returns : tie.Need-returns
returns c =
    let a = c.before.before.before.before.before.before.before.before.before.before.before.before.before.before.before.before.before.before.before.before.before.before.before in
    cc (paged-puts a.args.s.now a.args.at (kind_at a.args.k) a.args.rows a.args.n.0 a.args.a.0 a.args.b.0 a.args.c a.requires.3)

pub put_paged_spec : {M : Type 1} → statement M
put_paged_spec =
    tie.close
    (tie.spec
    length-of-requires
    sub-t13
    put-header-requires
    add-put2
    put2-requires
    add-put2-2
    put2-requires-2
    add-put2-3
    put2-requires-3
    add-put2-4
    put2-requires-4
    same_length
    returns)
