-- `logs::writing::put_header` meets its contract. Assumes nothing.
use Rattle.logs.proofs.Puts.{header-puts}
use Rattle.logs.specs.Table.{kind_at}
use borrow.Author.Rules.{rules}
use Rattle.logs.proofs.writing.put_header.Statement.{statement}
use Rattle.logs.proofs.writing.put_header.Tie as tie

put-mark-requires : tie.Need-put_mark-requires
put-mark-requires c κs = search rules

add-put2 : tie.Need-overflow_add-at
add-put2 c = search rules

put2-requires : tie.Need-put2-requires
put2-requires c κs = search rules

add-put4 : tie.Need-overflow_add-at-2
add-put4 c = search rules

put4-requires : tie.Need-put4-requires
put4-requires c κs = search rules

add-put4-2 : tie.Need-overflow_add-at-3
add-put4-2 c = search rules

put4-requires-2 : tie.Need-put4-requires-2
put4-requires-2 c κs = search rules

same_length : tie.Need-shape_of-s
same_length c = search rules

returns : tie.Need-returns
returns c =
    let a = c.before.before.before.before.before.before.before.before.before.before.before.before.before.before.before.before.before in
    cc (header-puts a.args.s.now a.args.at (kind_at a.args.k) a.args.long a.args.n.0 a.args.prior.0 a.requires.1)

pub put_header_spec : {M : Type 1} → statement M
put_header_spec =
    tie.close
    (tie.spec
    put-mark-requires
    add-put2
    put2-requires
    add-put4
    put4-requires
    add-put4-2
    put4-requires-2
    same_length
    returns)
