-- `logs::writing::put_in` meets its contract. Assumes nothing.
use Rattle.logs.proofs.Puts.{in-puts}
use borrow.Author.Rules.{rules}
use Rattle.logs.proofs.writing.put_in.Statement.{statement}
use Rattle.logs.proofs.writing.put_in.Tie as tie

put-paged-requires : tie.Need-put_paged-requires
put-paged-requires c κs = search rules

add-put4 : tie.Need-overflow_add-at
add-put4 c = search rules

earlier-requires : tie.Need-earlier-requires
earlier-requires c κs = search rules

put4-requires : tie.Need-put4-requires
put4-requires c κs = search rules

same_length : tie.Need-shape_of-s
same_length c = search rules

returns : tie.Need-returns
returns c =
    let a = c.before.before.before.before.before.before.before.before.before.before in
    cc (in-puts a.args.s.now a.args.at a.args.n.0 a.args.org.0 a.args.dest.0 a.args.back a.args.rows a.requires.1)

pub put_in_spec : {M : Type 1} → statement M
put_in_spec =
    tie.close
    (tie.spec put-paged-requires add-put4 earlier-requires put4-requires same_length returns)
