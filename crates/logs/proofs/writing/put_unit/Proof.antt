-- `logs::writing::put_unit` meets its contract. Assumes nothing.
use Rattle.logs.proofs.Puts.{unit-puts}
use Rattle.logs.specs.Table.{kind_at}
use borrow.Author.Rules.{rules}
use Rattle.logs.proofs.writing.put_unit.Statement.{statement}
use Rattle.logs.proofs.writing.put_unit.Tie as tie

length-of-requires : tie.Need-length_of-requires
length-of-requires c κs = search rules

put-header-requires : tie.Need-put_header-requires
put-header-requires c κs = search rules

add-put4 : tie.Need-overflow_add-at
add-put4 c = search rules

put4-requires : tie.Need-put4-requires
put4-requires c κs = search rules

same_length : tie.Need-shape_of-s
same_length c = search rules

returns : tie.Need-returns
returns c =
    let a = c.before.before.before.before.before.before.before.before.before.before in
    cc (unit-puts a.args.s.now a.args.at (kind_at a.args.k) a.args.rows a.args.n.0 a.args.prior.0 a.args.unit.0 a.requires.2)

pub put_unit_spec : {M : Type 1} → statement M
put_unit_spec =
    tie.close
    (tie.spec length-of-requires put-header-requires add-put4 put4-requires same_length returns)
