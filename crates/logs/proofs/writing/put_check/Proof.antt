-- `logs::writing::put_check` meets its contract. Assumes nothing.
use Rattle.logs.proofs.Puts.{check-puts}
use borrow.Author.Rules.{rules}
use Rattle.logs.proofs.writing.put_check.Statement.{statement}
use Rattle.logs.proofs.writing.put_check.Tie as tie

length-of-requires : tie.Need-length_of-requires
length-of-requires c κs = search rules

put-header-requires : tie.Need-put_header-requires
put-header-requires c κs = search rules

put4-requires : tie.Need-put4-requires
put4-requires c κs = search rules

number-if-requires : tie.Need-number_if-requires
number-if-requires c κs = search rules

put4-requires-2 : tie.Need-put4-requires-2
put4-requires-2 c κs = search rules

number-if-requires-2 : tie.Need-number_if-requires-2
number-if-requires-2 c κs = search rules

put4-requires-3 : tie.Need-put4-requires-3
put4-requires-3 c κs = search rules

same_length : tie.Need-shape_of-s
same_length c = search rules

returns : tie.Need-returns
returns c =
    let a = c.before.before.before.before.before.before.before.before.before.before.before.before.before.before.before.before.before.before.before.before in
    cc (check-puts a.args.s.now a.args.n.0 a.args.unit.0 a.args.there a.args.key a.requires)

pub put_check_spec : {M : Type 1} → statement M
put_check_spec =
    tie.close
    (tie.spec
    length-of-requires
    put-header-requires
    put4-requires
    number-if-requires
    put4-requires-2
    number-if-requires-2
    put4-requires-3
    same_length
    returns)
