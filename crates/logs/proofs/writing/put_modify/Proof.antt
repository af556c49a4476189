-- `logs::writing::put_modify` meets its contract. Assumes nothing.
use Rattle.logs.proofs.Puts.{modify-puts}
use borrow.Author.Rules.{rules}
use Rattle.logs.proofs.writing.put_modify.Statement.{statement}
use Rattle.logs.proofs.writing.put_modify.Tie as tie

put-paged-requires : tie.Need-put_paged-requires
put-paged-requires c κs = search rules

add-put4 : tie.Need-overflow_add-at
add-put4 c = search rules

put4-requires : tie.Need-put4-requires
put4-requires c κs = search rules

add-put4-2 : tie.Need-overflow_add-at-2
add-put4-2 c = search rules

new-key-requires : tie.Need-new_key-requires
new-key-requires c κs = search rules

put4-requires-2 : tie.Need-put4-requires-2
put4-requires-2 c κs = search rules

same_length : tie.Need-shape_of-s
same_length c = search rules

returns : tie.Need-returns
returns c =
    let a = c.before.before.before.before.before.before.before.before.before.before.before.before.before.before in
    cc (modify-puts a.args.s.now a.args.at a.args.n.0 a.args.base.0 a.args.old.0 a.args.new.0 a.args.key a.requires.1)

pub put_modify_spec : {M : Type 1} → statement M
put_modify_spec =
    tie.close
    (tie.spec
    put-paged-requires
    add-put4
    put4-requires
    add-put4-2
    new-key-requires
    put4-requires-2
    same_length
    returns)
