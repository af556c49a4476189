-- `logs::writing::put_out` meets its contract. Assumes nothing.
use Rattle.logs.specs.Record.{length_of}
use Rattle.logs.specs.Table.{kinds, kind_at}
use Rattle.logs.proofs.Puts.{out-puts}
use borrow.Author.Rules.{rules}
use Rattle.logs.proofs.writing.put_out.Statement.{statement}
use Rattle.logs.proofs.writing.put_out.Tie as tie

put-paged-requires : tie.Need-put_paged-requires
put-paged-requires c κs = search rules

size-of-requires : tie.Need-size_of-requires
size-of-requires c κs = search rules

add-copy : tie.Need-overflow_add-at
unfolding length_of kind_at kinds
add-copy c = search rules

copy-requires : tie.Need-copy-requires
unfolding length_of kind_at kinds
copy-requires c κs = search rules

same_length : tie.Need-shape_of-s
same_length c = search rules

returns : tie.Need-returns
unfolding length_of kind_at kinds
returns c =
    let a = c.before.before.before.before.before.before.before.before.before.before.before in
    cc (out-puts a.args.s.now a.args.at a.args.n.0 a.args.org.0 a.args.dest.0 a.args.k a.args.rs.now a.requires.1 a.requires.0.2)

pub put_out_spec : {M : Type 1} → statement M
put_out_spec = tie.close (tie.spec put-paged-requires size-of-requires add-copy copy-requires same_length returns)
