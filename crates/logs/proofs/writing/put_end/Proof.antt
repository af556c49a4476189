-- `logs::writing::put_end` meets its contract. Assumes nothing.
use Rattle.logs.proofs.Puts.{encode-end}
use borrow.Author.Rules.{rules}
use Rattle.logs.proofs.writing.put_end.Statement.{statement}
use Rattle.logs.proofs.writing.put_end.Tie as tie

sub-t8 : tie.Need-overflow_sub-n
sub-t8 c = search rules

put-unit-requires : tie.Need-put_unit-requires
put-unit-requires c κs = search rules

same_length : tie.Need-shape_of-s
same_length c = search rules

returns : tie.Need-returns
returns c = let a = c.before.before.before.before.before.before in cc (encode-end a.args.n.0 a.args.unit.0)

pub put_end_spec : {M : Type 1} → statement M
put_end_spec = tie.close (tie.spec sub-t8 put-unit-requires same_length returns)
