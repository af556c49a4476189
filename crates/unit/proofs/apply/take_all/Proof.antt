-- `unit::apply::take_all` meets its contract. Assumes nothing.
use Rattle.unit.proofs.Applied.{out-own}
use borrow.Author.Rules.{rules}
use Rattle.unit.proofs.apply.take_all.Statement.{statement}
use Rattle.unit.proofs.apply.take_all.Tie as tie

make-empty-at-requires : tie.Need-make_empty_at-requires
make-empty-at-requires c κs = search rules

same_length : tie.Need-shape_of-w
same_length c = search rules

returns : tie.Need-returns
returns c = search out-own

pub take_all_spec : {M : Type 1} → statement M
take_all_spec = tie.close (tie.spec make-empty-at-requires same_length returns)
