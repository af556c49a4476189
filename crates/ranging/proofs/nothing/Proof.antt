-- `ranging::nothing` meets its contract. Assumes nothing.
use Rattle.field.specs.Bytes.{zeroes}
use borrow.Author.Rules.{rules}
use Rattle.ranging.proofs.nothing.Statement.{statement}
use Rattle.ranging.proofs.nothing.Tie as tie

end-requires : tie.Need-end-at-requires
end-requires c κs = search rules

returns : tie.Need-returns
unfolding zeroes
returns c = rw c.end-at.ensures

pub nothing_spec : {M : Type 1} → statement M
nothing_spec = tie.close (tie.spec end-requires returns)
