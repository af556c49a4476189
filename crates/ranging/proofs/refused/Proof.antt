-- `ranging::refused` meets its contract. Assumes nothing.
use borrow.Author.Rules.{rules}
use Rattle.ranging.proofs.refused.Statement.{statement}
use Rattle.ranging.proofs.refused.Tie as tie

end-requires : tie.Need-end-at-requires
end-requires c κs = search rules

returns : tie.Need-returns
returns c = rw c.end-at.ensures

pub refused_spec : {M : Type 1} → statement M
refused_spec = tie.close (tie.spec end-requires returns)
