-- `unit::compact::begins` meets its contract. Assumes nothing.
use borrow.Author.Rules.{rules}
use Rattle.unit.proofs.Groups.{alone!, not-alone! }
use Rattle.unit.proofs.compact.begins.Statement.{statement}
use Rattle.unit.proofs.compact.begins.Tie as tie

returns : tie.Need-returns-then-k-lt1
returns c = search alone!

exceeds-requires : tie.Need-exceeds-requires
exceeds-requires c κs = search rules

returns-2 : tie.Need-returns
returns-2 c = search not-alone!

pub begins_spec : {M : Type 1} → statement M
begins_spec = tie.close (tie.spec returns exceeds-requires returns-2)
