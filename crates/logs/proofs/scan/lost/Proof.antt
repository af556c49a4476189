-- `logs::scan::lost` meets its contract. Assumes nothing.
use mathlib.Core.Path.{refl}
use Rattle.logs.specs.Scan.{lost}
use Rattle.logs.proofs.scan.lost.Statement.{statement}
use Rattle.logs.proofs.scan.lost.Tie as tie

returns : tie.Need-returns
unfolding lost
returns c = refl

pub lost_spec : {M : Type 1} → statement M
lost_spec = tie.close (tie.spec returns)
