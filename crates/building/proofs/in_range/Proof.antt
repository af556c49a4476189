-- `building::in_range` meets its contract: a test each. Assumes nothing.
use Rattle.building.proofs.Builds.{range-leaf-low!, range-leaf-high!, range-base-low!, range-base-high!, range-whole! }
use Rattle.building.proofs.in_range.Statement.{statement}
use Rattle.building.proofs.in_range.Tie as tie

returns : tie.Need-returns-then-f-lt1
returns c = search range-leaf-low!

returns-2 : tie.Need-returns-then-f-gt15
returns-2 c = search range-leaf-high!

returns-3 : tie.Need-returns-then-g-lt1
returns-3 c = search range-base-low!

returns-4 : tie.Need-returns-then-g-gt30
returns-4 c = search range-base-high!

returns-5 : tie.Need-returns
returns-5 c = search range-whole!

pub in_range_spec : {M : Type 1} → statement M
in_range_spec = tie.close (tie.spec returns returns-2 returns-3 returns-4 returns-5)
