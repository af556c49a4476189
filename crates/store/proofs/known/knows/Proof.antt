-- `store::known::knows` meets its contract: a test each. Assumes nothing.
use Rattle.store.proofs.Passed.{knows-broken!, knows-elsewhere!, knows-ends! }
use Rattle.store.proofs.known.knows.Statement.{statement}
use Rattle.store.proofs.known.knows.Tie as tie

returns : tie.Need-returns-then-not-w
returns c = search knows-broken!

returns-2 : tie.Need-returns-then-w-used
returns-2 c = search knows-elsewhere!

returns-3 : tie.Need-returns
returns-3 c = search knows-ends!

pub knows_spec : {M : Type 1} → statement M
knows_spec = tie.close (tie.spec returns returns-2 returns-3)
