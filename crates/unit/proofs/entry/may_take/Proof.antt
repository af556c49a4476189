-- `unit::entry::may_take` meets its contract. Assumes nothing.
use Rattle.unit.proofs.Entries.{take-other!, take-any!, take-but! }
use Rattle.unit.proofs.entry.may_take.Statement.{statement}
use Rattle.unit.proofs.entry.may_take.Tie as tie

returns : tie.Need-returns-then-q-p
returns c = search take-other!

returns-2 : tie.Need-returns-then-not-skip
returns-2 c = search take-any!

returns-3 : tie.Need-returns
returns-3 c = search take-but!

pub may_take_spec : {M : Type 1} → statement M
may_take_spec = tie.close (tie.spec returns returns-2 returns-3)
