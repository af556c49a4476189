-- `unit::entry::is_entry` meets its contract. Assumes nothing.
use Rattle.unit.proofs.Entries.{entry-no!, entry-page! }
use Rattle.unit.proofs.entry.is_entry.Statement.{statement}
use Rattle.unit.proofs.entry.is_entry.Tie as tie

returns : tie.Need-returns-then-k-key
returns c = search entry-no!

returns-2 : tie.Need-returns
returns-2 c = search entry-page!

pub is_entry_spec : {M : Type 1} → statement M
is_entry_spec = tie.close (tie.spec returns returns-2)
