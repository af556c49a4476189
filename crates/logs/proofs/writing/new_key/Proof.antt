-- `logs::writing::new_key` meets its contract. Assumes nothing.
use borrow.Author.Tests.{eq-eqb, ne_eqb}
use Rattle.field.specs.Test.{pick}
use Rattle.logs.specs.Record.{new_key}
use Rattle.logs.proofs.writing.new_key.Statement.{statement}
use Rattle.logs.proofs.writing.new_key.Tie as tie

returns : tie.Need-returns-then-new-eq0
unfolding new_key pick
returns c = rw (eq-eqb _ _ c.if-new-eq0.true)

returns-2 : tie.Need-returns
unfolding new_key pick
returns-2 c = rw (ne_eqb _ _ c.if-new-eq0.false)

pub new_key_spec : {M : Type 1} → statement M
new_key_spec = tie.close (tie.spec returns returns-2)
