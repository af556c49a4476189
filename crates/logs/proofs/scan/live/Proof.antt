-- `logs::scan::live` meets its contract. Assumes nothing.
use mathlib.Core.Path.{sym}
use borrow.Author.Tests.{not-true, not-false}
use Rattle.field.proofs.Test.{both_true, both_false}
use Rattle.logs.specs.Scan.{live}
use Rattle.logs.proofs.Pass.{live-short}
use borrow.Author.Rules.{rules}
use Rattle.logs.proofs.scan.live.Statement.{statement}
use Rattle.logs.proofs.scan.live.Tie as tie

returns : tie.Need-returns-then-not-w
unfolding live
returns c = sym (both_false _ _ (not-true _ c.if-not-w.true))

returns-2 : tie.Need-returns-then-l-at
returns-2 c = live-short _ _ c.if-l-at.true

shared-slice-read-result : tie.Need-bounds-l-at
shared-slice-read-result c = search rules

returns-3 : tie.Need-returns
unfolding live
returns-3 c = sym (both_true _ _ (not-false _ c.before.before.if-not-w.false))

pub live_spec : {M : Type 1} → statement M
live_spec = tie.close (tie.spec returns returns-2 shared-slice-read-result returns-3)
