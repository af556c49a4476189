-- `logs::writing::listed_at` meets its contract. Assumes nothing.
use mathlib.Core.Path.{sym}
use lib.ListN.{get_or-eq_default}
use borrow.Author.Rules.{rules}
use Rattle.logs.proofs.writing.listed_at.Statement.{statement}
use Rattle.logs.proofs.writing.listed_at.Tie as tie

mul-result : tie.Need-offset_bounds-ps-i
mul-result c = search rules

shared-slice-read-result : tie.Need-bounds-ps-i
shared-slice-read-result c = search rules

returns : tie.Need-returns-then-i-ps
returns c = search rules

returns-2 : tie.Need-returns
returns-2 c = sym (get_or-eq_default c.before.args.ps.now 0 c.if-i-ps.false)

pub listed_at_spec : {M : Type 1} → statement M
listed_at_spec = tie.close (tie.spec mul-result shared-slice-read-result returns returns-2)
