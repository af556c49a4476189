-- `saving::plan::draft_at` meets its contract. Assumes nothing.
use Rattle.saving.proofs.Plans.{at-first!, at-second!, at-third!, at-fourth! }
use Rattle.saving.proofs.plan.draft_at.Statement.{statement}
use Rattle.saving.proofs.plan.draft_at.Tie as tie

returns : tie.Need-returns-then-i-eq0
returns c = search at-first!

returns-2 : tie.Need-returns-then-i-eq1
returns-2 c = search at-second!

returns-3 : tie.Need-returns-then-i-eq2
returns-3 c = search at-third!

returns-4 : tie.Need-returns
returns-4 c = search at-fourth!

pub draft_at_spec : {M : Type 1} → statement M
draft_at_spec = tie.close (tie.spec returns returns-2 returns-3 returns-4)
