-- `saving::plan::refused` meets its contract. Assumes nothing.
use native.Mathlib.Omega.{arith}
use mathlib.Core.Path.{◌≡◌}
use borrow.Author.Tests.{ne_eqb}
use Rattle.field.proofs.Test.{pick-false}
use Rattle.saving.specs.Draft.{planned}
use borrow.Author.Rules.{rules}
use Rattle.saving.proofs.plan.refused.Statement.{statement}
use Rattle.saving.proofs.plan.refused.Tie as tie

emptied-requires : tie.Need-emptied-d-requires
emptied-requires c κs = search rules

returns : tie.Need-returns
unfolding planned
returns c = λ w r.
    let d = (c.emptied-d.ensures w).ready in
    record { same = pick-false _ _ _ (ne_eqb _ 0 (λ (z : c.before.args.reply ≡ 0). omega arith)); few = omega arith; one = d; two = d; three = d; four = d }

pub refused_spec : {M : Type 1} → statement M
refused_spec = tie.close (tie.spec emptied-requires returns)
