-- `unit::choice::empty_at` meets its contract. Assumes nothing.
use native.Mathlib.Omega.{arith}
use mathlib.Core.Path.{sym, ◌∙◌}
use Rattle.page.proofs.Places.{empty_leaf_lem}
use Rattle.unit.proofs.Walk.{empty-letter}
use Rattle.unit.proofs.choice.empty_at.Statement.{statement}
use Rattle.unit.proofs.choice.empty_at.Tie as tie

cast-result : tie.Need-overflow_cast-result
cast-result c = omega arith

mul-result : tie.Need-overflow_mul-result
mul-result c = omega arith

add-result : tie.Need-overflow_add-result
add-result c = omega arith

shared-slice-read-result : tie.Need-bounds-w-p
shared-slice-read-result c = omega (arith, c.before.before.requires.0.whole)

returns : tie.Need-returns
returns c =
    let a = c.before.before in
    empty-letter a.args.w.now a.args.p.0 a.requires.0 (omega arith) ∙ sym (empty_leaf_lem a.args.p.0 _ a.requires.1)

pub empty_at_spec : {M : Type 1} → statement M
empty_at_spec = tie.close (tie.spec cast-result mul-result add-result shared-slice-read-result returns)
