-- `unit::choice::swapping` meets its contract. Assumes nothing.
use native.Mathlib.Omega.{arith}
use mathlib.Core.Path.{refl}
use borrow.Author.Tests.{eq-eqb, ne_eqb}
use Rattle.field.specs.Test.{pick, when}
use Rattle.field.specs.Bytes.{zeroes}
use Rattle.unit.specs.Choice.{one_or_two, swap_of}
use Rattle.unit.specs.Chosen.{chosen}
use Rattle.unit.proofs.choice.swapping.Statement.{statement}
use Rattle.unit.proofs.choice.swapping.Tie as tie

returns : tie.Need-returns-then-other-base
unfolding chosen when zeroes swap_of one_or_two pick
returns c = record {
  unit = λ u. rw (eq-eqb _ _ c.if-other-base.true);
  some-bases = omega arith;
  spare-bases = refl;
  some-leaves = omega arith;
  spare-leaves = refl;
}

returns-2 : tie.Need-returns
unfolding chosen when zeroes swap_of one_or_two pick
returns-2 c = record {
  unit = λ u. rw (ne_eqb _ _ c.if-other-base.false);
  some-bases = omega arith;
  spare-bases = refl;
  some-leaves = omega arith;
  spare-leaves = refl;
}

pub swapping_spec : {M : Type 1} → statement M
swapping_spec = tie.close (tie.spec returns returns-2)
