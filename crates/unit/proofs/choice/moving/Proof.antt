-- `unit::choice::moving` meets its contract. Assumes nothing.
use native.Mathlib.Omega.{arith}
use mathlib.Core.Path.{refl}
use Rattle.field.specs.Test.{when}
use Rattle.field.specs.Bytes.{zeroes}
use Rattle.unit.specs.Choice.{move_of}
use Rattle.unit.specs.Chosen.{chosen}
use Rattle.unit.proofs.choice.moving.Statement.{statement}
use Rattle.unit.proofs.choice.moving.Tie as tie

returns : tie.Need-returns
unfolding chosen when zeroes move_of
returns c = record { unit = λ u. refl; some-bases = omega arith; spare-bases = refl; some-leaves = omega arith; spare-leaves = refl }

pub moving_spec : {M : Type 1} → statement M
moving_spec = tie.close (tie.spec returns)
