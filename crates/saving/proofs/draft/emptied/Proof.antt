-- `saving::draft::emptied` meets its contract: no rows. Assumes nothing.
use native.Mathlib.Omega.{arith}
use mathlib.Core.Path.{refl}
use Rattle.field.specs.Test.{pick}
use Rattle.saving.specs.Draft.{run, inserted, spare_of, sheet_of}
use Rattle.saving.proofs.draft.emptied.Statement.{statement}
use Rattle.saving.proofs.draft.emptied.Tie as tie

returns : tie.Need-returns
unfolding sheet_of run inserted spare_of pick
returns c = λ w.
    record {
      same = λ r. refl;
      ready = record {
        inside = c.requires;
        source = c.requires;
        front = record { there = omega arith; fits = omega arith };
        suits = tt;
        back = record { there = omega arith; fits = omega arith };
        room = omega arith;
        few = omega arith;
      };
    }

pub emptied_spec : {M : Type 1} → statement M
emptied_spec = tie.close (tie.spec returns)
