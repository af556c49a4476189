-- `saving::draft::sole` meets its contract: one row, and no runs. Assumes nothing.
use native.Mathlib.Omega.{arith}
use mathlib.Core.List.{append-nil}
use Rattle.saving.specs.Draft.{run, sheet_of}
use Rattle.saving.proofs.draft.sole.Statement.{statement}
use Rattle.saving.proofs.draft.sole.Tie as tie

returns : tie.Need-returns
unfolding sheet_of run
returns c = λ w.
    record {
      same = λ r. rw append-nil;
      ready = record {
        inside = c.requires.0;
        source = c.requires.0;
        front = record { there = omega arith; fits = omega arith };
        suits = c.requires.2;
        back = record { there = omega arith; fits = omega arith };
        room = omega arith;
        few = omega arith;
      };
    }

pub sole_spec : {M : Type 1} → statement M
sole_spec = tie.close (tie.spec returns)
