-- `logs::opening::saves` meets its contract. Assumes nothing.
use Rattle.logs.specs.Log.{saves_at}
use borrow.Author.Rules.{rules}
use Rattle.logs.proofs.opening.saves.Statement.{statement}
use Rattle.logs.proofs.opening.saves.Tie as tie

byte-at-requires : tie.Need-byte_at-requires
byte-at-requires c κs = search rules

returns : tie.Need-returns
unfolding saves_at
returns c = rw c.byte_at.ensures.0

pub saves_spec : {M : Type 1} → statement M
saves_spec =
    tie.close
    (tie.spec
    byte-at-requires
    returns)
