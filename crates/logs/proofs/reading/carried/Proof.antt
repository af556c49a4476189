-- `logs::reading::carried` meets its contract. Assumes nothing.
use mathlib.Core.Path.{sym, ◌∙◌}
use Rattle.field.proofs.Test.{pick_true, pick-false}
use borrow.Author.Rules.{rules}
use Rattle.logs.proofs.reading.carried.Statement.{statement}
use Rattle.logs.proofs.reading.carried.Tie as tie

saves-requires : tie.Need-saves-requires
saves-requires c κs = search rules

returns : tie.Need-returns-then-saves
returns c = sym (pick_true _ _ _ (sym c.before.saves.ensures ∙ c.if-saves.true))

returns-2 : tie.Need-returns
returns-2 c = sym (pick-false _ _ _ (sym c.before.saves.ensures ∙ c.if-saves.false))

pub carried_spec : {M : Type 1} → statement M
carried_spec =
    tie.close
    (tie.spec
    saves-requires
    returns
    returns-2)
