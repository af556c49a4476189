-- `page::view::letter` meets its contract. Assumes nothing.
use mathlib.Core.Path.{refl}
use Rattle.page.specs.Page.{letter}
use borrow.Author.Rules.{rules}
use Rattle.page.proofs.view.letter.Statement.{statement}
use Rattle.page.proofs.view.letter.Tie as tie

shared-slice-read-result : tie.Need-bounds-pg-1
shared-slice-read-result c = search rules

returns : tie.Need-returns
unfolding letter
returns c = refl

pub letter_spec : {M : Type 1} → statement M
letter_spec = tie.close (tie.spec shared-slice-read-result returns)
