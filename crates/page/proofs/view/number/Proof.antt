-- `page::view::number` meets its contract: the number at the offset 4. Assumes nothing.
use Rattle.page.specs.Page.{number}
use borrow.Author.Rules.{rules}
use Rattle.page.proofs.view.number.Statement.{statement}
use Rattle.page.proofs.view.number.Tie as tie

get4-requires : tie.Need-get4-requires
get4-requires c κs = search rules

returns : tie.Need-returns
unfolding number
returns c = c.get4.ensures

pub number_spec : {M : Type 1} → statement M
number_spec = tie.close (tie.spec get4-requires returns)
