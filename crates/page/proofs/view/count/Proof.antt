-- `page::view::count` meets its contract: the number at the offset 2. Assumes nothing.
use Rattle.page.specs.Page.{count}
use borrow.Author.Rules.{rules}
use Rattle.page.proofs.view.count.Statement.{statement}
use Rattle.page.proofs.view.count.Tie as tie

get2-requires : tie.Need-get2-requires
get2-requires c κs = search rules

returns : tie.Need-returns
unfolding count
returns c = c.get2.ensures

pub count_spec : {M : Type 1} → statement M
count_spec = tie.close (tie.spec get2-requires returns)
