-- `page::bounds::place` meets its contract. Assumes nothing.
use borrow.Author.Rules.{rules}
use Rattle.page.specs.Places.{place}
use Rattle.page.proofs.bounds.place.Statement.{statement}
use Rattle.page.proofs.bounds.place.Tie as tie

add-t2 : tie.Need-overflow_add-result
add-t2 c = search rules

returns : tie.Need-returns
unfolding place
returns c = search rules

pub place_spec : {M : Type 1} → statement M
place_spec = tie.close (tie.spec add-t2 returns)
