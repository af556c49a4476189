-- `page::view::entry_page` meets its contract: an entry's page stands behind its key. Assumes nothing.
use mathlib.Core.Path.{◌∙◌}
use Rattle.page.proofs.Rows.{page-at}
use borrow.Author.Rules.{rules}
use Rattle.page.proofs.view.entry_page.Statement.{statement}
use Rattle.page.proofs.view.entry_page.Tie as tie

mul-get2 : tie.Need-overflow_mul-i
mul-get2 c = search rules

add-get2 : tie.Need-overflow_add-i
add-get2 c = search rules

add-get2-2 : tie.Need-overflow_add-i-2
add-get2-2 c = search rules

get2-requires : tie.Need-get2-requires
get2-requires c κs = search rules

returns : tie.Need-returns
returns c =
    let a = c.before.before in
    c.get2.ensures ∙ page-at a.args.i a.args.pg.now a.requires.1

pub entry_page_spec : {M : Type 1} → statement M
entry_page_spec = tie.close (tie.spec mul-get2 add-get2 add-get2-2 get2-requires returns)
