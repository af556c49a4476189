-- `page::view::row_key` meets its contract: a row's key stands behind its mark. Assumes nothing.
use mathlib.Core.Path.{◌∙◌}
use Rattle.page.proofs.Rows.{key-at}
use borrow.Author.Rules.{rules}
use Rattle.page.proofs.view.row_key.Statement.{statement}
use Rattle.page.proofs.view.row_key.Tie as tie

mul-get4 : tie.Need-overflow_mul-sz
mul-get4 c = search rules

add-get4 : tie.Need-overflow_add-sz
add-get4 c = search rules

add-get4-2 : tie.Need-overflow_add-sz-2
add-get4-2 c = search rules

get4-requires : tie.Need-get4-requires
get4-requires c κs = search rules

returns : tie.Need-returns
returns c =
    let a = c.before.before in
    c.get4.ensures ∙ key-at a.args.sz a.args.i a.args.pg.now a.requires.0 a.requires.2

pub row_key_spec : {M : Type 1} → statement M
row_key_spec = tie.close (tie.spec mul-get4 add-get4 add-get4-2 get4-requires returns)
