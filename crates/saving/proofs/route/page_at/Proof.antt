-- `saving::route::page_at` meets its contract. Assumes nothing.
use mathlib.Core.Path.{◌∙◌}
use Rattle.saving.proofs.Leads.{page-there}
use borrow.Author.Rules.{rules}
use Rattle.saving.proofs.route.page_at.Statement.{statement}
use Rattle.saving.proofs.route.page_at.Tie as tie

cast-get2 : tie.Need-overflow_cast-p
cast-get2 c = search rules

mul-get2 : tie.Need-overflow_mul-p
mul-get2 c = search rules

mul-get2-2 : tie.Need-overflow_mul-i
mul-get2-2 c = search rules

add-get2 : tie.Need-overflow_add-i
add-get2 c = search rules

add-get2-2 : tie.Need-overflow_add-i-2
add-get2-2 c = search rules

add-get2-3 : tie.Need-overflow_add-p
add-get2-3 c = search rules

get2-requires : tie.Need-get2-requires
get2-requires c κs = search rules

returns : tie.Need-returns
returns c =
    let a = c.before.before.before in
    c.get2.ensures ∙ page-there a.args.p.0 a.args.i a.args.w.now a.requires.1 a.requires.2

pub page_at_spec : {M : Type 1} → statement M
page_at_spec =
    tie.close
    (tie.spec cast-get2 mul-get2 mul-get2-2 add-get2 add-get2-2 add-get2-3 get2-requires returns)
