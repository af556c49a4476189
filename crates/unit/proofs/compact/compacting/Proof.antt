-- `unit::compact::compacting` meets its contract. Assumes nothing.
use borrow.Author.Rules.{rules}
use mathlib.Core.Path.{◌∙◌}
use lib.ListN.{drop}
use Rattle.page.specs.Page.{rows_of}
use Rattle.page.proofs.Rows.{length-rows_of}
use Rattle.unit.specs.Chosen.{to_pages}
use Rattle.unit.proofs.Groups.{length-to_pages}
use Rattle.unit.proofs.Chooses.{compact-picks}
use Rattle.unit.proofs.compact.compacting.Statement.{statement}
use Rattle.unit.proofs.compact.compacting.Tie as tie

lowest-empty-requires : tie.Need-lowest_empty-dest-requires
lowest-empty-requires c κs = search rules

listing-requires : tie.Need-listing-leaves-requires
listing-requires c κs = search rules

cast-t11 : tie.Need-overflow_cast-result
cast-t11 c = search rules

cast-t12 : tie.Need-overflow_cast-result-2
cast-t12 c = search rules

returns : tie.Need-returns
returns c =
    let a = c.before.before.before.before in
    let es = rows_of 8 a.args.k (drop a.args.start a.args.pg.now) in
    rw (← c.before.lowest_empty-dest.ensures)
    (compact-picks _ _ _ _ _ (to_pages es) _ c.listing-leaves.ensures (length-to_pages es ∙ length-rows_of 8 _ _) a.requires.1.0)

pub compacting_spec : {M : Type 1} → statement M
compacting_spec =
    tie.close (tie.spec lowest-empty-requires listing-requires cast-t11 cast-t12 returns)
