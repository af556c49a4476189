-- `saving::delete::lowered` meets its contract. Assumes nothing.
use Rattle.saving.proofs.Deletes.{lowered-draws}
use borrow.Author.Rules.{rules}
use Rattle.saving.proofs.delete.lowered.Statement.{statement}
use Rattle.saving.proofs.delete.lowered.Tie as tie

page-at-requires : tie.Need-page_at-to-requires
page-at-requires c κs = search rules

add-patched : tie.Need-overflow_add-i
add-patched c = search rules

patched-requires : tie.Need-patched-requires
patched-requires c κs = search rules

returns : tie.Need-returns
returns c =
    let a = c.before.before.before in
    lowered-draws a.args.w.now _ _ _ _ _ _ a.requires.2 c.before.page_at-to.ensures c.patched.ensures

pub lowered_spec : {M : Type 1} → statement M
lowered_spec = tie.close (tie.spec page-at-requires add-patched patched-requires returns)
