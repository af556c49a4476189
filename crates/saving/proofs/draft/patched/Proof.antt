-- `saving::draft::patched` meets its contract: the runs are the page's front and back. Assumes nothing.
use Rattle.saving.proofs.Shapes.{patched-draws}
use borrow.Author.Rules.{rules}
use Rattle.saving.proofs.draft.patched.Statement.{statement}
use Rattle.saving.proofs.draft.patched.Tie as tie

cast-count-at : tie.Need-overflow_cast-p
cast-count-at c = search rules

count-at-requires : tie.Need-count_at-n-requires
count-at-requires c κs = search rules

sub-t10 : tie.Need-overflow_sub-result
sub-t10 c = search rules

returns : tie.Need-returns
returns c =
    let a = c.before.before.before in
    patched-draws a.args.w.now a.args.p _ _ _ _ _ _ a.requires.1 a.requires.2 c.count_at-n.ensures

pub patched_spec : {M : Type 1} → statement M
patched_spec = tie.close (tie.spec cast-count-at count-at-requires sub-t10 returns)
