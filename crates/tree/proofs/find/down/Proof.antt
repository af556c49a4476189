-- `tree::find::down` meets its contract. Assumes nothing.
use Rattle.page.proofs.Pages.{lent-page}
use Rattle.tree.specs.Way.{way_down}
use borrow.Author.Rules.{rules}
use Rattle.tree.proofs.find.down.Statement.{statement}
use Rattle.tree.proofs.find.down.Tie as tie

mul_at : tie.Need-overflow_mul-at
mul_at c = search rules

add-way-on : tie.Need-overflow_add-at
add-way-on c = search rules

sub-way-on : tie.Need-slice_bounds-way_on-count
sub-way-on c = search rules

part-way-on-start : tie.Need-slice_bounds-way_on-start
part-way-on-start c = search rules

part-way-on-end : tie.Need-slice_bounds-way_on-end
part-way-on-end c = search rules

way-on-requires : tie.Need-way_on-requires
way-on-requires c κs = search rules

returns : tie.Need-returns
unfolding way_down
returns c = cc (lent-page c.before.before.before.args.p c.before.before.before.args.w.now)

pub down_spec : {M : Type 1} → statement M
down_spec =
    tie.close
    (tie.spec
    mul_at
    add-way-on
    sub-way-on
    part-way-on-start
    part-way-on-end
    way-on-requires
    returns)
