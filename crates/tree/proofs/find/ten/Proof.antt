-- `tree::find::ten` meets its contract. Assumes nothing.
use mathlib.Core.Path.{refl, ◌∙◌}
use Rattle.tree.proofs.Descent.{ten-bytes}
use borrow.Author.Rules.{rules}
use Rattle.tree.proofs.find.ten.Statement.{statement}
use Rattle.tree.proofs.find.ten.Tie as tie

slice-aggregate-copy : tie.Need-slice_bounds-copy-end
slice-aggregate-copy c = search rules

add-copy : tie.Need-overflow_add-at
add-copy c = search rules

sub-copy : tie.Need-slice_bounds-copy-count
sub-copy c = search rules

part-copy-start : tie.Need-slice_bounds-copy-start
part-copy-start c = search rules

part-copy-end : tie.Need-slice_bounds-copy-end-2
part-copy-end c = search rules

copy-requires : tie.Need-copy-requires
copy-requires c κs = search rules

returns : tie.Need-returns
returns c = let a = c.before.before.before.before.before in c.before.copy.ensures ∙ ten-bytes a.args.at a.args.s.now _ refl a.requires

pub ten_spec : {M : Type 1} → statement M
ten_spec =
    tie.close
    (tie.spec
    slice-aggregate-copy
    add-copy
    sub-copy
    part-copy-start
    part-copy-end
    copy-requires
    returns)
