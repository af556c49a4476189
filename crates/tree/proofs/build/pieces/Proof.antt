-- `tree::build::pieces` meets its contract. Assumes nothing.
use mathlib.Core.Path.{refl}
use Rattle.tree.specs.Pieces.{pieces}
use borrow.Author.Rules.{rules}
use Rattle.tree.proofs.build.pieces.Statement.{statement}
use Rattle.tree.proofs.build.pieces.Tie as tie

add-result : tie.Need-overflow_add-result
add-result c = search rules

sub-result : tie.Need-overflow_sub-result
sub-result c = search rules

div-result : tie.Need-nonzero_div-result
div-result c = search rules

returns : tie.Need-returns
unfolding pieces
returns c = refl

pub pieces_spec : {M : Type 1} → statement M
pieces_spec = tie.close (tie.spec add-result sub-result div-result returns)
