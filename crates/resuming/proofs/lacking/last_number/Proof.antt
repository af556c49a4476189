-- `resuming::lacking::last_number` meets its contract. Assumes nothing.
use Rattle.resuming.specs.Lacking.{first_number, last_number}
use mathlib.Core.Path.{refl}
use borrow.Author.Rules.{rules}
use Rattle.resuming.proofs.lacking.last_number.Statement.{statement}
use Rattle.resuming.proofs.lacking.last_number.Tie as tie

cast-result : tie.Need-overflow_cast-result
cast-result c = search rules

sub-result : tie.Need-overflow_sub-result
sub-result c = search rules

add-result : tie.Need-overflow_add-result
add-result c = search rules

add-result-2 : tie.Need-overflow_add-result-2
add-result-2 c = search rules

returns : tie.Need-returns
unfolding last_number first_number
returns c = refl

pub last_number_spec : {M : Type 1} → statement M
last_number_spec =
    tie.close
    (tie.spec
    cast-result
    sub-result
    add-result
    add-result-2
    returns)
