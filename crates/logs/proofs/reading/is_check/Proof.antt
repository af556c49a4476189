-- `logs::reading::is_check` meets its contract. Assumes nothing.
use native.Mathlib.Omega.{arith}
use Rattle.logs.specs.Record.{length_of}
use Rattle.logs.specs.Table.{kinds, kind_at}
use Rattle.logs.proofs.Pass.{check-stands! }
use borrow.Author.Rules.{rules}
use Rattle.logs.proofs.reading.is_check.Statement.{statement}
use Rattle.logs.proofs.reading.is_check.Tie as tie

slice-aggregate-put-check : tie.Need-slice_bounds-put_check-end
slice-aggregate-put-check c = search rules

put-check-requires : tie.Need-put_check-requires
put-check-requires c κs = search rules

slice-aggregate-same-at : tie.Need-slice_bounds-same_at-end
slice-aggregate-same-at c = search rules

size-of-requires : tie.Need-size_of-requires
size-of-requires c κs = search rules

same-at-requires : tie.Need-same_at-requires
unfolding length_of kind_at kinds
same-at-requires c κs = omega arith

returns : tie.Need-returns
returns c = search check-stands!

pub is_check_spec : {M : Type 1} → statement M
is_check_spec =
    tie.close
    (tie.spec
    slice-aggregate-put-check
    put-check-requires
    slice-aggregate-same-at
    size-of-requires
    same-at-requires
    returns)
