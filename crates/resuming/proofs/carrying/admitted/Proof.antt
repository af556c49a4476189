-- `resuming::carrying::admitted` meets its contract. Assumes nothing.
use Rattle.resuming.proofs.Carries.{tested-full!, tested-last!, tested-ok! }
use borrow.Author.Rules.{rules}
use Rattle.resuming.proofs.carrying.admitted.Statement.{statement}
use Rattle.resuming.proofs.carrying.admitted.Tie as tie

add-if1 : tie.Need-overflow_add-t-3
add-if1 c = search rules

mul-if1 : tie.Need-overflow_mul-k
mul-if1 c = search rules

add-if1-2 : tie.Need-overflow_add-k
add-if1-2 c = search rules

add-if1-3 : tie.Need-overflow_add-w
add-if1-3 c = search rules

returns : tie.Need-returns-then-w-k-gt8192
returns c = search tested-full!

cast-if2 : tie.Need-overflow_cast-w
cast-if2 c = search rules

add-if2 : tie.Need-overflow_add-k-2
add-if2 c = search rules

add-if2-2 : tie.Need-overflow_add-w-2
add-if2-2 c = search rules

returns-2 : tie.Need-returns-then-w-k-gt4294967295
returns-2 c = search tested-last!

returns-3 : tie.Need-returns
returns-3 c = search tested-ok!

pub admitted_spec : {M : Type 1} → statement M
admitted_spec =
    tie.close
    (tie.spec
    add-if1
    mul-if1
    add-if1-2
    add-if1-3
    returns
    cast-if2
    add-if2
    add-if2-2
    returns-2
    returns-3)
