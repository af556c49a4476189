-- `putting::begun` meets its contract: a law for each of its answers. Assumes nothing.
use native.Mathlib.Omega.{arith}
use Rattle.putting.proofs.Puts.{put-open, put_refused, put-room, put-number, put_last, put-begun}
use Rattle.logs.specs.Record.{length_of}
use borrow.Author.Rules.{rules}
use Rattle.putting.proofs.begun.Statement.{statement}
use Rattle.putting.proofs.begun.Tie as tie

kept-requires : tie.Need-kept-requires
kept-requires c κs = search rules

returns : tie.Need-returns-then-w
returns c = λ s b e. put-open _ _ _ _ b _ _ _ s e _ _ _ c.kept.ensures c.before.if-w.true

needed-requires : tie.Need-needed-x-requires
needed-requires c κs = search rules

kept-requires-2 : tie.Need-kept-requires-then-x-ne0
kept-requires-2 c κs = search rules

returns-2 : tie.Need-returns-then-x-ne0
returns-2 c = λ s b e. put_refused _ _ _ _ b _ _ _ s e c.before.before.before.before.if-w.false _ _ c.before.before.before.needed-x.ensures _ _ _ c.kept-then-x-ne0.ensures c.before.if-x-ne0.true

add-end : tie.Need-overflow_add-end
add-end c = search rules

add-end-2 : tie.Need-overflow_add-end-2
add-end-2 c = search rules

cast-many : tie.Need-overflow_cast-many
cast-many c = search rules

add-rest : tie.Need-overflow_add-rest
add-rest c = search rules

mul-rest : tie.Need-overflow_mul-rest
mul-rest c = search rules

add-rest-2 : tie.Need-overflow_add-rest-2
add-rest-2 c = search rules

add-if3 : tie.Need-overflow_add-end-3
add-if3 c = search rules

kept-requires-3 : tie.Need-kept-requires-then-end-rest-gt8192
kept-requires-3 c κs = search rules

returns-3 : tie.Need-returns-then-end-rest-gt8192
returns-3 c =
    λ s b e. put-room _ _ _ _ b _ _ _ s e c.before.before.before.before.before.before.before.if-w.false _ _ c.before.before.before.before.before.before.needed-x.ensures c.before.before.before.before.if-x-ne0.false _ _ _ c.kept-then-end-rest-gt8192.ensures (omega (arith, c.before.if-end-rest-gt8192.true))

cast-if4 : tie.Need-overflow_cast-w
cast-if4 c = search rules

add-if4 : tie.Need-overflow_add-w
add-if4 c = search rules

add-if4-2 : tie.Need-overflow_add-many
add-if4-2 c = search rules

add-if4-3 : tie.Need-overflow_add-w-2
add-if4-3 c = search rules

kept-requires-4 : tie.Need-kept-requires-then-w-many-gt4294967295
kept-requires-4 c κs = search rules

returns-4 : tie.Need-returns-then-w-many-gt4294967295
returns-4 c =
    λ s b e.
    put-number _ _ _ _ b _ _ _ s e c.before.before.before.before.before.before.before.before.before.if-w.false _ _ c.before.before.before.before.before.before.before.before.needed-x.ensures c.before.before.before.before.before.before.if-x-ne0.false _ _ _ (omega (arith, c.before.before.before.if-end-rest-gt8192.false)) c.kept-then-w-many-gt4294967295.ensures
    (omega (arith, c.before.if-w-many-gt4294967295.true))

kept-requires-5 : tie.Need-kept-requires-then-w-ge4294967295
kept-requires-5 c κs = search rules

returns-5 : tie.Need-returns-then-w-ge4294967295
returns-5 c =
    λ s b e.
    put_last _ _ _ _ b _ _ _ s e c.before.before.before.before.before.before.before.before.before.before.before.if-w.false _ _ c.before.before.before.before.before.before.before.before.before.before.needed-x.ensures c.before.before.before.before.before.before.before.before.if-x-ne0.false _ _ _ (omega (arith, c.before.before.before.before.before.if-end-rest-gt8192.false)) c.kept-then-w-ge4294967295.ensures
    (omega (arith, c.before.before.before.if-w-many-gt4294967295.false)) c.before.if-w-ge4294967295.true

add-t19 : tie.Need-overflow_add-w-3
add-t19 c = search rules

add-t21 : tie.Need-overflow_add-w-4
add-t21 c = search rules

put-save-requires : tie.Need-put_save-requires
unfolding length_of
put-save-requires c κs = (c.before.before.before.before.before.before.before.before.before.before.before.before.before.before.before.before.before.requires.3, omega (arith, c.before.before.before.before.before.before.before.if-end-rest-gt8192.false, c.before.before.before.before.before.before.before.before.before.before.before.before.before.before.before.before.before.requires.1))

cast-t19 : tie.Need-overflow_cast-result
cast-t19 c = search rules

same_length : tie.Need-shape_of-log
same_length c = search rules

returns-6 : tie.Need-returns
returns-6 c =
    λ s b e.
    put-begun _ _ _ _ b _ _ _ s e c.before.before.before.before.before.before.before.before.before.before.before.before.before.before.before.before.if-w.false _ _ c.before.before.before.before.before.before.before.before.before.before.before.before.before.before.before.needed-x.ensures c.before.before.before.before.before.before.before.before.before.before.before.before.before.if-x-ne0.false (omega (arith, c.before.before.before.before.before.before.before.before.before.before.if-end-rest-gt8192.false)) (omega (arith, c.before.before.before.before.before.before.before.before.if-w-many-gt4294967295.false)) c.before.before.before.before.before.before.if-w-ge4294967295.false
    _ (omega arith) _ c.before.before.put_save.ensures

pub begun_spec : {M : Type 1} → statement M
begun_spec =
    tie.close
    (tie.spec
    kept-requires
    returns
    needed-requires
    kept-requires-2
    returns-2
    add-end
    add-end-2
    cast-many
    add-rest
    mul-rest
    add-rest-2
    add-if3
    kept-requires-3
    returns-3
    cast-if4
    add-if4
    add-if4-2
    add-if4-3
    kept-requires-4
    returns-4
    kept-requires-5
    returns-5
    add-t19
    add-t21
    put-save-requires
    cast-t19
    same_length
    returns-6)
