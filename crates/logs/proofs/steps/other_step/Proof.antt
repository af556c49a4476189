-- `logs::steps::other_step` meets its contract: by the type of the unit. Assumes nothing.
use native.Mathlib.Omega.{arith}
use mathlib.Core.Path.{sym, ◌∙◌}
use Rattle.logs.proofs.Placed.{is-swap, step-swap!, step-other! }
use borrow.Author.Rules.{rules}
use Rattle.logs.proofs.steps.other_step.Statement.{statement}
use Rattle.logs.proofs.steps.other_step.Tie as tie

get2-requires : tie.Need-get2-requires
get2-requires c κs = search rules

get2-requires-2 : tie.Need-get2-requires-2
get2-requires-2 c κs = search rules

byte-at-requires : tie.Need-byte_at-requires
byte-at-requires c κs = search rules

second-base-requires : tie.Need-second_base-requires
second-base-requires c κs =
    let a = c.before.before.before.before.before in
    omega (arith, (is-swap a.args.m.now a.args.unit.0 a.requires.1 (sym c.before.byte_at.ensures.0 ∙ c.if-byte_at-eq2.true)).few)

add-get2 : tie.Need-overflow_add-get2
add-get2 c = search rules

get2-requires-3 : tie.Need-get2-requires-then-byte_at-eq2
get2-requires-3 c κs = search rules

swap-step-requires : tie.Need-swap_step-requires
swap-step-requires c κs = search rules

returns : tie.Need-returns-then-byte_at-eq2
returns c = search step-swap!

get2-requires-4 : tie.Need-get2-requires-3
get2-requires-4 c κs = search rules

move-step-requires : tie.Need-move_step-requires
move-step-requires c κs = search rules

returns-2 : tie.Need-returns
returns-2 c = search step-other!

pub other_step_spec : {M : Type 1} → statement M
other_step_spec =
    tie.close
    (tie.spec
    get2-requires
    get2-requires-2
    byte-at-requires
    second-base-requires
    add-get2
    get2-requires-3
    swap-step-requires
    returns
    get2-requires-4
    move-step-requires
    returns-2)
