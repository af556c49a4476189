-- `logs::opening::type_ok` meets its contract: each test that fails ends it. Assumes nothing.
use native.Mathlib.Omega.{arith}
use Rattle.logs.proofs.Typed.{type-compact!, type-swap!, type-move!, type-none! }
use Rattle.logs.proofs.opening.type_ok.Statement.{statement}
use Rattle.logs.proofs.opening.type_ok.Tie as tie

byte-at-requires : tie.Need-byte_at-kind-requires
byte-at-requires c κs = omega (arith, c.before.requires.0)

compact-ok-requires : tie.Need-compact_ok-requires
compact-ok-requires c κs = omega (arith, c.before.before.before.requires.0)

returns : tie.Need-returns-then-kind-eq1
returns c = search type-compact!

swap-ok-requires : tie.Need-swap_ok-requires
swap-ok-requires c κs = omega (arith, c.before.before.before.before.requires.0)

returns-2 : tie.Need-returns-then-kind-eq2
returns-2 c = search type-swap!

move-ok-requires : tie.Need-move_ok-requires
move-ok-requires c κs = omega (arith, c.before.before.before.before.before.requires.0)

returns-3 : tie.Need-returns-then-kind-eq3
returns-3 c = search type-move!

returns-4 : tie.Need-returns
returns-4 c =
    let second = c.before in
    let first = second.before in
    let a = first.before.before.before in
    type-none! a.args.m.now _ first.before.byte_at-kind.ensures.0 a.requires.1 first.if-kind-eq1.false second.if-kind-eq2.false c.if-kind-eq3.false

pub type_ok_spec : {M : Type 1} → statement M
type_ok_spec =
    tie.close
    (tie.spec byte-at-requires compact-ok-requires returns swap-ok-requires returns-2 move-ok-requires returns-3 returns-4)
