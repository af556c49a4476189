-- `saving::route::key_at` meets its contract. Assumes nothing.
use Prim.Native.Nat.{◌+◌, ◌*◌, ◌≤◌}
use mathlib.Core.Path.{◌∙◌}
use native.Mathlib.Omega.{arith}
use Rattle.saving.proofs.Leads.{row_inside, key-there}
use borrow.Author.Rules.{rules}
use Rattle.saving.proofs.route.key_at.Statement.{statement}
use Rattle.saving.proofs.route.key_at.Tie as tie

-- the row is in its page
inside : (c : tie.After-struct_known-1) → 16 + c.before.before.args.sz * c.before.before.args.i + c.before.before.args.sz ≤ 256
inside c = let a = c.before.before in row_inside a.args.sz a.args.p.0 a.args.i a.args.w.now a.requires.1 a.requires.3

cast-get4 : tie.Need-overflow_cast-p
cast-get4 c = search rules

mul-get4 : tie.Need-overflow_mul-p
mul-get4 c = search rules

mul-get4-2 : tie.Need-overflow_mul-sz
mul-get4-2 c = omega (arith, inside c)

add-get4 : tie.Need-overflow_add-sz
add-get4 c = omega (arith, inside c)

add-get4-2 : tie.Need-overflow_add-sz-2
add-get4-2 c = omega (arith, inside c)

add-get4-3 : tie.Need-overflow_add-p
add-get4-3 c = omega (arith, inside c, c.before.before.requires.1.inside)

get4-requires : tie.Need-get4-requires
get4-requires c κs = omega (arith, inside c, c.before.before.requires.1.inside)

returns : tie.Need-returns
returns c =
    let a = c.before.before.before in
    c.get4.ensures ∙ key-there a.args.sz a.args.p.0 a.args.i a.args.w.now a.requires.1 a.requires.3 a.requires.2

pub key_at_spec : {M : Type 1} → statement M
key_at_spec =
    tie.close
    (tie.spec cast-get4 mul-get4 mul-get4-2 add-get4 add-get4-2 add-get4-3 get4-requires returns)
