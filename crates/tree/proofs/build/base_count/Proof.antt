-- `tree::build::base_count` meets its contract. Assumes nothing.
use Prim.Native.Nat.{ℕ, ◌/◌}
use mathlib.Core.Path.{sym, ap, ◌∙◌}
use lib.ListN.{length}
use Rattle.tree.specs.Pieces.{pieces}
use Rattle.tree.proofs.Groups.{base-count}
use Rattle.tree.proofs.Laid.{pieces-few}
use native.Mathlib.Omega.{arith}
use borrow.Author.Rules.{rules}
use Rattle.tree.proofs.build.base_count.Statement.{statement}
use Rattle.tree.proofs.build.base_count.Tie as tie

pieces-requires : tie.Need-pieces-leaves-requires
pieces-requires c κs = search rules

pieces-requires-2 : tie.Need-pieces-requires
pieces-requires-2 c κs =
    let a = c.before.before in
    omega (arith, c.pieces-leaves.ensures, pieces-few (length a.args.records.now / 16) a.args.f a.requires.0)

returns : tie.Need-returns
returns c =
    let a = c.before.before.before in
    c.pieces.ensures ∙ ap (λ (x : ℕ). pieces x a.args.g) c.before.pieces-leaves.ensures
    ∙ sym (base-count a.args.f a.args.g (length a.args.records.now / 16) a.args.records.now a.requires.0 a.requires.2)

pub base_count_spec : {M : Type 1} → statement M
base_count_spec = tie.close (tie.spec pieces-requires pieces-requires-2 returns)
