-- `tree::build::leaf_count` meets its contract. Assumes nothing.
use native.Mathlib.Omega.{arith}
use Prim.Native.Nat.{◌≤◌, ◌/◌}
use mathlib.Core.Path.{sym, ◌∙◌}
use lib.ListN.{length}
use Rattle.tree.proofs.Groups.{leaf-count}
use borrow.Author.Rules.{rules}
use Rattle.tree.proofs.build.leaf_count.Statement.{statement}
use Rattle.tree.proofs.build.leaf_count.Tie as tie

pieces-requires : tie.Need-pieces-requires
pieces-requires c κs = search rules

returns : tie.Need-returns
returns c =
    let a = c.before.before in
    let one : 1 ≤ 1 = omega arith in
    c.pieces.ensures ∙ sym (leaf-count a.args.f 1 (length a.args.records.now / 16) a.args.records.now a.requires.0 one)

pub leaf_count_spec : {M : Type 1} → statement M
leaf_count_spec = tie.close (tie.spec pieces-requires returns)
