-- `tree::walk::below_root` meets its contract. Assumes nothing.
use Prim.Native.Nat.{◌+◌}
use mathlib.Core.Path.{refl, sym, ◌∙◌}
use Rattle.tree.proofs.Onward.{root-fits, root_over, there-stands, there-come, root-come}
use native.Mathlib.Omega.{arith}
use Rattle.tree.proofs.walk.below_root.Statement.{statement}
use Rattle.tree.proofs.walk.below_root.Tie as tie

entry-at-requires : tie.Need-entry_at-base-requires
entry-at-requires c κs = let a = c.before in (a.requires.0.form.whole, omega arith, root-fits a.args.w.now a.requires.0, a.requires.1)

entry-at-requires-2 : tie.Need-entry_at-leaf-requires
entry-at-requires-2 c κs =
    let a = c.before.before in
    let w = a.args.w.now in
    let i = a.args.i in
    let x = c.entry_at-base in
    let o = root_over w a.requires.0 i x.result a.requires.1 x.ensures in
    (a.requires.0.form.whole, o.base.inside, o.base.fits, o.base.full)

add-t5 : tie.Need-overflow_add-result
add-t5 c = let a = c.before.before.before in omega (arith, root-fits a.args.w.now a.requires.0, a.requires.1)

returns : tie.Need-returns
returns c =
    let a = c.before.before.before in
    let w = a.args.w.now in
    let i = a.args.i in
    let x = c.before.entry_at-base in
    let o = root_over w a.requires.0 i x.result a.requires.1 x.ensures in
    let y = c.entry_at-leaf in (
      there-stands w (i + 1) x.result 0 y.result o o.base.full y.ensures,
      there-come w (i + 1) x.result 0 y.result o o.base.full y.ensures ∙ sym (root-come w a.requires.0 i x.result a.requires.1 x.ensures),
      refl,
    )

pub below_root_spec : {M : Type 1} → statement M
below_root_spec = tie.close (tie.spec entry-at-requires entry-at-requires-2 add-t5 returns)
