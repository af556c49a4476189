-- `tree::walk::next` meets its contract. Assumes nothing.
use Prim.Native.Nat.{◌+◌, ◌≤◌, ◌<◌}
use mathlib.Core.Path.{◌∙◌}
use Rattle.page.specs.Page.{count}
use Rattle.page.specs.Pages.{page}
use Rattle.tree.proofs.Onward.{stands-more, come-more, come-behind}
use native.Mathlib.Omega.{arith}
use borrow.Author.Rules.{rules}
use Rattle.tree.proofs.walk.next.Statement.{statement}
use Rattle.tree.proofs.walk.next.Tie as tie

add-if1 : tie.Need-overflow_add-at
add-if1 c =
    let a = c.before.before in
    let w = a.args.w.now in
    let at = a.args.at in
    let on = a.requires.1.on a.requires.2 in
    omega (arith, on.here, on.spot.fits)

count-at-requires : tie.Need-count_at-requires
count-at-requires c κs =
    let a = c.before.before in
    let w = a.args.w.now in
    let at = a.args.at in
    let on = a.requires.1.on a.requires.2 in
    (a.requires.0.form.whole, on.spot.inside)

cast-if1 : tie.Need-overflow_cast-count_at
cast-if1 c = search rules

add-t7 : tie.Need-overflow_add-result
add-t7 c = search rules

returns : tie.Need-returns-then-at-count_at
returns c =
    let a = c.before.before.before.before.before in
    let w = a.args.w.now in
    let at = a.args.at in
    let on = a.requires.1.on a.requires.2 in
    let h : at.row + 1 < count (page at.leaf w) = omega (arith, c.before.before.count_at.ensures, c.before.if-at-count_at.true) in
    (stands-more w at on h, come-more w at on)

next-leaf-requires : tie.Need-next_leaf-requires
next-leaf-requires c κs = search rules

returns-2 : tie.Need-returns
returns-2 c =
    let a = c.before.before.before.before.before in
    let w = a.args.w.now in
    let at = a.args.at in
    let on = a.requires.1.on a.requires.2 in
    let h : count (page at.leaf w) ≤ at.row + 1 = omega (arith, c.before.before.count_at.ensures, c.before.if-at-count_at.false) in
    let x = c.next_leaf.ensures in
    (x.0, x.1 ∙ come-behind w at on h)

pub next_spec : {M : Type 1} → statement M
next_spec =
    tie.close
    (tie.spec add-if1 count-at-requires cast-if1 add-t7 returns next-leaf-requires returns-2)
