-- `tree::walk::next_leaf` meets its contract. Assumes nothing.
use Prim.Native.Nat.{◌≤◌, ◌<◌}
use mathlib.Core.Path.{refl, sym, ◌∙◌}
use Rattle.page.specs.Page.{count}
use Rattle.page.specs.Pages.{page}
use Rattle.tree.specs.Reader.{behind}
use Rattle.tree.proofs.Onward.{there-stands, there-come, behind-base, from-done, end-stands, come-end}
use native.Mathlib.Omega.{arith}
use borrow.Author.Rules.{rules}
use Rattle.tree.proofs.walk.next_leaf.Statement.{statement}
use Rattle.tree.proofs.walk.next_leaf.Tie as tie

count-at-requires : tie.Need-count_at-requires
count-at-requires c κs =
    let a = c.before in
    let w = a.args.w.now in
    let at = a.args.at in
    let on = a.requires.1.on a.requires.2 in
    (a.requires.0.form.whole, on.over.base.inside)

cast-if1 : tie.Need-overflow_cast-count_at
cast-if1 c = search rules

entry-at-requires : tie.Need-entry_at-leaf-requires
entry-at-requires c κs =
    let a = c.before.before.before in
    let w = a.args.w.now in
    let at = a.args.at in
    let on = a.requires.1.on a.requires.2 in
    (a.requires.0.form.whole, on.over.base.inside, on.over.base.fits, omega (arith, c.before.count_at.ensures, c.if-entry-count_at.true))

add-t9 : tie.Need-overflow_add-result
add-t9 c = search rules

returns : tie.Need-returns-then-entry-count_at
unfolding behind
returns c =
    let a = c.before.before.before.before in
    let w = a.args.w.now in
    let at = a.args.at in
    let on = a.requires.1.on a.requires.2 in
    let x = c.entry_at-leaf in
    let h : at.entry < count (page at.base w) = omega (arith, c.before.before.count_at.ensures, c.before.if-entry-count_at.true) in
    (there-stands w at.root at.base at.entry x.result on.over h x.ensures, there-come w at.root at.base at.entry x.result on.over h x.ensures, refl)

count-at-requires-2 : tie.Need-count_at-requires-2
count-at-requires-2 c κs = search rules

cast-if2 : tie.Need-overflow_cast-count_at-2
cast-if2 c = search rules

below-root-requires : tie.Need-below_root-requires
below-root-requires c κs = search rules

returns-2 : tie.Need-returns-then-at-count_at
returns-2 c =
    let a = c.before.before.before.before.before.before.before in
    let w = a.args.w.now in
    let at = a.args.at in
    let on = a.requires.1.on a.requires.2 in
    let h : count (page at.base w) ≤ at.entry = omega (arith, c.before.before.before.before.before.count_at.ensures, c.before.before.before.before.if-entry-count_at.false) in
    let x = c.below_root.ensures in
    (x.0, x.1 ∙ sym (behind-base w at h), x.2)

end-requires : tie.Need-end-requires
end-requires c κs = search rules

returns-3 : tie.Need-returns
returns-3 c =
    let a = c.before.before.before.before.before.before.before in
    let w = a.args.w.now in
    let at = a.args.at in
    let on = a.requires.1.on a.requires.2 in
    let h : count (page at.base w) ≤ at.entry = omega (arith, c.before.before.before.before.before.count_at.ensures, c.before.before.before.before.if-entry-count_at.false) in
    let g : count (page 0 w) ≤ at.root = omega (arith, c.before.before.before.count_at-2.ensures, c.before.if-at-count_at.false) in
    let x = c.end.ensures in
    (end-stands w c.end.result x.0, come-end w c.end.result x.0 ∙ sym (behind-base w at h ∙ from-done w at.root g), x.1)

pub next_leaf_spec : {M : Type 1} → statement M
next_leaf_spec =
    tie.close
    (tie.spec
    count-at-requires
    cast-if1
    entry-at-requires
    add-t9
    returns
    count-at-requires-2
    cast-if2
    below-root-requires
    returns-2
    end-requires
    returns-3)
