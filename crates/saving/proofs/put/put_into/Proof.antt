-- `saving::put::put_into` meets its contract: the leaf, or a split. Assumes nothing.
use Prim.Native.Nat.{◌≤◌}
use native.Mathlib.Omega.{arith}
use mathlib.Core.Path.{◌≡◌}
use Rattle.page.specs.Page.{count}
use Rattle.page.specs.Pages.{page}
use Rattle.saving.specs.Draft.{inserted}
use Rattle.saving.proofs.Plans.{plans-as, listed-as}
use Rattle.saving.proofs.Puts.{into-leaf, into-split}
use borrow.Author.Rules.{rules}
use Rattle.saving.proofs.put.put_into.Statement.{statement}
use Rattle.saving.proofs.put.put_into.Tie as tie

cast-count-at : tie.Need-overflow_cast-x
cast-count-at c = search rules

count-at-requires : tie.Need-count_at-n-requires
count-at-requires c κs = search rules

sub-if1 : tie.Need-overflow_sub-x
sub-if1 c = search rules

sub-if1-2 : tie.Need-overflow_sub-n
sub-if1-2 c = search rules

put-split-requires : tie.Need-put_split-requires
put-split-requires c κs = search rules

returns : tie.Need-returns-then-n-x-ge15
returns c = λ r e.
    let n = c.before.before.before in
    let a = n.before.before.before in
    let w = a.args.w.now in
    let t = a.requires.1 in
    let same : a.args.x.past ≡ a.args.x.at = omega (arith, n.count_at-n.ensures, c.before.if-n-x-ge15.true, t.stands.order, t.leaf.fits) in
    let full : 15 ≤ count (page a.args.x.leaf.0 w) = omega (arith, n.count_at-n.ensures, c.before.if-n-x-ge15.true, t.stands.order) in
    plans-as w r _ _ _ (c.put_split.ensures r e) (into-split w r _ _ _ _ _ t.stands e t.leaf.inside t.base.inside same full)

patched-requires : tie.Need-patched-leaf-requires
patched-requires c κs = search rules

listed-requires : tie.Need-listed-requires
listed-requires c κs = search rules

returns-2 : tie.Need-returns
unfolding inserted
returns-2 c = λ r e.
    let l = c.before in
    let n = l.before.before.before in
    let a = n.before.before.before in
    let w = a.args.w.now in
    let t = a.requires.1 in
    listed-as w r _ _ 1 _ _ _ _ _ _ _ _ l.patched-leaf.ensures l.patched-leaf.ensures l.patched-leaf.ensures l.patched-leaf.ensures c.listed.ensures
    (into-leaf w r _ _ _ _ _ t.stands e t.leaf.inside (omega (arith, n.count_at-n.ensures, l.before.if-n-x-ge15.false, t.stands.order, t.stands.inside)))

pub put_into_spec : {M : Type 1} → statement M
put_into_spec =
    tie.close
    (tie.spec
    cast-count-at
    count-at-requires
    sub-if1
    sub-if1-2
    put-split-requires
    returns
    patched-requires
    listed-requires
    returns-2)
