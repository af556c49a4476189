-- `saving::put::put_split` meets its contract: the base page and the two halves, in number order. Assumes nothing.
use Prim.Native.Nat.{◌≤◌, ◌<◌}
use native.Mathlib.Omega.{arith}
use lib.ListN.{length}
use Rattle.page.specs.Page.{rows}
use Rattle.page.specs.Pages.{page}
use Rattle.page.proofs.Rows.{length-rows}
use Rattle.saving.specs.Draft.{inserted}
use Rattle.saving.proofs.Plans.{plans-as, listed-as}
use Rattle.saving.proofs.Puts.{free-leafy, under-parts, under-there, widens, split-nowhere, split-full, split-low, split-high}
use borrow.Author.Rules.{rules}
use Rattle.saving.proofs.put.put_split.Statement.{statement}
use Rattle.saving.proofs.put.put_split.Tie as tie

free-leaf-requires : tie.Need-free_leaf-q-requires
free-leaf-requires c κs = search rules

refused-requires : tie.Need-refused-requires
refused-requires c κs = search rules

returns : tie.Need-returns-then-q-gt-LAST_LEAF
returns c = λ r e.
    let f = c.before.before.before in
    let a = f.before.before in
    let w = a.args.w.now in
    plans-as w r _ _ _ (c.refused.ensures w r)
    (split-nowhere _ _ _ _ _ _ _ (under-parts w _ a.requires.1) _ f.free_leaf-q.ensures c.before.if-q-gt-LAST_LEAF.true)

cast-count-at : tie.Need-overflow_cast-x
cast-count-at c = search rules

count-at-requires : tie.Need-count_at-requires
count-at-requires c κs = search rules

refused-requires-2 : tie.Need-refused-requires-then-count_at-ge30
refused-requires-2 c κs = search rules

returns-2 : tie.Need-returns-then-count_at-ge30
returns-2 c = λ r e.
    let n = c.before.before in
    let f = n.before.before.before.before in
    let a = f.before.before in
    let w = a.args.w.now in
    let many : 30 ≤ length (rows 8 (page a.args.x.base.0 w)) = omega (arith, length-rows 8 (page a.args.x.base.0 w), n.count_at.ensures, c.before.if-count_at-ge30.true) in
    plans-as w r _ _ _ (c.refused-then-count_at-ge30.ensures w r) (split-full _ _ _ _ _ _ _ (under-parts w _ a.requires.1) _ f.free_leaf-q.ensures many)

upper-key-requires : tie.Need-upper_key-requires
upper-key-requires c κs = search rules

add-patched : tie.Need-overflow_add-x
add-patched c =
    let a = c.before.before.before.before.before.before.before.before.before in
    omega (arith, under-there a.args.w.now _ a.requires.1, a.requires.1.base.fits)

add-patched-2 : tie.Need-overflow_add-x-2
add-patched-2 c =
    let a = c.before.before.before.before.before.before.before.before.before.before in
    omega (arith, under-there a.args.w.now _ a.requires.1, a.requires.1.base.fits)

patched-requires : tie.Need-patched-base-requires
patched-requires c κs =
    let k = c.before.before in
    let n = k.before.before in
    let a = n.before.before.before.before.before.before in
    let w = a.args.w.now in
    (a.requires.0.whole, a.requires.1.base.inside, widens w _ a.requires.1 _ _ (omega (arith, n.count_at.ensures, k.before.if-count_at-ge30.false)))

lower-half-requires : tie.Need-lower_half-low-requires
lower-half-requires c κs =
    let a = c.before.before.before.before.before.before.before.before.before.before.before in
    (a.requires.1.leafy, omega (arith, a.requires.1.stands.order, a.requires.1.stands.inside, a.requires.2))

upper-half-requires : tie.Need-upper_half-high-requires
upper-half-requires c κs =
    let g = c.before.before.before.before.before.before.before.before in
    let f = g.before.before in
    let a = f.before.before in
    let t = a.requires.1 in
    (free-leafy _ _ f.free_leaf-q.ensures g.if-q-gt-LAST_LEAF.false, t.leafy, omega (arith, t.stands.order, t.stands.inside, a.requires.2))

listed-requires : tie.Need-listed-requires
listed-requires c κs = search rules

returns-3 : tie.Need-returns-then-x-q
unfolding inserted
returns-3 c = λ r e.
    let v = c.before.before.before.before in
    let l = v.before in
    let b = l.before in
    let k = b.before.before.before in
    let n = k.before.before in
    let g = n.before.before in
    let f = g.before.before in
    let a = f.before.before in
    let w = a.args.w.now in
    let t = a.requires.1 in
    let es = rows 8 (page a.args.x.base.0 w) in
    let room : length es < 30 = omega (arith, length-rows 8 (page a.args.x.base.0 w), n.count_at.ensures, k.before.if-count_at-ge30.false) in
    let free = free-leafy _ _ f.free_leaf-q.ensures g.if-q-gt-LAST_LEAF.false in
    listed-as w r _ _ 3 _ _ _ _ _ _ _ _ b.patched-base.ensures (l.lower_half-low.ensures w a.requires.2) (v.upper_half-high.ensures w a.requires.2) (v.upper_half-high.ensures w a.requires.2) c.listed.ensures
    (split-low _ _ _ _ _ _ _ (under-parts w _ t) _ f.free_leaf-q.ensures _ (k.upper_key.ensures r e) room g.if-q-gt-LAST_LEAF.false
    (omega (arith, t.basic, t.leafy)) c.before.if-x-q.true)

listed-requires-2 : tie.Need-listed-requires-2
listed-requires-2 c κs = search rules

returns-4 : tie.Need-returns
unfolding inserted
returns-4 c = λ r e.
    let v = c.before.before.before.before in
    let l = v.before in
    let b = l.before in
    let k = b.before.before.before in
    let n = k.before.before in
    let g = n.before.before in
    let f = g.before.before in
    let a = f.before.before in
    let w = a.args.w.now in
    let t = a.requires.1 in
    let es = rows 8 (page a.args.x.base.0 w) in
    let room : length es < 30 = omega (arith, length-rows 8 (page a.args.x.base.0 w), n.count_at.ensures, k.before.if-count_at-ge30.false) in
    let free = free-leafy _ _ f.free_leaf-q.ensures g.if-q-gt-LAST_LEAF.false in
    listed-as w r _ _ 3 _ _ _ _ _ _ _ _ b.patched-base.ensures (v.upper_half-high.ensures w a.requires.2) (l.lower_half-low.ensures w a.requires.2) (l.lower_half-low.ensures w a.requires.2) c.listed-2.ensures
    (split-high _ _ _ _ _ _ _ (under-parts w _ t) _ f.free_leaf-q.ensures _ (k.upper_key.ensures r e) room g.if-q-gt-LAST_LEAF.false
    (omega (arith, t.basic, free)) c.before.if-x-q.false)

pub put_split_spec : {M : Type 1} → statement M
put_split_spec =
    tie.close
    (tie.spec
    free-leaf-requires
    refused-requires
    returns
    cast-count-at
    count-at-requires
    refused-requires-2
    returns-2
    upper-key-requires
    add-patched
    add-patched-2
    patched-requires
    lower-half-requires
    upper-half-requires
    listed-requires
    returns-3
    listed-requires-2
    returns-4)
