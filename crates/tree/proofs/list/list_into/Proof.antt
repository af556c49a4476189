-- `tree::list::list_into` meets its contract. Assumes nothing.
use Prim.Native.Nat.{◌≤◌}
use mathlib.Core.Path.{◌≡◌}
use mathlib.Core.Bool.{false}
use lib.ListN.{length}
use Rattle.tree.specs.Answer.{between, in_bounds}
use Rattle.tree.specs.Reader.{to_come, On, Stands}
use Rattle.tree.proofs.Onward.{behind-less}
use Rattle.tree.proofs.Listing.{Same, same_start}
use Rattle.tree.proofs.Into.{spot-page, into_more, into-bytes, into-count, into-remain, into_few, into-length, into-end, ran-answer, same-small}
use native.Mathlib.Omega.{arith}
use Rattle.tree.proofs.list.list_into.Statement.{statement}
use Rattle.tree.proofs.list.list_into.Tie as tie

abbrev invariant-loop : tie.invariant-loop-at
invariant-loop w low high out₀ k₀ at₀ out k at =
    Stands w at × (at.row ≡ 0) × Same (in_bounds low high w) out₀ 0 (between low high (to_come w at)) out k

abbrev decreases-loop : tie.decreases-loop-at
decreases-loop w low high out₀ k₀ at₀ out k at = length (to_come w at)

-- the position stands on a record
on : (c : tie.In-loop-at invariant-loop decreases-loop) → On c.before.before.before.before.before.before.args.w.now c.before.before.loop-at.at
on c = c.before.before.loop-at.invariant.0.on (omega (arith, c.loop-at-test.true))

first-requires : tie.Need-first-at-requires invariant-loop decreases-loop
first-requires c κs = c.before.before.requires

loop-holds : tie.Need-loop-at-init invariant-loop decreases-loop
unfolding in_bounds
loop-holds c =
    let x = c.first-at.ensures in
    (x.0, x.2, rw x.1 (same_start _ _ 0 (omega arith)))

mul-p : tie.Need-overflow_mul-p invariant-loop decreases-loop
mul-p c = omega (arith, (on c.before).spot.inside)

add-list-page : tie.Need-overflow_add-p invariant-loop decreases-loop
add-list-page c = omega (arith, (on c.before).spot.inside)

sub-list-page : tie.Need-slice_bounds-list_page-count invariant-loop decreases-loop
sub-list-page c = omega (arith, (on c.before).spot.inside)

part-list-page-start : tie.Need-slice_bounds-list_page-start invariant-loop decreases-loop
part-list-page-start c = omega (arith, (on c.before).spot.inside)

part-list-page-end : tie.Need-slice_bounds-list_page-end invariant-loop decreases-loop
part-list-page-end c =
    let l = c.before.before.before in
    let a = l.before.before.before.before in
    let w = a.args.w.now in
    let at = l.loop-at.at in
    let h = on c.before in
    omega (arith, h.spot.inside, a.requires.form.whole)

count-at-requires : tie.Need-count_at-requires invariant-loop decreases-loop
count-at-requires c κs =
    let l = c.before.before.before.before in
    let a = l.before.before.before.before in
    let w = a.args.w.now in
    let at = l.loop-at.at in
    let h = on c.before.before in
    (a.requires.form.whole, h.spot.inside)

list-page-requires : tie.Need-list_page-run-requires invariant-loop decreases-loop
list-page-requires c κs =
    let l = c.before.before.before.before.before.before in
    let a = l.before.before.before.before in
    let w = a.args.w.now in
    let at = l.loop-at.at in
    let h = on c.before.before.before.before in
    (spot-page w at.leaf c.before.count_at.result a.requires.form.whole h.spot c.before.count_at.ensures, l.loop-at.invariant.2.fits)

cast-t19 : tie.Need-overflow_cast-result invariant-loop decreases-loop
cast-t19 c =
    let few : c.before.before.before.list_page-run.result.count ≤ 13500 = search (into_few, on c.before.before.before.before.before.before.before.before) in
    omega (arith, few)

same_length : tie.Need-shape_of-out-then-run invariant-loop decreases-loop
same_length c = search (into-length, on c.before.before.before.before.before.before.before.before)

returns : tie.Need-returns-then-run invariant-loop decreases-loop
returns c =
    let h = on c.before.before.before.before.before.before.before.before in
    (search (into-bytes, h), search (into-count, h), search (into-remain, h))

next-leaf-requires : tie.Need-next_leaf-next-requires invariant-loop decreases-loop
next-leaf-requires c κs =
    let l = c.before.before.before.before.before.before.before.before.before.before in
    let a = l.before.before.before.before in
    let w = a.args.w.now in
    let at = l.loop-at.at in
    let h = on c.before.before.before.before.before.before.before.before in
    (a.requires, l.loop-at.invariant.0, h.spot.past)

loop-less : tie.Need-loop-at-smaller invariant-loop decreases-loop
loop-less c =
    let l = c.before.before.before.before.before.before.before.before.before.before.before in
    let a = l.before.before.before.before in
    let w = a.args.w.now in
    let at = l.loop-at.at in
    let h = on c.before.before.before.before.before.before.before.before.before in
    rw c.next_leaf-next.ensures.1 (behind-less w at h)

loop-again : tie.Need-loop-at-preserved invariant-loop decreases-loop
loop-again c =
    let x = c.next_leaf-next.ensures in
    (x.0, x.2, search (into_more, on c.before.before.before.before.before.before.before.before.before))

cast-t20 : tie.Need-overflow_cast-result-2 invariant-loop decreases-loop
cast-t20 c =
    let l = c.before.before in
    let a = l.before.before.before.before in
    let w = a.args.w.now in
    let at = l.loop-at.at in
    omega (arith, same-small a.args.low a.args.high w _ _ _ _ a.requires l.loop-at.invariant.2)

same-length-2 : tie.Need-shape_of-out invariant-loop decreases-loop
same-length-2 c = c.before.before.loop-at.invariant.2.room

returns-2 : tie.Need-returns invariant-loop decreases-loop
returns-2 c =
    let l = c.before.before in
    let a = l.before.before.before.before in
    let w = a.args.w.now in
    let at = l.loop-at.at in
    ran-answer _ _ _ _ false (into-end w _ _ a.args.low a.args.high at l.loop-at.out l.loop-at.k l.loop-at.invariant.2 c.loop-at-test.false)

pub list_into_spec : {M : Type 1} → statement M
list_into_spec =
    tie.close
    (tie.spec
    invariant-loop
    decreases-loop
    first-requires
    loop-holds
    mul-p
    add-list-page
    sub-list-page
    part-list-page-start
    part-list-page-end
    count-at-requires
    list-page-requires
    cast-t19
    same_length
    returns
    next-leaf-requires
    loop-less
    loop-again
    cast-t20
    same-length-2
    returns-2)
