-- `tree::well::tally_under` meets its contract. Assumes nothing.
use Prim.Native.Nat.{◌≤◌, ◌<◌, ◌+◌, ◌*◌}
use mathlib.Core.Path.{◌≡◌}
use mathlib.Core.Bool.{true}
use lib.ListN.{length, drop}
use Rattle.page.specs.Page.{rows_of, first_base, last_base, to_bases}
use Rattle.page.specs.Places.{Basic}
use Rattle.page.specs.Pages.{pages}
use Rattle.tree.specs.Tree.{below}
use Rattle.tree.specs.Walk.{Tallied, Roomy}
use Rattle.tree.proofs.Turn.{point-low, point-high, point-behind}
use Rattle.tree.proofs.Tally.{roomy-page, roomy-under, tally-none, under_more, under-end}
use Rattle.tree.proofs.Sound.{base-few, base-asks}
use native.Mathlib.Omega.{arith}
use Rattle.tree.proofs.well.tally_under.Statement.{statement}
use Rattle.tree.proofs.well.tally_under.Tie as tie

abbrev invariant-loop : tie.invariant-loop-left
invariant-loop w pg n sum₀ at₀ left₀ sum at left =
    (left ≤ n) × (at + 8 * left ≤ length pg) × (to_bases (rows_of 8 left (drop at pg)) ≡ true) × Roomy sum (30 * left)
    × Tallied sum (below 8 (pages w) (rows_of 8 left (drop at pg))) sum₀ (below 8 (pages w) (rows_of 8 n (drop 16 pg)))

abbrev decreases-loop : tie.decreases-loop-left
decreases-loop w pg n sum₀ at₀ left₀ sum at left = left

-- the page that the entry in front points to
place : (c : tie.After-get2-q invariant-loop decreases-loop) → Basic c.get2-q.result
place c =
    let l = c.before.before in
    let pg = l.before.before.before.args.pg.now in
    let more = c.before.loop-left-test.true in (
      omega (arith, c.get2-q.ensures, point-low first_base last_base l.loop-left.left l.loop-left.at pg l.loop-left.invariant.2 more),
      omega (arith, c.get2-q.ensures, point-high first_base last_base l.loop-left.left l.loop-left.at pg l.loop-left.invariant.2 more),
    )

loop-holds : tie.Need-loop-left-init invariant-loop decreases-loop
loop-holds c = (omega arith, omega arith, c.before.before.requires.2, c.before.before.requires.3, tally-none _ _)

add-get2 : tie.Need-overflow_add-at invariant-loop decreases-loop
add-get2 c = omega arith

get2-requires : tie.Need-get2-q-requires invariant-loop decreases-loop
get2-requires c κs = omega arith

cast-q : tie.Need-overflow_cast-q invariant-loop decreases-loop
cast-q c = omega arith

mul-p : tie.Need-overflow_mul-p invariant-loop decreases-loop
mul-p c = omega (arith, place c)

add-tally : tie.Need-overflow_add-p invariant-loop decreases-loop
add-tally c = omega (arith, place c)

sub-tally : tie.Need-slice_bounds-tally-count invariant-loop decreases-loop
sub-tally c = omega (arith, place c)

part-tally-start : tie.Need-slice_bounds-tally-start invariant-loop decreases-loop
part-tally-start c = omega (arith, place c)

part-tally-end : tie.Need-slice_bounds-tally-end invariant-loop decreases-loop
part-tally-end c = omega (arith, place c, c.before.before.before.before.before.requires.0.whole)

count-at-requires : tie.Need-count_at-requires invariant-loop decreases-loop
count-at-requires c κs = (c.before.before.before.before.before.before.requires.0.whole, omega (arith, place c.before))

tally-requires : tie.Need-tally-more-requires invariant-loop decreases-loop
tally-requires c κs =
    let g = c.before.before in
    let l = g.before.before in
    let a = l.before.before.before in
    let k = place g in
    let m = c.count_at.result in
    let b = base-asks a.args.w.now a.requires.0 g.get2-q.result m k.0 k.1 c.count_at.ensures in
    let few = base-few a.args.w.now a.requires.0 g.get2-q.result m k.0 k.1 c.count_at.ensures in
    (b.0, b.1, roomy-page l.loop-left.sum l.loop-left.left m l.loop-left.invariant.3 g.before.loop-left-test.true few)

add_at : tie.Need-overflow_add-at-in-loop-left invariant-loop decreases-loop
add_at c = omega arith

sub-left : tie.Need-overflow_sub-left invariant-loop decreases-loop
sub-left c = omega arith

loop-less : tie.Need-loop-left-smaller invariant-loop decreases-loop
loop-less c = omega arith

loop-again : tie.Need-loop-left-preserved invariant-loop decreases-loop
loop-again c =
    let g = c.before.before.before in
    let l = g.before.before in
    let a = l.before.before.before in
    let w = a.args.w.now in
    let k = place g in
    let q = g.get2-q.result in
    let m = c.before.count_at.result in
    let small : q < 64 = omega arith in
    let few = base-few w a.requires.0 q m k.0 k.1 c.before.count_at.ensures in
    let more = g.before.loop-left-test.true in (
      omega arith,
      omega arith,
      point-behind first_base last_base l.loop-left.left l.loop-left.at a.args.pg.now l.loop-left.invariant.2 more,
      roomy-under w l.loop-left.left l.loop-left.at a.args.pg.now l.loop-left.sum c.tally-more.result q m g.get2-q.ensures c.before.count_at.ensures more small
          c.tally-more.ensures few l.loop-left.invariant.3,
      under_more w l.loop-left.left l.loop-left.at a.args.pg.now l.loop-left.sum c.tally-more.result q m g.get2-q.ensures c.before.count_at.ensures more small
          c.tally-more.ensures _ _ l.loop-left.invariant.4,
    )

returns : tie.Need-returns invariant-loop decreases-loop
returns c =
    let l = c.before in
    let a = l.before.before.before in
    under-end a.args.w.now l.loop-left.sum l.loop-left.left l.loop-left.at a.args.pg.now _ _ l.loop-left.invariant.4 c.loop-left-test.false

pub tally_under_spec : {M : Type 1} → statement M
tally_under_spec =
    tie.close
    (tie.spec
    invariant-loop
    decreases-loop
    loop-holds
    add-get2
    get2-requires
    cast-q
    mul-p
    add-tally
    sub-tally
    part-tally-start
    part-tally-end
    count-at-requires
    tally-requires
    add_at
    sub-left
    loop-less
    loop-again
    returns)
