-- `unit::order::base_of` meets its contract. Assumes nothing.
use mathlib.Core.Path.{◌≡◌, ap}
use lib.ListN.{drop}
use Rattle.page.specs.Page.{rows_of}
use Rattle.page.specs.Pages.{pages}
use Rattle.page.specs.Places.{Basic}
use Rattle.tree.specs.Tree.{leaves_of, leaves_below}
use Rattle.unit.specs.Choice.{base_of}
use Rattle.unit.proofs.Walk.{Ahead, ahead-all, ahead-behind, ahead-base, base-room}
use Rattle.unit.proofs.Strays.{leaves_all_lem, base-end!, base-stop!, base-more! }
use native.Mathlib.Omega.{arith}
use Rattle.unit.proofs.order.base_of.Statement.{statement}
use Rattle.unit.proofs.order.base_of.Tie as tie

abbrev invariant-loop : tie.invariant-loop-left
invariant-loop w p at₀ left₀ at left =
    Ahead w at left × (base_of p.0 (leaves_of (pages w)) ≡ base_of p.0 (leaves_below (pages w) (rows_of 8 left (drop at w))))

abbrev decreases-loop : tie.decreases-loop-left
decreases-loop w p at₀ left₀ at left = left

-- the base page below the entry in front
here : (c : tie.After-get2 invariant-loop decreases-loop) → Basic c.get2.result
here c =
    let l = c.before.before in
    ahead-base l.before.before.before.args.w.now l.loop-left.at l.loop-left.left l.loop-left.invariant.0 c.before.loop-left-test.true c.get2.result c.get2.ensures

count-at-requires : tie.Need-count_at-left-requires invariant-loop decreases-loop
count-at-requires c κs = omega arith

loop-holds : tie.Need-loop-left-init invariant-loop decreases-loop
loop-holds c =
    let w = c.before.before.args.w.now in
    let a = ahead-all w c.count_at-left.result c.before.before.requires c.count_at-left.ensures in
    (a, ap (base_of c.before.before.args.p.0) (leaves_all_lem w c.count_at-left.result a c.count_at-left.ensures))

add-get2 : tie.Need-overflow_add-at invariant-loop decreases-loop
add-get2 c = omega arith

get2-requires : tie.Need-get2-requires invariant-loop decreases-loop
get2-requires c κs = omega arith

cast-count-at : tie.Need-overflow_cast-q invariant-loop decreases-loop
cast-count-at c = omega arith

count-at-requires-2 : tie.Need-count_at-n-requires invariant-loop decreases-loop
count-at-requires-2 c κs = omega (arith, here c.before)

cast-o : tie.Need-overflow_cast-o invariant-loop decreases-loop
cast-o c = omega arith

mul-o : tie.Need-overflow_mul-o invariant-loop decreases-loop
mul-o c = omega arith

add-points-to : tie.Need-overflow_add-o invariant-loop decreases-loop
add-points-to c = omega arith

sub-points-to : tie.Need-slice_bounds-points_to-count invariant-loop decreases-loop
sub-points-to c = omega arith

part-points-to-start : tie.Need-slice_bounds-points_to-start invariant-loop decreases-loop
part-points-to-start c = omega arith

part-points-to-end : tie.Need-slice_bounds-points_to-end invariant-loop decreases-loop
part-points-to-end c = omega (arith, here c.before.before.before)

points-to-requires : tie.Need-points_to-requires invariant-loop decreases-loop
points-to-requires c κs = search base-room

returns : tie.Need-returns-then-points_to invariant-loop decreases-loop
returns c = search base-stop!

add_at : tie.Need-overflow_add-at-in-loop-left invariant-loop decreases-loop
add_at c = omega arith

sub-left : tie.Need-overflow_sub-left invariant-loop decreases-loop
sub-left c = omega arith

loop-less : tie.Need-loop-left-smaller invariant-loop decreases-loop
loop-less c = omega arith

loop-again : tie.Need-loop-left-preserved invariant-loop decreases-loop
loop-again c = (search ahead-behind, search base-more!)

returns-2 : tie.Need-returns invariant-loop decreases-loop
returns-2 c = search base-end!

pub base_of_spec : {M : Type 1} → statement M
base_of_spec =
    tie.close
    (tie.spec
    invariant-loop
    decreases-loop
    count-at-requires
    loop-holds
    add-get2
    get2-requires
    cast-count-at
    count-at-requires-2
    cast-o
    mul-o
    add-points-to
    sub-points-to
    part-points-to-start
    part-points-to-end
    points-to-requires
    returns
    add_at
    sub-left
    loop-less
    loop-again
    returns-2)
