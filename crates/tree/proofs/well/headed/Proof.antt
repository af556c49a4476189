-- `tree::well::headed` meets its contract. Assumes nothing.
use Prim.Native.Nat.{◌≤◌, ◌+◌, ◌*◌}
use mathlib.Core.Path.{◌≡◌, refl}
use lib.ListN.{length, drop}
use Rattle.page.specs.Page.{rows_of}
use Rattle.page.specs.Pages.{pages}
use Rattle.page.specs.Each.{Each}
use Rattle.tree.specs.Tree.{headed}
use Rattle.tree.specs.Walk.{Spot, Below}
use Rattle.tree.proofs.Turn.{spot-here, each-behind}
use Rattle.tree.proofs.Between.{head-stop, head_more, head-end! }
use native.Mathlib.Omega.{arith}
use Rattle.tree.proofs.well.headed.Statement.{statement}
use Rattle.tree.proofs.well.headed.Tie as tie

abbrev invariant-loop : tie.invariant-loop-left
invariant-loop w pg n at₀ left₀ at left =
    (left ≤ n) × (at + 8 * left ≤ length pg) × Each (Below 8 w) (rows_of 8 left (drop at pg))
    × (headed (pages w) (rows_of 8 n (drop 16 pg)) ≡ headed (pages w) (rows_of 8 left (drop at pg)))

abbrev decreases-loop : tie.decreases-loop-left
decreases-loop w pg n at₀ left₀ at left = left

-- the page below the entry in front
spot : (c : tie.After-get2-q invariant-loop decreases-loop) → Spot 8 c.before.before.before.before.before.args.w.now c.get2-q.result
spot c =
    let l = c.before.before in
    let a = l.before.before.before in
    spot-here 8 a.args.w.now l.loop-left.left l.loop-left.at a.args.pg.now c.get2-q.result c.get2-q.ensures l.loop-left.invariant.2 c.before.loop-left-test.true

loop-holds : tie.Need-loop-left-init invariant-loop decreases-loop
loop-holds c = (omega arith, omega arith, c.before.before.requires.2, refl)

add-get2 : tie.Need-overflow_add-at invariant-loop decreases-loop
add-get2 c = omega arith

get2-requires : tie.Need-get2-q-requires invariant-loop decreases-loop
get2-requires c κs = omega arith

cast-q : tie.Need-overflow_cast-q invariant-loop decreases-loop
cast-q c = omega arith

mul-get4 : tie.Need-overflow_mul-q invariant-loop decreases-loop
mul-get4 c = omega (arith, spot c)

add-get4 : tie.Need-overflow_add-q invariant-loop decreases-loop
add-get4 c = omega (arith, spot c)

get4-requires : tie.Need-get4-requires invariant-loop decreases-loop
get4-requires c κs = omega (arith, spot c)

add-get4-2 : tie.Need-overflow_add-at-in-loop-left invariant-loop decreases-loop
add-get4-2 c = omega arith

get4-requires-2 : tie.Need-get4-requires-in-loop-left invariant-loop decreases-loop
get4-requires-2 c κs = omega arith

returns : tie.Need-returns-then-get4 invariant-loop decreases-loop
returns c = let s = spot c.before.before.before in search head-stop

add_at : tie.Need-overflow_add-at-in-loop-left-2 invariant-loop decreases-loop
add_at c = omega arith

sub-left : tie.Need-overflow_sub-left invariant-loop decreases-loop
sub-left c = omega arith

loop-less : tie.Need-loop-left-smaller invariant-loop decreases-loop
loop-less c = omega arith

loop-again : tie.Need-loop-left-preserved invariant-loop decreases-loop
loop-again c =
    let g = c.before.before.before in
    let l = g.before.before in
    let a = l.before.before.before in
    let s = spot g in (
      omega arith,
      omega arith,
      each-behind (Below 8 a.args.w.now) l.loop-left.left l.loop-left.at a.args.pg.now l.loop-left.invariant.2 g.before.loop-left-test.true,
      search head_more,
    )

returns-2 : tie.Need-returns invariant-loop decreases-loop
returns-2 c = search head-end!

pub headed_spec : {M : Type 1} → statement M
headed_spec =
    tie.close
    (tie.spec
    invariant-loop
    decreases-loop
    loop-holds
    add-get2
    get2-requires
    cast-q
    mul-get4
    add-get4
    get4-requires
    add-get4-2
    get4-requires-2
    returns
    add_at
    sub-left
    loop-less
    loop-again
    returns-2)
