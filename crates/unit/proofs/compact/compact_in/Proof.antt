-- `unit::compact::compact_in` meets its contract. Assumes nothing.
use Prim.Native.Nat.{◌≤◌, ◌+◌, ◌-◌, ◌*◌}
use lib.ListN.{length, drop}
use Rattle.field.specs.Test.{when}
use Rattle.page.specs.Page.{rows_of}
use Rattle.page.specs.Each.{Each}
use Rattle.tree.specs.Walk.{Spot, Below}
use Rattle.tree.proofs.Turn.{spot-here, each-behind}
use Rattle.unit.specs.Chosen.{Low}
use Rattle.unit.proofs.Chooses.{Yet, yet-all, yet-end!, yet-stop!, yet-more!, each-seven, seven-small, larger-low}
use borrow.Author.Rules.{rules}
use native.Mathlib.Omega.{arith}
use Rattle.unit.proofs.compact.compact_in.Statement.{statement}
use Rattle.unit.proofs.compact.compact_in.Tie as tie

abbrev invariant-loop : tie.invariant-loop-left
invariant-loop w pg n b fill there lk from at₀ left₀ low at left =
    (left ≤ n) × (at + 8 * left ≤ length pg) × Low low.0 × Each (Below 16 w) (rows_of 8 left (drop at pg))
    × Yet w fill (when there lk) b.0 pg from.0 n low.0 at left

abbrev decreases-loop : tie.decreases-loop-left
decreases-loop w pg n b fill there lk from at₀ left₀ low at left = left

-- the leaf below the entry in front
spot : (c : tie.After-get2 invariant-loop decreases-loop) → Spot 16 c.before.before.before.before.before.args.w.now c.get2.result
spot c = search spot-here

-- at most seven leaves are asked whether they join
few : (c : tie.After-seven invariant-loop decreases-loop) → (c.seven.result ≤ 7) × (c.seven.result ≤ c.before.before.before.loop-left.left - 1)
few c = seven-small _ _ c.seven.ensures

loop-holds : tie.Need-loop-left-init invariant-loop decreases-loop
loop-holds c = (omega arith, omega arith, c.before.before.requires.0.1, c.before.before.requires.1, yet-all _ _ _ _ _ _ _)

add-get2 : tie.Need-overflow_add-at invariant-loop decreases-loop
add-get2 c = omega arith

get2-requires : tie.Need-get2-requires invariant-loop decreases-loop
get2-requires c κs = omega arith

add-joining : tie.Need-overflow_add-at-in-loop-left invariant-loop decreases-loop
add-joining c = omega arith

sub-seven : tie.Need-overflow_sub-left invariant-loop decreases-loop
sub-seven c = omega arith

seven-requires : tie.Need-seven-requires invariant-loop decreases-loop
seven-requires c κs = search rules

cast-count-at : tie.Need-overflow_cast-c invariant-loop decreases-loop
cast-count-at c = omega arith

count-at-requires : tie.Need-count_at-requires invariant-loop decreases-loop
count-at-requires c κs = (search, (spot c.before.before).inside)

joining-requires : tie.Need-joining-k-requires invariant-loop decreases-loop
joining-requires c κs =
    let s = rw (← c.count_at.ensures) at (spot c.before.before.before).fits in
    let k = few c.before.before in
    ((search, omega arith, omega arith, omega arith), search each-seven)

begins-requires : tie.Need-begins-requires invariant-loop decreases-loop
begins-requires c κs = (search, spot c.before.before.before.before)

cast-compacting : tie.Need-overflow_cast-k invariant-loop decreases-loop
cast-compacting c = omega arith

add-compacting : tie.Need-overflow_add-k invariant-loop decreases-loop
add-compacting c = omega arith

compacting-requires : tie.Need-compacting-requires invariant-loop decreases-loop
compacting-requires c κs =
    let g = c.before.before.before.before.before in
    let s = spot g.before in
    let k = few g in
    ((search, g.before.before.before.loop-left.invariant.2, s.inside, omega arith), (omega (arith, c.before.before.joining-k.ensures.1), omega (arith, c.before.before.joining-k.ensures.1)))

returns : tie.Need-returns-then-begins invariant-loop decreases-loop
returns c =
    let z = c.before.before in
    let k = z.before.before.before.before in
    let g = k.before in
    let l = g.before.before in
    yet-stop! _ _ _ _ _ _ _ _ _ _ l.loop-left.invariant.4 _ _ _ _ _ g.get2.ensures z.before.before.count_at.ensures k.seven.ensures z.before.joining-k.ensures.0
    z.before.joining-k.ensures.1 z.begins.ensures (spot g).inside g.before.loop-left-test.true c.compacting.result c.before.if-begins.true c.compacting.ensures

larger-requires : tie.Need-larger-low-requires invariant-loop decreases-loop
larger-requires c κs = search rules

add_at : tie.Need-overflow_add-at-in-loop-left-2 invariant-loop decreases-loop
add_at c = omega arith

sub-left : tie.Need-overflow_sub-left-in-loop-left invariant-loop decreases-loop
sub-left c = omega arith

loop-less : tie.Need-loop-left-smaller invariant-loop decreases-loop
loop-less c = omega arith

loop-again : tie.Need-loop-left-preserved invariant-loop decreases-loop
loop-again c =
    let z = c.before.before in
    let k = z.before.before.before.before in
    let g = k.before in
    let l = g.before.before in (
      omega arith,
      omega arith,
      larger-low _ _ _ c.larger-low.ensures l.loop-left.invariant.2 (spot g).inside,
      search each-behind,
      yet-more! _ _ _ _ _ _ _ _ _ _ l.loop-left.invariant.4 _ _ _ _ _ g.get2.ensures z.before.before.count_at.ensures k.seven.ensures z.before.joining-k.ensures.0
          z.before.joining-k.ensures.1 z.begins.ensures (spot g).inside g.before.loop-left-test.true _ c.larger-low.ensures c.before.if-begins.false,
    )

nothing-requires : tie.Need-nothing-requires invariant-loop decreases-loop
nothing-requires c κs = search rules

returns-2 : tie.Need-returns invariant-loop decreases-loop
returns-2 c =
    let l = c.before.before in
    yet-end! _ _ _ _ _ _ _ _ _ _ l.loop-left.invariant.4 c.nothing.result c.before.loop-left-test.false c.nothing.ensures

pub compact_in_spec : {M : Type 1} → statement M
compact_in_spec =
    tie.close
    (tie.spec
    invariant-loop
    decreases-loop
    loop-holds
    add-get2
    get2-requires
    add-joining
    sub-seven
    seven-requires
    cast-count-at
    count-at-requires
    joining-requires
    begins-requires
    cast-compacting
    add-compacting
    compacting-requires
    returns
    larger-requires
    add_at
    sub-left
    loop-less
    loop-again
    nothing-requires
    returns-2)
