-- `unit::compact::joining` meets its contract. Assumes nothing.
use Prim.Native.Nat.{◌≤◌, ◌+◌, ◌-◌, ◌*◌}
use mathlib.Core.Path.{◌≡◌}
use lib.ListN.{length, drop}
use Rattle.page.specs.Page.{rows_of}
use Rattle.page.specs.Pages.{pages}
use Rattle.page.specs.Each.{Each}
use Rattle.tree.specs.Walk.{Spot, Below}
use Rattle.tree.proofs.Turn.{spot-here, each-behind}
use Rattle.unit.specs.Chosen.{joins}
use Rattle.unit.proofs.Groups.{join-end!, join-stop!, join-more! }
use native.Mathlib.Omega.{arith}
use Rattle.unit.proofs.compact.joining.Statement.{statement}
use Rattle.unit.proofs.compact.joining.Tie as tie

abbrev invariant-loop : tie.invariant-loop-left
invariant-loop w pg start n fill from sum₀ at₀ left₀ sum at left =
    (left ≤ n) × (at + 8 * left ≤ length pg) × (sum ≤ 15) × Each (Below 16 w) (rows_of 8 left (drop at pg))
    × (joins (pages w) fill from (rows_of 8 n (drop start pg)) ≡ n - left + joins (pages w) fill sum (rows_of 8 left (drop at pg)))

abbrev decreases-loop : tie.decreases-loop-left
decreases-loop w pg start n fill from sum₀ at₀ left₀ sum at left = left

-- the leaf below the entry in front
spot : (c : tie.After-get2-p invariant-loop decreases-loop) → Spot 16 c.before.before.before.before.before.args.w.now c.get2-p.result
spot c = search spot-here

loop-holds : tie.Need-loop-left-init invariant-loop decreases-loop
loop-holds c = (omega arith, omega arith, omega arith, c.before.before.requires.1, omega arith)

add-get2 : tie.Need-overflow_add-at invariant-loop decreases-loop
add-get2 c = omega arith

get2-requires : tie.Need-get2-p-requires invariant-loop decreases-loop
get2-requires c κs = omega arith

cast-count-at : tie.Need-overflow_cast-p invariant-loop decreases-loop
cast-count-at c = omega arith

count-at-requires : tie.Need-count_at-requires invariant-loop decreases-loop
count-at-requires c κs = (search, (spot c).inside)

add-more : tie.Need-overflow_add-more invariant-loop decreases-loop
add-more c = omega (arith, rw (← c.count_at.ensures) at (spot c.before).fits)

sub-result : tie.Need-overflow_sub-result invariant-loop decreases-loop
sub-result c = omega arith

returns : tie.Need-returns-then-fill-more invariant-loop decreases-loop
returns c = let s = (spot c.before.before).inside in (search join-stop!, omega arith)

add_at : tie.Need-overflow_add-at-in-loop-left invariant-loop decreases-loop
add_at c = omega arith

sub-left : tie.Need-overflow_sub-left invariant-loop decreases-loop
sub-left c = omega arith

loop-less : tie.Need-loop-left-smaller invariant-loop decreases-loop
loop-less c = omega arith

loop-again : tie.Need-loop-left-preserved invariant-loop decreases-loop
loop-again c = let s = (spot c.before.before).inside in (omega arith, omega arith, omega arith, search each-behind, search join-more!)

returns-2 : tie.Need-returns invariant-loop decreases-loop
returns-2 c = (search join-end!, omega arith)

pub joining_spec : {M : Type 1} → statement M
joining_spec =
    tie.close
    (tie.spec
    invariant-loop
    decreases-loop
    loop-holds
    add-get2
    get2-requires
    cast-count-at
    count-at-requires
    add-more
    sub-result
    returns
    add_at
    sub-left
    loop-less
    loop-again
    returns-2)
