-- `unit::order::stray_in` meets its contract. Assumes nothing.
use Prim.Native.Nat.{◌≤◌, ◌<◌, ◌+◌, ◌*◌}
use mathlib.Core.Path.{◌≡◌, refl}
use lib.ListN.{length, drop}
use Rattle.page.specs.Page.{rows_of}
use Rattle.unit.specs.Chosen.{stray_in}
use Rattle.unit.proofs.Strays.{stray-end!, stray-stop!, stray-more! }
use native.Mathlib.Omega.{arith}
use Rattle.unit.proofs.order.stray_in.Statement.{statement}
use Rattle.unit.proofs.order.stray_in.Tie as tie

abbrev invariant-loop : tie.invariant-loop-left
invariant-loop pg n b first i₀ at₀ left₀ i at left =
    (left ≤ n) × (at + 8 * left ≤ length pg) × (i + left < 1000)
    × (stray_in first b.0 (rows_of 8 n (drop 16 pg)) ≡ stray_in i b.0 (rows_of 8 left (drop at pg)))

abbrev decreases-loop : tie.decreases-loop-left
decreases-loop pg n b first i₀ at₀ left₀ i at left = left

loop-holds : tie.Need-loop-left-init invariant-loop decreases-loop
loop-holds c = (omega arith, omega arith, omega arith, refl)

add-get2 : tie.Need-overflow_add-at invariant-loop decreases-loop
add-get2 c = omega arith

get2-requires : tie.Need-get2-requires invariant-loop decreases-loop
get2-requires c κs = omega arith

place-requires : tie.Need-place-want-requires invariant-loop decreases-loop
place-requires c κs = omega arith

returns : tie.Need-returns-then-p-want invariant-loop decreases-loop
returns c = search stray-stop!

add-i : tie.Need-overflow_add-i invariant-loop decreases-loop
add-i c = omega arith

add_at : tie.Need-overflow_add-at-in-loop-left invariant-loop decreases-loop
add_at c = omega arith

sub-left : tie.Need-overflow_sub-left invariant-loop decreases-loop
sub-left c = omega arith

loop-less : tie.Need-loop-left-smaller invariant-loop decreases-loop
loop-less c = omega arith

loop-again : tie.Need-loop-left-preserved invariant-loop decreases-loop
loop-again c =
    let k = c.before.before.before in
    let l = k.before.before.before in
    let a = l.before.before.args in (
      omega arith,
      omega arith,
      omega arith,
      stray-more! a.b l.loop-left.i a.first a.n 16 l.loop-left.left l.loop-left.at a.pg.now l.loop-left.invariant.3 _ k.place-want.result
          k.before.get2.ensures k.place-want.ensures k.before.before.loop-left-test.true c.if-p-want.false,
    )

returns-2 : tie.Need-returns invariant-loop decreases-loop
returns-2 c = search stray-end!

pub stray_in_spec : {M : Type 1} → statement M
stray_in_spec =
    tie.close
    (tie.spec
    invariant-loop
    decreases-loop
    loop-holds
    add-get2
    get2-requires
    place-requires
    returns
    add-i
    add_at
    sub-left
    loop-less
    loop-again
    returns-2)
