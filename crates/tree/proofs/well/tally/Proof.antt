-- `tree::well::tally` meets its contract. Assumes nothing.
use Prim.Native.Nat.{◌≤◌, ◌<◌, ◌+◌, ◌*◌}
use mathlib.Core.Path.{◌≡◌, refl, ◌∙◌}
use mathlib.Core.Bool.{true}
use lib.ListN.{length, drop}
use borrow.Author.Rules.{rules}
use Rattle.field.proofs.Part.{length-set-of! }
use Rattle.page.specs.Page.{rows_of, pointing}
use Rattle.tree.specs.Walk.{Tallied, Roomy}
use Rattle.tree.proofs.Turn.{point-high, point-behind}
use Rattle.tree.proofs.Tally.{room-one, roomy-more, tally-none, tally-more, tally-end}
use native.Mathlib.Omega.{arith}
use Rattle.tree.proofs.well.tally.Statement.{statement}
use Rattle.tree.proofs.well.tally.Tie as tie

abbrev invariant-loop : tie.invariant-loop-left
invariant-loop pg n sum₀ at₀ left₀ sum at left =
    (left ≤ n) × (at + 8 * left ≤ length pg) × (length sum ≡ 64) × (pointing 0 63 (rows_of 8 left (drop at pg)) ≡ true) × Roomy sum left
    × Tallied sum (rows_of 8 left (drop at pg)) sum₀ (rows_of 8 n (drop 16 pg))

abbrev decreases-loop : tie.decreases-loop-left
decreases-loop pg n sum₀ at₀ left₀ sum at left = left

-- the page that the entry points to
small : (c : tie.After-get2-q invariant-loop decreases-loop) → c.get2-q.result < 64
small c =
    let l = c.before.before in
    omega (arith, c.get2-q.ensures, point-high 0 63 l.loop-left.left l.loop-left.at l.before.before.args.pg.now l.loop-left.invariant.3 c.before.loop-left-test.true)

loop-holds : tie.Need-loop-left-init invariant-loop decreases-loop
loop-holds c = (omega arith, omega arith, search rules, c.before.requires.1, c.before.requires.2, tally-none _ _)

add-get2 : tie.Need-overflow_add-at invariant-loop decreases-loop
add-get2 c = omega arith

get2-requires : tie.Need-get2-q-requires invariant-loop decreases-loop
get2-requires c κs = omega arith

cast-q : tie.Need-overflow_cast-q invariant-loop decreases-loop
cast-q c = omega arith

mul-sum : tie.Need-offset_bounds-sum-q invariant-loop decreases-loop
mul-sum c = omega (arith, small c)

array-read-sum : tie.Need-bounds-sum-q invariant-loop decreases-loop
array-read-sum c = omega (arith, small c)

add-sum : tie.Need-overflow_add-sum invariant-loop decreases-loop
add-sum c = let l = c.before.before in omega (arith, room-one l.loop-left.sum l.loop-left.left c.get2-q.result l.loop-left.invariant.4 c.before.loop-left-test.true (small c))

mul-sum-2 : tie.Need-offset_bounds-sum-q-in-loop-left invariant-loop decreases-loop
mul-sum-2 c = omega (arith, small c)

array-write-sum : tie.Need-bounds-sum-q-in-loop-left invariant-loop decreases-loop
array-write-sum c = omega (arith, small c)

add_at : tie.Need-overflow_add-at-in-loop-left invariant-loop decreases-loop
add_at c = omega arith

sub-left : tie.Need-overflow_sub-left invariant-loop decreases-loop
sub-left c = omega arith

loop-less : tie.Need-loop-left-smaller invariant-loop decreases-loop
loop-less c = omega arith

loop-again : tie.Need-loop-left-preserved invariant-loop decreases-loop
loop-again c =
    let l = c.before.before in
    let more = c.before.loop-left-test.true in
    let sum = l.loop-left.sum in
    let at = l.loop-left.at in
    let left = l.loop-left.left in
    let pg = l.before.before.args.pg.now in (
      omega arith,
      omega arith,
      length-set-of! sum c.get2-q.result _ sum refl ∙ l.loop-left.invariant.2,
      point-behind 0 63 left at pg l.loop-left.invariant.3 more,
      roomy-more sum c.get2-q.result (small c) l.loop-left.invariant.2 left l.loop-left.invariant.4 more,
      tally-more sum c.get2-q.result (small c) l.loop-left.invariant.2 left at pg _ _ c.get2-q.ensures more l.loop-left.invariant.5,
    )

returns : tie.Need-returns invariant-loop decreases-loop
returns c = let l = c.before in tally-end l.loop-left.sum l.loop-left.left l.loop-left.at l.before.before.args.pg.now _ _ l.loop-left.invariant.5 c.loop-left-test.false

pub tally_spec : {M : Type 1} → statement M
tally_spec =
    tie.close
    (tie.spec
    invariant-loop
    decreases-loop
    loop-holds
    add-get2
    get2-requires
    cast-q
    mul-sum
    array-read-sum
    add-sum
    mul-sum-2
    array-write-sum
    add_at
    sub-left
    loop-less
    loop-again
    returns)
