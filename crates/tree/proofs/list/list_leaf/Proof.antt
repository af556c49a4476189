-- `tree::list::list_leaf` meets its contract. Assumes nothing.
use Prim.Native.Nat.{◌≤◌, ◌+◌, ◌*◌}
use lib.ListN.{length, drop}
use Rattle.field.proofs.Part.{lent-part, length_part}
use Rattle.page.specs.Page.{rows_of}
use Rattle.tree.specs.Answer.{between}
use Rattle.tree.proofs.Listing.{Same, same_start, leaf-more, leaf-stop, leaf-length, leaf-end}
use native.Mathlib.Omega.{arith}
use Rattle.tree.proofs.list.list_leaf.Statement.{statement}
use Rattle.tree.proofs.list.list_leaf.Tie as tie

abbrev invariant-loop : tie.invariant-loop-left
invariant-loop pg m low high out₀ n k₀ at₀ left₀ out k at left =
    (left ≤ m) × (at + 16 * left ≤ length pg) × Same (between low high (rows_of 16 m (drop 16 pg))) out₀ n (between low high (rows_of 16 left (drop at pg))) out k

abbrev decreases-loop : tie.decreases-loop-left
decreases-loop pg m low high out₀ n k₀ at₀ left₀ out k at left = left

loop-holds : tie.Need-loop-left-init invariant-loop decreases-loop
loop-holds c = (omega arith, omega arith, same_start _ _ _ c.before.before.requires.1)

add-list-one : tie.Need-overflow_add-at invariant-loop decreases-loop
add-list-one c = omega arith

sub-list-one : tie.Need-slice_bounds-list_one-count invariant-loop decreases-loop
sub-list-one c = omega arith

part-list-one-start : tie.Need-slice_bounds-list_one-start invariant-loop decreases-loop
part-list-one-start c = omega arith

part-list-one-end : tie.Need-slice_bounds-list_one-end invariant-loop decreases-loop
part-list-one-end c = omega arith

list-one-requires : tie.Need-list_one-run-requires invariant-loop decreases-loop
list-one-requires c κs =
    let l = c.before.before.before in
    let a = l.before.before.before in
    (rw (lent-part l.loop-left.at 16 a.args.pg.now) (length_part l.loop-left.at 16 a.args.pg.now (omega arith)), l.loop-left.invariant.2.fits)

same_length : tie.Need-shape_of-out-then-run invariant-loop decreases-loop
same_length c = search leaf-length

returns : tie.Need-returns-then-run invariant-loop decreases-loop
returns c = search leaf-stop

add_at : tie.Need-overflow_add-at-in-loop-left invariant-loop decreases-loop
add_at c = omega arith

sub-left : tie.Need-overflow_sub-left invariant-loop decreases-loop
sub-left c = omega arith

loop-less : tie.Need-loop-left-smaller invariant-loop decreases-loop
loop-less c = omega arith

loop-again : tie.Need-loop-left-preserved invariant-loop decreases-loop
loop-again c =
    let t = c.before.before.before.before.before.before in
    let l = t.before in
    let a = l.before.before.before in
    let r = c.before.before.before.list_one-run.ensures in
    let fits : l.loop-left.at + 16 * l.loop-left.left ≤ length a.args.pg.now = l.loop-left.invariant.1 in (
      omega arith,
      omega arith,
      leaf-more _ _ _ a.args.low a.args.high l.loop-left.left l.loop-left.at a.args.pg.now l.loop-left.out l.loop-left.k
          l.loop-left.invariant.2 t.loop-left-test.true fits _ _ _ r c.if-run.false,
    )

same-length-2 : tie.Need-shape_of-out invariant-loop decreases-loop
same-length-2 c = c.before.loop-left.invariant.2.room

returns-2 : tie.Need-returns invariant-loop decreases-loop
returns-2 c = search leaf-end

pub list_leaf_spec : {M : Type 1} → statement M
list_leaf_spec =
    tie.close
    (tie.spec
    invariant-loop
    decreases-loop
    loop-holds
    add-list-one
    sub-list-one
    part-list-one-start
    part-list-one-end
    list-one-requires
    same_length
    returns
    add_at
    sub-left
    loop-less
    loop-again
    same-length-2
    returns-2)
