-- `unit::apply::end_all` meets its contract. The invariant: laying all images is laying those that are left. Assumes nothing.
use Prim.Native.Nat.{◌+◌, ◌*◌, ◌≤◌}
use native.Mathlib.Omega.{arith}
use mathlib.Core.Path.{◌≡◌, refl}
use lib.ListN.{length, drop}
use Rattle.logs.specs.Record.{length_of}
use Rattle.logs.specs.Table.{kinds, kind_at}
use Rattle.logs.specs.Scan.{images_in}
use Rattle.unit.specs.Made.{ended}
use Rattle.unit.proofs.Ended.{Inside, filed-inside, inside-page, inside-rest, end-over!, end_more}
use borrow.Author.Rules.{rules}
use Rattle.unit.proofs.apply.end_all.Statement.{statement}
use Rattle.unit.proofs.apply.end_all.Tie as tie

abbrev invariant-loop : tie.invariant-loop-left
invariant-loop w₀ m k n long from at₀ left₀ w at left =
    (length w ≡ 16384) × (left ≤ k) × (at + 272 * left ≤ length m) × Inside (images_in left (drop at m)) × (ended n.0 (images_in k m) w₀ ≡ ended n.0 (images_in left (drop at m)) w)

abbrev decreases-loop : tie.decreases-loop-left
decreases-loop w₀ m k n long from at₀ left₀ w at left = left

size-of-requires : tie.Need-size_of-long-requires invariant-loop decreases-loop
size-of-requires c κs = search rules

size-of-requires-2 : tie.Need-size_of-from-requires invariant-loop decreases-loop
size-of-requires-2 c κs = search rules

loop-holds : tie.Need-loop-left-init invariant-loop decreases-loop
unfolding length_of kind_at kinds
loop-holds c = let a = c.before.before.before.before in (a.requires.0, omega arith, omega (arith, a.requires.1), filed-inside 0 (images_in a.args.k a.args.m.now) a.requires.2, refl)

add-get2 : tie.Need-overflow_add-at invariant-loop decreases-loop
add-get2 c = omega arith

get2-requires : tie.Need-get2-requires invariant-loop decreases-loop
get2-requires c κs = omega arith

add-end-image : tie.Need-overflow_add-at-in-loop-left invariant-loop decreases-loop
unfolding length_of kind_at kinds
add-end-image c = search rules

add-end-image-2 : tie.Need-overflow_add-at-in-loop-left-2 invariant-loop decreases-loop
unfolding length_of kind_at kinds
add-end-image-2 c = search rules

sub-end-image : tie.Need-slice_bounds-end_image-count invariant-loop decreases-loop
unfolding length_of kind_at kinds
sub-end-image c = search rules

part-end-image-start : tie.Need-slice_bounds-end_image-start invariant-loop decreases-loop
unfolding length_of kind_at kinds
part-end-image-start c = search rules

part-end-image-end : tie.Need-slice_bounds-end_image-end invariant-loop decreases-loop
unfolding length_of kind_at kinds
part-end-image-end c = search rules

end-image-requires : tie.Need-end_image-requires invariant-loop decreases-loop
unfolding length_of kind_at kinds
end-image-requires c κs = search (rules, inside-page)

add_at : tie.Need-overflow_add-at-in-loop-left-3 invariant-loop decreases-loop
unfolding length_of kind_at kinds
add_at c = search rules

sub-left : tie.Need-overflow_sub-left invariant-loop decreases-loop
sub-left c = omega arith

loop-less : tie.Need-loop-left-smaller invariant-loop decreases-loop
loop-less c = omega arith

loop-again : tie.Need-loop-left-preserved invariant-loop decreases-loop
unfolding length_of kind_at kinds
loop-again c = search (rules, inside-rest, end_more)

same_length : tie.Need-shape_of-w invariant-loop decreases-loop
same_length c = search rules

returns : tie.Need-returns invariant-loop decreases-loop
returns c = search end-over!

pub end_all_spec : {M : Type 1} → statement M
end_all_spec =
    tie.close
    (tie.spec
    invariant-loop
    decreases-loop
    size-of-requires
    size-of-requires-2
    loop-holds
    add-get2
    get2-requires
    add-end-image
    add-end-image-2
    sub-end-image
    part-end-image-start
    part-end-image-end
    end-image-requires
    add_at
    sub-left
    loop-less
    loop-again
    same_length
    returns)
