-- `tree::well::level_kept` meets its contract. Assumes nothing.
use Prim.Native.Nat.{◌≤◌, ◌<◌, ◌+◌, ◌*◌}
use mathlib.Core.Path.{◌≡◌, refl}
use lib.ListN.{length, drop}
use Rattle.page.specs.Page.{rows_of}
use Rattle.page.specs.Pages.{pages}
use Rattle.page.specs.Each.{Each}
use Rattle.tree.specs.Walk.{Over, Above, level_to}
use Rattle.tree.proofs.Turn.{over-here, each-behind}
use Rattle.tree.proofs.Between.{level-stop, level-more, level-end! }
use Rattle.tree.proofs.Sound.{over-asks}
use native.Mathlib.Omega.{arith}
use Rattle.tree.proofs.well.level_kept.Statement.{statement}
use Rattle.tree.proofs.well.level_kept.Tie as tie

abbrev invariant-loop : tie.invariant-loop-left
invariant-loop w pg n at₀ left₀ at left =
    (left ≤ n) × (at + 8 * left ≤ length pg) × Each (Above w) (rows_of 8 left (drop at pg))
    × (level_to (pages w) 4294967296 (rows_of 8 n (drop 16 pg)) ≡ level_to (pages w) 4294967296 (rows_of 8 left (drop at pg)))

abbrev decreases-loop : tie.decreases-loop-left
decreases-loop w pg n at₀ left₀ at left = left

-- the page below the entry in front
over : (c : tie.After-get2-q invariant-loop decreases-loop) → Over c.before.before.before.before.before.args.w.now c.get2-q.result
over c =
    let l = c.before.before in
    let a = l.before.before.before in
    over-here a.args.w.now l.loop-left.left l.loop-left.at a.args.pg.now c.get2-q.result c.get2-q.ensures l.loop-left.invariant.2 c.before.loop-left-test.true

inside : (c : tie.After-get2-q invariant-loop decreases-loop) → c.get2-q.result < 64
inside c = (over c).base.inside

loop-holds : tie.Need-loop-left-init invariant-loop decreases-loop
loop-holds c = (omega arith, omega arith, c.before.before.requires.2, refl)

add-get2 : tie.Need-overflow_add-at invariant-loop decreases-loop
add-get2 c = omega arith

get2-requires : tie.Need-get2-q-requires invariant-loop decreases-loop
get2-requires c κs = omega arith

cast-q : tie.Need-overflow_cast-q invariant-loop decreases-loop
cast-q c = omega arith

mul-p : tie.Need-overflow_mul-p invariant-loop decreases-loop
mul-p c = omega (arith, inside c)

add_at : tie.Need-overflow_add-at-in-loop-left invariant-loop decreases-loop
add_at c = omega arith

sub-left : tie.Need-overflow_sub-left invariant-loop decreases-loop
sub-left c = omega arith

bound-at-requires : tie.Need-bound_at-end-requires invariant-loop decreases-loop
bound-at-requires c κs = omega arith

add_kept : tie.Need-overflow_add-p invariant-loop decreases-loop
add_kept c = omega (arith, inside c.before)

sub-kept : tie.Need-slice_bounds-kept-count invariant-loop decreases-loop
sub-kept c = omega (arith, inside c.before)

part-kept-start : tie.Need-slice_bounds-kept-start invariant-loop decreases-loop
part-kept-start c = omega (arith, inside c.before)

part-kept-end : tie.Need-slice_bounds-kept-end invariant-loop decreases-loop
part-kept-end c = omega (arith, inside c.before)

count-at-requires : tie.Need-count_at-requires invariant-loop decreases-loop
count-at-requires c κs = (c.before.before.before.before.before.before.before.requires.0, inside c.before.before)

kept-requires : tie.Need-kept-requires invariant-loop decreases-loop
kept-requires c κs =
    let g = c.before.before.before in
    let a = g.before.before.before.before.before in
    let b = over-asks a.args.w.now g.get2-q.result c.count_at.result a.requires.0 (over g) c.count_at.ensures in
    (a.requires.0, b.0, omega arith, b.1)

returns : tie.Need-returns-then-not-kept invariant-loop decreases-loop
returns c = let s = inside c.before.before.before.before.before in search level-stop

loop-less : tie.Need-loop-left-smaller invariant-loop decreases-loop
loop-less c = omega arith

loop-again : tie.Need-loop-left-preserved invariant-loop decreases-loop
loop-again c =
    let g = c.before.before.before.before.before in
    let l = g.before.before in
    let a = l.before.before.before in
    let s = inside g in (
      omega arith,
      omega arith,
      each-behind (Above a.args.w.now) l.loop-left.left l.loop-left.at a.args.pg.now l.loop-left.invariant.2 g.before.loop-left-test.true,
      search level-more,
    )

returns-2 : tie.Need-returns invariant-loop decreases-loop
returns-2 c = search level-end!

pub level_kept_spec : {M : Type 1} → statement M
level_kept_spec =
    tie.close
    (tie.spec
    invariant-loop
    decreases-loop
    loop-holds
    add-get2
    get2-requires
    cast-q
    mul-p
    add_at
    sub-left
    bound-at-requires
    add_kept
    sub-kept
    part-kept-start
    part-kept-end
    count-at-requires
    kept-requires
    returns
    loop-less
    loop-again
    returns-2)
