-- `tree::well::kept` meets its contract. Assumes nothing.
use Prim.Native.Nat.{◌≤◌, ◌+◌, ◌*◌}
use mathlib.Core.Path.{◌≡◌, refl}
use lib.ListN.{length, drop}
use Rattle.page.specs.Page.{rows_of}
use Rattle.page.specs.Pages.{pages}
use Rattle.page.specs.Each.{Each}
use Rattle.page.proofs.Pages.{lent-page, length-page}
use Rattle.tree.specs.Walk.{Spot, Below, kept_to}
use Rattle.tree.proofs.Turn.{spot-here, each-behind}
use Rattle.tree.proofs.Between.{kept-stop, kept_more, kept-end! }
use native.Mathlib.Omega.{arith}
use Rattle.tree.proofs.well.kept.Statement.{statement}
use Rattle.tree.proofs.well.kept.Tie as tie

abbrev invariant-loop : tie.invariant-loop-left
invariant-loop w pg n sz hi at₀ left₀ at left =
    (left ≤ n) × (at + 8 * left ≤ length pg) × Each (Below sz w) (rows_of 8 left (drop at pg))
    × (kept_to sz (pages w) hi (rows_of 8 n (drop 16 pg)) ≡ kept_to sz (pages w) hi (rows_of 8 left (drop at pg)))

abbrev decreases-loop : tie.decreases-loop-left
decreases-loop w pg n sz hi at₀ left₀ at left = left

-- the page below the entry in front
spot : (c : tie.After-get2 invariant-loop decreases-loop)
    → Spot c.before.before.before.before.before.before.args.sz c.before.before.before.before.before.before.args.w.now c.get2.result
spot c =
    let l = c.before.before.before in
    let a = l.before.before.before in
    spot-here a.args.sz a.args.w.now l.loop-left.left l.loop-left.at a.args.pg.now c.get2.result c.get2.ensures l.loop-left.invariant.2
    c.before.before.loop-left-test.true

loop-holds : tie.Need-loop-left-init invariant-loop decreases-loop
loop-holds c = (omega arith, omega arith, c.before.before.requires.3, refl)

add-get4 : tie.Need-overflow_add-at invariant-loop decreases-loop
add-get4 c = omega arith

get4-requires : tie.Need-get4-lo-requires invariant-loop decreases-loop
get4-requires c κs = omega arith

add-get2 : tie.Need-overflow_add-at-in-loop-left invariant-loop decreases-loop
add-get2 c = omega arith

get2-requires : tie.Need-get2-requires invariant-loop decreases-loop
get2-requires c κs = omega arith

cast-p : tie.Need-overflow_cast-p invariant-loop decreases-loop
cast-p c = omega arith

mul-p : tie.Need-overflow_mul-p invariant-loop decreases-loop
mul-p c = omega (arith, spot c)

add_at : tie.Need-overflow_add-at-in-loop-left-2 invariant-loop decreases-loop
add_at c = omega arith

sub-left : tie.Need-overflow_sub-left invariant-loop decreases-loop
sub-left c = omega arith

bound-at-requires : tie.Need-bound_at-end-requires invariant-loop decreases-loop
bound-at-requires c κs = omega arith

add-within : tie.Need-overflow_add-p invariant-loop decreases-loop
add-within c = omega (arith, spot c.before)

sub_within : tie.Need-slice_bounds-within-count invariant-loop decreases-loop
sub_within c = omega (arith, spot c.before)

part-within-start : tie.Need-slice_bounds-within-start invariant-loop decreases-loop
part-within-start c = omega (arith, spot c.before)

part-within-end : tie.Need-slice_bounds-within-end invariant-loop decreases-loop
part-within-end c = omega (arith, spot c.before)

within-requires : tie.Need-within-requires invariant-loop decreases-loop
within-requires c κs =
    let g = c.before.before in
    let a = g.before.before.before.before.before.before in
    let s = spot g in
    let w = a.args.w.now in
    ((rw lent-page (length-page g.get2.result w a.requires.0 s.inside), a.requires.2, rw lent-page s.fits, rw lent-page s.full), rw lent-page s.order)

returns : tie.Need-returns-then-not-within invariant-loop decreases-loop
returns c = let s = spot c.before.before.before.before in search kept-stop

loop-less : tie.Need-loop-left-smaller invariant-loop decreases-loop
loop-less c = omega arith

loop-again : tie.Need-loop-left-preserved invariant-loop decreases-loop
loop-again c =
    let g = c.before.before.before.before in
    let l = g.before.before.before in
    let a = l.before.before.before in
    let s = spot g in (
      omega arith,
      omega arith,
      each-behind (Below a.args.sz a.args.w.now) l.loop-left.left l.loop-left.at a.args.pg.now l.loop-left.invariant.2 g.before.before.loop-left-test.true,
      search kept_more,
    )

returns-2 : tie.Need-returns invariant-loop decreases-loop
returns-2 c = search kept-end!

pub kept_spec : {M : Type 1} → statement M
kept_spec =
    tie.close
    (tie.spec
    invariant-loop
    decreases-loop
    loop-holds
    add-get4
    get4-requires
    add-get2
    get2-requires
    cast-p
    mul-p
    add_at
    sub-left
    bound-at-requires
    add-within
    sub_within
    part-within-start
    part-within-end
    within-requires
    returns
    loop-less
    loop-again
    returns-2)
