-- `unit::compact::choose_compact` meets its contract. Assumes nothing.
use Rattle.field.specs.Test.{when}
use Rattle.tree.specs.Walk.{Over}
use Rattle.unit.specs.Chosen.{Low}
use Rattle.unit.proofs.Roots.{Roots, roots-all, roots-behind, roots-over, roots-room, roots-leaves, top-low, Still, still-all, still-end, still-stop, still-more}
use borrow.Author.Rules.{rules}
use native.Mathlib.Omega.{arith}
use Rattle.unit.proofs.compact.choose_compact.Statement.{statement}
use Rattle.unit.proofs.compact.choose_compact.Tie as tie

abbrev invariant-loop : tie.invariant-loop-left
invariant-loop w fill there lk most low₀ at₀ left₀ low at left =
    Low low.0 × Roots w at left × Still w fill (when there lk) most low.0 at left

abbrev decreases-loop : tie.decreases-loop-left
decreases-loop w fill there lk most low₀ at₀ left₀ low at left = left

-- the base page below the entry in front
over : (c : tie.After-get2 invariant-loop decreases-loop) → Over c.before.before.before.before.before.before.args.w.now c.get2.result
over c = search roots-over

fill-of-requires : tie.Need-fill_of-most-requires invariant-loop decreases-loop
fill-of-requires c κs = search rules

count-at-requires : tie.Need-count_at-left-requires invariant-loop decreases-loop
count-at-requires c κs = (search, omega arith)

loop-holds : tie.Need-loop-left-init invariant-loop decreases-loop
loop-holds c =
    let a = c.before.before.before in
    let r = roots-all a.args.w.now c.count_at-left.result a.requires.0 a.requires.1 c.count_at-left.ensures in
    ((omega arith, omega arith), r, still-all _ _ _ _ _ r c.count_at-left.ensures c.before.fill_of-most.ensures.0)

add-get2 : tie.Need-overflow_add-at invariant-loop decreases-loop
add-get2 c = omega arith

get2-requires : tie.Need-get2-requires invariant-loop decreases-loop
get2-requires c κs = omega (arith, c.before.loop-left.invariant.1.ahead.fits, c.before.loop-left.invariant.1.ahead.form.whole)

cast-count-at : tie.Need-overflow_cast-q invariant-loop decreases-loop
cast-count-at c = omega arith

count-at-requires-2 : tie.Need-count_at-n-requires invariant-loop decreases-loop
count-at-requires-2 c κs = (search, (over c.before).base.inside)

cast-o : tie.Need-overflow_cast-o invariant-loop decreases-loop
cast-o c = omega arith

mul-o : tie.Need-overflow_mul-o invariant-loop decreases-loop
mul-o c = omega (arith, (over c.before.before.before).base.inside)

add-compact-in : tie.Need-overflow_add-o invariant-loop decreases-loop
add-compact-in c = omega (arith, (over c.before.before.before).base.inside)

sub-compact-in : tie.Need-slice_bounds-compact_in-count invariant-loop decreases-loop
sub-compact-in c = omega arith

part-compact-in-start : tie.Need-slice_bounds-compact_in-start invariant-loop decreases-loop
part-compact-in-start c = omega arith

part-compact-in-end : tie.Need-slice_bounds-compact_in-end invariant-loop decreases-loop
part-compact-in-end c = omega (arith, (over c.before.before.before).base.inside)

compact-in-requires : tie.Need-compact_in-found-requires invariant-loop decreases-loop
compact-in-requires c κs = ((search, search, search roots-room, omega arith), search roots-leaves)

returns : tie.Need-returns-then-found invariant-loop decreases-loop
returns c =
    let a = c.before.before.before.before in
    let l = a.before.before.before.before in
    still-stop _ _ _ _ _ _ _ l.loop-left.invariant.2 l.loop-left.invariant.1 a.before.before.before.loop-left-test.true _ _ a.before.before.get2.ensures a.count_at-n.ensures _
    c.before.compact_in-found.ensures c.if-found.true

add-top-of : tie.Need-overflow_add-o-in-loop-left invariant-loop decreases-loop
add-top-of c = omega arith

sub-top-of : tie.Need-slice_bounds-top_of-count invariant-loop decreases-loop
sub-top-of c = omega arith

part-top-of-start : tie.Need-slice_bounds-top_of-start invariant-loop decreases-loop
part-top-of-start c = omega arith

part-top-of-end : tie.Need-slice_bounds-top_of-end invariant-loop decreases-loop
part-top-of-end c = omega (arith, (over c.before.before.before.before.before.before).base.inside)

top-of-requires : tie.Need-top_of-low-requires invariant-loop decreases-loop
top-of-requires c κs = search roots-room

add_at : tie.Need-overflow_add-at-in-loop-left invariant-loop decreases-loop
add_at c = omega arith

sub-left : tie.Need-overflow_sub-left invariant-loop decreases-loop
sub-left c = omega arith

loop-less : tie.Need-loop-left-smaller invariant-loop decreases-loop
loop-less c = omega arith

loop-again : tie.Need-loop-left-preserved invariant-loop decreases-loop
loop-again c =
    let e = c.before.before in
    let a = e.before.before.before.before in
    let l = a.before.before.before.before in (
      top-low l.before.before.before.before.args.w.now _ _ _ c.top_of-low.ensures (search roots-leaves) l.loop-left.invariant.0,
      search roots-behind,
      still-more _ _ _ _ _ _ _ l.loop-left.invariant.2 l.loop-left.invariant.1 a.before.before.before.loop-left-test.true _ _ a.before.before.get2.ensures a.count_at-n.ensures _
          e.before.compact_in-found.ensures e.if-found.false _ c.top_of-low.ensures,
    )

nothing-requires : tie.Need-nothing-requires invariant-loop decreases-loop
nothing-requires c κs = search rules

returns-2 : tie.Need-returns invariant-loop decreases-loop
returns-2 c =
    let l = c.before.before in
    still-end _ _ _ _ _ _ _ l.loop-left.invariant.2 c.nothing.result c.before.loop-left-test.false c.nothing.ensures

pub choose_compact_spec : {M : Type 1} → statement M
choose_compact_spec =
    tie.close
    (tie.spec
    invariant-loop
    decreases-loop
    fill-of-requires
    count-at-requires
    loop-holds
    add-get2
    get2-requires
    cast-count-at
    count-at-requires-2
    cast-o
    mul-o
    add-compact-in
    sub-compact-in
    part-compact-in-start
    part-compact-in-end
    compact-in-requires
    returns
    add-top-of
    sub-top-of
    part-top-of-start
    part-top-of-end
    top-of-requires
    add_at
    sub-left
    loop-less
    loop-again
    nothing-requires
    returns-2)
