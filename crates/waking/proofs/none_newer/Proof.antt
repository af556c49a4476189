-- `waking::none_newer` meets its contract. The invariant: no page is newer where none from page p on is. Assumes nothing.
use Prim.Native.Nat.{◌≤◌, ◌-◌, ◌*◌}
use mathlib.Core.Path.{◌≡◌}
use native.Mathlib.Omega.{arith}
use lib.ListN.{drop}
use Rattle.page.specs.Page.{rows_of}
use Rattle.page.specs.Pages.{pages}
use Rattle.store.specs.Calls.{none_newer}
use Rattle.waking.proofs.Newer.{newer-start, newer-stop!, newer-more!, newer-end! }
use Rattle.waking.proofs.none_newer.Statement.{statement}
use Rattle.waking.proofs.none_newer.Tie as tie

abbrev invariant-loop : tie.invariant-loop-p
invariant-loop store last p₀ p = (p ≤ 64) × (none_newer last.0 (pages store) ≡ none_newer last.0 (rows_of 256 (64 - p) (drop (256 * p) store)))

abbrev decreases-loop : tie.decreases-loop-p
decreases-loop store last p₀ p = 64 - p

loop-holds : tie.Need-loop-p-init invariant-loop decreases-loop
loop-holds c = (omega arith, newer-start _ c.before.args.store.now)

mul-get4 : tie.Need-overflow_mul-p invariant-loop decreases-loop
mul-get4 c = omega arith

add-get4 : tie.Need-overflow_add-p invariant-loop decreases-loop
add-get4 c = omega arith

get4-requires : tie.Need-get4-requires invariant-loop decreases-loop
get4-requires c κs = omega arith

returns : tie.Need-returns-then-last-get4 invariant-loop decreases-loop
returns c = search newer-stop!

add-p : tie.Need-overflow_add-p-in-loop-p invariant-loop decreases-loop
add-p c = omega arith

loop-less : tie.Need-loop-p-smaller invariant-loop decreases-loop
loop-less c = omega arith

loop-again : tie.Need-loop-p-preserved invariant-loop decreases-loop
loop-again c =
    let g = c.before.before in
    let l = g.before.before in
    (omega arith, newer-more! _ l.loop-p.p _ l.loop-p.invariant.1 _ g.get4.ensures g.before.loop-p-test.true c.if-last-get4.false)

returns-2 : tie.Need-returns invariant-loop decreases-loop
returns-2 c = search newer-end!

pub none_newer_spec : {M : Type 1} → statement M
none_newer_spec =
    tie.close
    (tie.spec
    invariant-loop
    decreases-loop
    loop-holds
    mul-get4
    add-get4
    get4-requires
    returns
    add-p
    loop-less
    loop-again
    returns-2)
