-- `logs::reading::same_at` meets its contract. The invariant: all bytes agree where those that are left do. Assumes nothing.
use Prim.Native.Nat.{◌-◌, ◌*◌, ◌/◌, ◌≤◌}
use mathlib.Core.Path.{◌≡◌}
use native.Mathlib.Omega.{arith}
use lib.ListN.{take, drop}
use Rattle.field.specs.Bytes.{starts, Bytes}
use Rattle.logs.proofs.Compare.{left, compare-none!, compare-stop!, compare-more!, compare-all! }
use Rattle.logs.proofs.reading.same_at.Statement.{statement}
use Rattle.logs.proofs.reading.same_at.Tie as tie

abbrev invariant-loop : tie.invariant-loop-k
invariant-loop l at b n words k₀ k = (k ≤ n / 4) × (starts (take n b) (drop at l) ≡ left l at b n (4 * k))

abbrev decreases-loop : tie.decreases-loop-k
decreases-loop l at b n words k₀ k = words - k

loop-holds : tie.Need-loop-k-init invariant-loop decreases-loop
loop-holds c = (omega arith, search compare-none!)

mul-get4 : tie.Need-overflow_mul-k invariant-loop decreases-loop
mul-get4 c = omega arith

add-get4 : tie.Need-overflow_add-at invariant-loop decreases-loop
add-get4 c = omega arith

get4-requires : tie.Need-get4-requires invariant-loop decreases-loop
get4-requires c κs = omega arith

mul-get4-2 : tie.Need-overflow_mul-k-in-loop-k invariant-loop decreases-loop
mul-get4-2 c = omega arith

get4-requires-2 : tie.Need-get4-requires-in-loop-k invariant-loop decreases-loop
get4-requires-2 c κs = omega arith

returns : tie.Need-returns-then-get4 invariant-loop decreases-loop
returns c = search compare-stop!

add-k : tie.Need-overflow_add-k invariant-loop decreases-loop
add-k c = omega arith

loop-less : tie.Need-loop-k-smaller invariant-loop decreases-loop
loop-less c = omega arith

loop-again : tie.Need-loop-k-preserved invariant-loop decreases-loop
loop-again c =
    let turn = c.before.before.before in
    let a = turn.before.before.before.before in
    let bl : Bytes a.args.l.now = λ i. omega (arith, turn.before.before.before.shared_slice_known-1.given i) in
    let bb : Bytes a.args.b.now = λ i. omega (arith, turn.before.before.shared_slice_known-2-1.given i) in (
      omega arith,
      compare-more! a.args.l.now a.args.at a.args.b.now a.args.n bl bb a.requires.1 a.requires.2
          _ turn.before.loop-k.invariant.1 turn.loop-k-test.true _ _ c.before.before.get4.ensures c.before.get4-in-loop-k.ensures c.if-get4.false,
    )

returns-2 : tie.Need-returns invariant-loop decreases-loop
returns-2 c = search compare-all!

pub same_at_spec : {M : Type 1} → statement M
same_at_spec =
    tie.close
    (tie.spec
    invariant-loop
    decreases-loop
    loop-holds
    mul-get4
    add-get4
    get4-requires
    mul-get4-2
    get4-requires-2
    returns
    add-k
    loop-less
    loop-again
    returns-2)
