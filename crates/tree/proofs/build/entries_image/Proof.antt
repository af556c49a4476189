-- `tree::build::entries_image` meets its contract. Assumes nothing.
use Prim.Native.Nat.{◌≤◌, ◌<◌, ◌+◌, ◌-◌, ◌*◌}
use mathlib.Core.Path.{◌≡◌}
use lib.ListN.{length}
use borrow.Author.Rules.{rules}
use Rattle.field.specs.Bytes.{zeroes}
use Rattle.page.specs.Page.{made}
use Rattle.tree.specs.Pieces.{entry_run}
use Rattle.tree.proofs.Groups.{image-again, image-count, image-more, at_most, step-more}
use native.Mathlib.Omega.{arith}
use Rattle.tree.proofs.build.entries_image.Statement.{statement}
use Rattle.tree.proofs.build.entries_image.Tie as tie

abbrev invariant-loop : tie.invariant-loop-k
invariant-loop sign records f step i p n image₀ at₀ k₀ image at k =
    (k ≤ n) × (at ≡ i + step * k) × (image ≡ made sign 0 (zeroes 8) (entry_run f records step i p.0 k))

abbrev decreases-loop : tie.decreases-loop-k
decreases-loop sign records f step i p n image₀ at₀ k₀ image at k = n - k

-- the leaf's first record is among the records
begins : (c : tie.In-loop-k invariant-loop decreases-loop)
    → 16 * (c.before.before.before.before.args.f * c.before.loop-k.at) + 16 ≤ length c.before.before.before.before.args.records.now
begins c =
    let l = c.before in
    let a = l.before.before.before in
    rw l.loop-k.invariant.1 (a.requires.4.begin l.loop-k.k c.loop-k-test.true)

blank-requires : tie.Need-blank-image-requires invariant-loop decreases-loop
blank-requires c κs = search rules

loop-holds : tie.Need-loop-k-init invariant-loop decreases-loop
unfolding entry_run
loop-holds c = (omega arith, omega arith, c.blank-image.ensures)

leaf-key-requires : tie.Need-leaf_key-key-requires invariant-loop decreases-loop
leaf-key-requires c κs = begins c

cast-t14 : tie.Need-overflow_cast-k invariant-loop decreases-loop
cast-t14 c = omega arith

add-t15 : tie.Need-overflow_add-p invariant-loop decreases-loop
add-t15 c = omega arith

with-entry-requires : tie.Need-with_entry-more-requires invariant-loop decreases-loop
with-entry-requires c κs =
    let l = c.before.before.before in
    let a = l.before.before.before in
    let small : l.loop-k.k < 30 = omega arith in
    let n = image-count a.args.sign a.args.f a.args.records.now a.args.step a.args.i a.args.p.0 l.loop-k.k small l.loop-k.image l.loop-k.invariant.2 in
    (image-again a.args.sign a.args.f a.args.records.now a.args.step a.args.i a.args.p.0 l.loop-k.k small l.loop-k.image l.loop-k.invariant.2, omega arith)

add_at : tie.Need-overflow_add-at invariant-loop decreases-loop
add_at c =
    let g = c.before.before.before in
    omega (arith, begins g, at_most g.before.before.before.before.args.f g.before.loop-k.at g.before.before.before.before.requires.0)

add-k : tie.Need-overflow_add-k invariant-loop decreases-loop
add-k c = omega arith

loop-less : tie.Need-loop-k-smaller invariant-loop decreases-loop
loop-less c = omega arith

loop-again : tie.Need-loop-k-preserved invariant-loop decreases-loop
loop-again c =
    let g = c.before.before.before in
    let l = g.before in
    let a = l.before.before.before in
    let small : l.loop-k.k < 30 = omega arith in (
      omega arith,
      omega (arith, l.loop-k.invariant.1, step-more a.args.step l.loop-k.k),
      image-more a.args.sign a.args.f a.args.records.now a.args.step a.args.i a.args.p.0 l.loop-k.k small l.loop-k.image l.loop-k.invariant.2
          l.loop-k.at c.before.before.leaf_key-key.result c.with_entry-more.result l.loop-k.invariant.1 c.before.before.leaf_key-key.ensures c.with_entry-more.ensures,
    )

returns : tie.Need-returns invariant-loop decreases-loop
returns c =
    let l = c.before in
    let z : l.loop-k.k ≡ l.before.before.before.args.n = omega arith in
    rw (← z) l.loop-k.invariant.2

pub entries_image_spec : {M : Type 1} → statement M
entries_image_spec =
    tie.close
    (tie.spec
    invariant-loop
    decreases-loop
    blank-requires
    loop-holds
    leaf-key-requires
    cast-t14
    add-t15
    with-entry-requires
    add_at
    add-k
    loop-less
    loop-again
    returns)
