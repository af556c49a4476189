-- `tree::build::base_image` meets its contract. Assumes nothing.
use Prim.Native.Nat.{ℕ, ◌<◌, ◌-◌, ◌*◌, ◌/◌, min}
use mathlib.Core.Path.{◌≡◌, ap, ◌∙◌}
use lib.ListN.{length}
use Rattle.page.specs.Places.{place}
use Rattle.tree.specs.Pieces.{pieces}
use Rattle.tree.proofs.Laid.{small_product, base-none, base-some, base-leaves}
use native.Mathlib.Omega.{arith}
use borrow.Author.Rules.{rules}
use Rattle.tree.proofs.build.base_image.Statement.{statement}
use Rattle.tree.proofs.build.base_image.Tie as tie

mul-first : tie.Need-overflow_mul-first
mul-first c = let a = c.before in omega (arith, small_product a.args.g a.args.j a.requires.0.base-most)

blank-requires : tie.Need-blank-requires
blank-requires c κs = search rules

returns : tie.Need-returns-then-leaves-first
returns c = let a = c.before.before.before in base-none a.args.f a.args.g a.args.records.now a.requires.0 a.args.j c.blank.result
    (omega (arith, a.requires.1, c.before.if-leaves-first.true)) c.blank.ensures

sub-least : tie.Need-overflow_sub-leaves
sub-least c = search rules

least-requires : tie.Need-least-n-requires
least-requires c κs = search rules

cast-place : tie.Need-overflow_cast-first
cast-place c = search rules

place-requires : tie.Need-place-requires
place-requires c κs = omega (arith, c.before.before.before.requires.0.leaves)

entries-image-requires : tie.Need-entries_image-requires
unfolding place
entries-image-requires c κs =
    let a = c.before.before.before.before in
    let m = c.before.least-n in
    let em : m.result ≡ min a.args.g (pieces (length a.args.records.now / 16) a.args.f - a.args.g * a.args.j) =
    m.ensures ∙ ap (λ (x : ℕ). min a.args.g (x - a.args.g * a.args.j)) a.requires.1 in
    let h : a.args.g * a.args.j < pieces (length a.args.records.now / 16) a.args.f = omega (arith, a.requires.1, c.before.before.if-leaves-first.false) in (
      a.requires.0.leaf-least,
      omega arith,
      omega (arith, a.requires.0.base-most),
      omega (arith, a.requires.0.leaves, c.place.ensures),
      base-leaves a.args.f a.args.g
          a.args.records.now a.requires.0 a.args.j m.result h em,
    )

returns-2 : tie.Need-returns
returns-2 c =
    let a = c.before.before.before.before.before in
    let m = c.before.before.least-n in
    let em : m.result ≡ min a.args.g (pieces (length a.args.records.now / 16) a.args.f - a.args.g * a.args.j) =
    m.ensures ∙ ap (λ (x : ℕ). min a.args.g (x - a.args.g * a.args.j)) a.requires.1 in
    let h : a.args.g * a.args.j < pieces (length a.args.records.now / 16) a.args.f = omega (arith, a.requires.1, c.before.before.before.if-leaves-first.false) in
    base-some a.args.f a.args.g a.args.records.now a.requires.0 a.args.j m.result h em c.entries_image.result (rw c.before.place.ensures at c.entries_image.ensures)

pub base_image_spec : {M : Type 1} → statement M
base_image_spec =
    tie.close
    (tie.spec
    mul-first
    blank-requires
    returns
    sub-least
    least-requires
    cast-place
    place-requires
    entries-image-requires
    returns-2)
