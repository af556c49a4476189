-- `tree::build::image_at` meets its contract. Assumes nothing.
use Prim.Native.Nat.{ℕ, ◌-◌, ◌/◌}
use mathlib.Core.Path.{◌≡◌, ap, ◌∙◌}
use lib.ListN.{length}
use Rattle.field.specs.Bytes.{Bytes}
use Rattle.page.specs.Page.{first_leaf}
use Rattle.tree.specs.Pieces.{pieces}
use Rattle.tree.proofs.Laid.{records-few, root-leaves, root-page, base-page, leaf-begins, leaf-page-is, empty-page-is}
use native.Mathlib.Omega.{arith}
use borrow.Author.Rules.{rules}
use Rattle.tree.proofs.build.image_at.Statement.{statement}
use Rattle.tree.proofs.build.image_at.Tie as tie

pieces-requires : tie.Need-pieces-leaves-requires
pieces-requires c κs = let a = c.before in (a.requires.0.leaf-least, omega (arith, a.requires.0.leaf-most), omega (arith, records-few a.args.f a.args.g a.args.records.now a.requires.0))

pieces-requires-2 : tie.Need-pieces-bases-requires
pieces-requires-2 c κs = search rules

entries-image-requires : tie.Need-entries_image-requires
entries-image-requires c κs =
    let a = c.before.before.before.before in
    let k = c.before.before.pieces-leaves in
    let eb : c.pieces-bases.result ≡ pieces (pieces (length a.args.records.now / 16) a.args.f) a.args.g =
    c.pieces-bases.ensures ∙ ap (λ (x : ℕ). pieces x a.args.g) k.ensures in
    let fits = a.requires.0 in
    let leaves = root-leaves a.args.f a.args.g a.args.records.now fits in
    (fits.leaf-least, fits.base-most, omega (arith, eb, fits.bases), omega (arith, eb, fits.bases), rw eb leaves)

returns : tie.Need-returns-then-p-eq0
returns c =
    let a = c.before.before.before.before.before in
    let k = c.before.before.before.pieces-leaves in
    let eb : c.before.pieces-bases.result ≡ pieces (pieces (length a.args.records.now / 16) a.args.f) a.args.g =
    c.before.pieces-bases.ensures ∙ ap (λ (x : ℕ). pieces x a.args.g) k.ensures in
    let bytes : Bytes a.args.records.now = λ i. omega (arith, c.before.before.before.before.shared_slice_known-1.given i) in
    root-page a.args.f a.args.g a.args.records.now a.requires.0 bytes a.args.p c.entries_image.result c.before.before.if-p-eq0.true (rw eb at c.entries_image.ensures)

cast-if2 : tie.Need-overflow_cast-t-8
cast-if2 c = omega arith

cast-base-image : tie.Need-overflow_cast-base_image
cast-base-image c = omega arith

sub-base-image : tie.Need-overflow_sub-p
sub-base-image c = search rules

base-image-requires : tie.Need-base_image-requires
base-image-requires c κs = search rules

returns-2 : tie.Need-returns-then-p
returns-2 c =
    let a = c.before.before.before.before.before in
    let k = c.before.before.before.pieces-leaves in
    base-page a.args.f a.args.g a.args.records.now a.requires.0 a.args.p c.before.before.if-p-eq0.false c.base_image.result c.before.if-p.true c.base_image.ensures

cast-i : tie.Need-overflow_cast-i
cast-i c = omega arith

sub-i : tie.Need-overflow_sub-i
sub-i c = search rules

leaf-image-requires : tie.Need-leaf_image-requires
leaf-image-requires c κs =
    let a = c.before.before.before.before.before in
    let k = c.before.before.before.pieces-leaves in
    (a.requires.0.leaf-least, a.requires.0.leaf-most, leaf-begins a.args.f a.args.g a.args.records.now a.requires.0 (a.args.p - first_leaf) (omega (arith, k.ensures, c.if-i-leaves.true)))

returns-3 : tie.Need-returns-then-i-leaves
returns-3 c =
    let a = c.before.before.before.before.before.before in
    let k = c.before.before.before.before.pieces-leaves in
    leaf-page-is a.args.f a.args.g a.args.records.now a.requires.0 a.args.p c.before.before.before.if-p-eq0.false
    c.before.before.if-p.false c.leaf_image.result (omega (arith, k.ensures, c.before.if-i-leaves.true)) c.leaf_image.ensures

blank-requires : tie.Need-blank-requires
blank-requires c κs = search rules

returns-4 : tie.Need-returns
returns-4 c =
    let a = c.before.before.before.before.before.before in
    let k = c.before.before.before.before.pieces-leaves in
    empty-page-is a.args.f a.args.g a.args.records.now a.requires.0 a.args.p c.before.before.before.if-p-eq0.false
    c.before.before.if-p.false c.blank.result (omega (arith, k.ensures, c.before.if-i-leaves.false)) c.blank.ensures

pub image_at_spec : {M : Type 1} → statement M
image_at_spec =
    tie.close
    (tie.spec
    pieces-requires
    pieces-requires-2
    entries-image-requires
    returns
    cast-if2
    cast-base-image
    sub-base-image
    base-image-requires
    returns-2
    cast-i
    sub-i
    leaf-image-requires
    returns-3
    blank-requires
    returns-4)
