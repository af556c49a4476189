-- `tree::build::leaf_image` meets its contract. Assumes nothing.
use Prim.Native.Nat.{◌*◌, ◌/◌}
use mathlib.Core.Path.{refl, ap, ◌∙◌}
use lib.ListN.{length}
use Rattle.field.proofs.Part.{lent-part, length_part}
use Rattle.page.specs.Page.{leaf}
use Rattle.tree.specs.Layout.{fresh}
use Rattle.tree.proofs.Groups.{blank-again, blank-count, leaf-image, leaf-rows}
use native.Mathlib.Omega.{arith}
use borrow.Author.Rules.{rules}
use Rattle.tree.proofs.build.leaf_image.Statement.{statement}
use Rattle.tree.proofs.build.leaf_image.Tie as tie

mul-first : tie.Need-overflow_mul-first
mul-first c = search rules

sub-left : tie.Need-overflow_sub-left
sub-left c = search rules

least-requires : tie.Need-least-k-requires
least-requires c κs = search rules

mul_at : tie.Need-overflow_mul-at
mul_at c = search rules

blank-requires : tie.Need-blank-requires
blank-requires c κs = search rules

mul-with-rows : tie.Need-overflow_mul-k
mul-with-rows c = search rules

add-with-rows : tie.Need-overflow_add-at
add-with-rows c = search rules

sub-with-rows : tie.Need-slice_bounds-with_rows-count
sub-with-rows c = search rules

part-with-rows-start : tie.Need-slice_bounds-with_rows-start
part-with-rows-start c = search rules

part-with-rows-end : tie.Need-slice_bounds-with_rows-end
part-with-rows-end c = search rules

cast-with-rows : tie.Need-overflow_cast-k
cast-with-rows c = search rules

with-rows-requires : tie.Need-with_rows-requires
with-rows-requires c κs =
    let im = c.before.blank in
    let m = c.before.before.least-k in
    let a = c.before.before.before.before in
    let at = 16 * (a.args.f * a.args.i) in
    let rs = a.args.records.now in
    let none = blank-count im.result im.ensures in
    let long = length_part at (16 * m.result) rs (omega (arith, m.ensures)) in (
      blank-again im.result im.ensures,
      (rw (lent-part at (16 * m.result) rs) long, omega (arith, none, m.ensures), omega (arith, none, m.ensures)),
    )

returns : tie.Need-returns
returns c =
    let im = c.before.before.blank in
    let m = c.before.before.before.least-k in
    let a = c.before.before.before.before.before in
    let at = 16 * (a.args.f * a.args.i) in
    let rs = a.args.records.now in
    leaf-image im.result c.with_rows.result _ im.ensures c.with_rows.ensures
    ∙ ap (fresh leaf) (leaf-rows (length rs / 16) a.args.f a.args.i m.result at rs (omega arith) a.requires.2 refl m.ensures)

pub leaf_image_spec : {M : Type 1} → statement M
leaf_image_spec =
    tie.close
    (tie.spec
    mul-first
    sub-left
    least-requires
    mul_at
    blank-requires
    mul-with-rows
    add-with-rows
    sub-with-rows
    part-with-rows-start
    part-with-rows-end
    cast-with-rows
    with-rows-requires
    returns)
