-- `page::view::record_value` meets its contract: a record's value stands behind its key. Assumes nothing.
use Prim.Native.Nat.{◌+◌, ◌*◌}
use native.Mathlib.Omega.{arith}
use mathlib.Core.Path.{refl, sym, ◌∙◌}
use Rattle.field.proofs.Part.{copied-part}
use Rattle.page.proofs.Rows.{value-at}
use borrow.Author.Rules.{rules}
use Rattle.page.proofs.view.record_value.Statement.{statement}
use Rattle.page.proofs.view.record_value.Tie as tie

mul_at : tie.Need-overflow_mul-at
mul_at c = search rules

add_at : tie.Need-overflow_add-at
add_at c = search rules

add-at-2 : tie.Need-overflow_add-at-2
add-at-2 c = search rules

slice-aggregate-copy : tie.Need-slice_bounds-copy-end
slice-aggregate-copy c = search rules

add-copy : tie.Need-overflow_add-at-3
add-copy c = search rules

sub-copy : tie.Need-slice_bounds-copy-count
sub-copy c = search rules

part-copy-start : tie.Need-slice_bounds-copy-start
part-copy-start c = search rules

part-copy-end : tie.Need-slice_bounds-copy-end-2
part-copy-end c = search rules

copy-requires : tie.Need-copy-requires
copy-requires c κs = search rules

returns : tie.Need-returns
returns c =
    let a = c.before.before.before.before.before in
    let pg = a.args.pg.now in
    let i = a.args.i in
    c.before.copy.ensures ∙ copied-part (16 + 16 * i + 6) 10 pg _ refl (omega arith) ∙ sym (value-at i pg a.requires.1 a.requires.0)

pub record_value_spec : {M : Type 1} → statement M
record_value_spec =
    tie.close
    (tie.spec
    mul_at
    add_at
    add-at-2
    slice-aggregate-copy
    add-copy
    sub-copy
    part-copy-start
    part-copy-end
    copy-requires
    returns)
