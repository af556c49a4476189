-- `ranging::rows_below_at` meets its contract: the page is lent. Assumes nothing.
use Prim.Native.Nat.{ℕ}
use mathlib.Core.Path.{ap, ◌∙◌}
use mathlib.Core.List.{List}
use Rattle.page.specs.Page.{rows}
use Rattle.page.proofs.Pages.{lent-page, length-page}
use Rattle.ranging.specs.Reading.{rows_below}
use borrow.Author.Rules.{rules}
use Rattle.ranging.proofs.rows_below_at.Statement.{statement}
use Rattle.ranging.proofs.rows_below_at.Tie as tie

mul_at : tie.Need-overflow_mul-at
mul_at c = search rules

add-rows-below : tie.Need-overflow_add-at
add-rows-below c = search rules

sub-rows-below : tie.Need-slice_bounds-rows_below-count
sub-rows-below c = search rules

part-rows-below-start : tie.Need-slice_bounds-rows_below-start
part-rows-below-start c = search rules

part-rows-below-end : tie.Need-slice_bounds-rows_below-end
part-rows-below-end c = search rules

rows-below-requires : tie.Need-rows_below-requires
rows-below-requires c κs =
    let a = c.before.before in
    rw (lent-page a.args.p a.args.w.now) (length-page _ _ a.requires.0 a.requires.1, a.requires.2, a.requires.3)

returns : tie.Need-returns
returns c =
    let a = c.before.before.before in
    c.rows_below.ensures ∙ ap (λ (pg : List ℕ). rows_below a.args.k (rows a.args.sz pg)) (lent-page a.args.p a.args.w.now)

pub rows_below_at_spec : {M : Type 1} → statement M
rows_below_at_spec =
    tie.close
    (tie.spec
    mul_at
    add-rows-below
    sub-rows-below
    part-rows-below-start
    part-rows-below-end
    rows-below-requires
    returns)
