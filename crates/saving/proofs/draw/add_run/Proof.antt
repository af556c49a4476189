-- `saving::draw::add_run` meets its contract: the rows are copied from where they stand. Assumes nothing.
use Rattle.saving.proofs.Image.{run_lent}
use borrow.Author.Rules.{rules}
use Rattle.saving.proofs.draw.add_run.Statement.{statement}
use Rattle.saving.proofs.draw.add_run.Tie as tie

cast-from : tie.Need-overflow_cast-from
cast-from c = search rules

mul-from : tie.Need-overflow_mul-from
mul-from c = search rules

mul-from-2 : tie.Need-overflow_mul-from-2
mul-from-2 c = search rules

add-from : tie.Need-overflow_add-from
add-from c = search rules

add-from-2 : tie.Need-overflow_add-from-2
add-from-2 c = search rules

mul-long : tie.Need-overflow_mul-long
mul-long c = search rules

add-copy : tie.Need-overflow_add-from-3
add-copy c = search rules

sub-copy : tie.Need-slice_bounds-copy-count
sub-copy c = search rules

part-copy-start : tie.Need-slice_bounds-copy-start
part-copy-start c = search rules

part-copy-end : tie.Need-slice_bounds-copy-end
part-copy-end c = search rules

copy-requires : tie.Need-copy-requires
copy-requires c κs = search rules

same_length : tie.Need-shape_of-image
same_length c = search rules

returns : tie.Need-returns
returns c =
    let a = c.before.before.before.before.before.before.before.before in
    cc (run_lent a.args.size a.args.q.0 a.args.i a.args.k a.args.w.now a.requires.0 a.requires.1 a.requires.2)

pub add_run_spec : {M : Type 1} → statement M
add_run_spec =
    tie.close
    (tie.spec
    cast-from
    mul-from
    mul-from-2
    add-from
    add-from-2
    mul-long
    add-copy
    sub-copy
    part-copy-start
    part-copy-end
    copy-requires
    same_length
    returns)
