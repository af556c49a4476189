-- `tree::list::put_record` meets its contract: the array holds the record. Assumes nothing.
use Prim.Native.Nat.{ℕ, ◌*◌}
use mathlib.Core.Path.{ap, ◌∙◌}
use mathlib.Core.List.{List}
use Rattle.field.specs.Bytes.{put}
use Rattle.field.proofs.Part.{put_whole}
use borrow.Author.Rules.{rules}
use Rattle.tree.proofs.list.put_record.Statement.{statement}
use Rattle.tree.proofs.list.put_record.Tie as tie

slice-aggregate-copy : tie.Need-slice_bounds-copy-end
slice-aggregate-copy c = search rules

copy-requires : tie.Need-copy-requires
copy-requires c κs = search rules

mul-copy : tie.Need-overflow_mul-n
mul-copy c = search rules

slice-aggregate-copy-2 : tie.Need-slice_bounds-copy-end-2
slice-aggregate-copy-2 c = search rules

copy-requires-2 : tie.Need-copy-requires-2
copy-requires-2 c κs = search rules

same_length : tie.Need-shape_of-out
same_length c = search rules

returns : tie.Need-returns
returns c =
    let first = c.before.before.before.before.before.before in
    let a = first.before.before.before.before in
    let whole = first.copy.ensures ∙ put_whole a.args.rc.now _ a.requires.0 in
    c.before.before.copy-2.ensures ∙ ap (λ (r : List ℕ). put (16 * a.args.n) r a.args.out.now) whole

pub put_record_spec : {M : Type 1} → statement M
put_record_spec =
    tie.close
    (tie.spec
    slice-aggregate-copy
    copy-requires
    mul-copy
    slice-aggregate-copy-2
    copy-requires-2
    same_length
    returns)
