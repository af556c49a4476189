-- `page::image::entry_of` meets its contract: a mark, then two numbers. Assumes nothing.
use Rattle.page.proofs.Images.{entry-is}
use borrow.Author.Rules.{rules}
use Rattle.page.proofs.image.entry_of.Statement.{statement}
use Rattle.page.proofs.image.entry_of.Tie as tie

slice-aggregate-put4 : tie.Need-slice_bounds-put4-end
slice-aggregate-put4 c = search rules

put4-requires : tie.Need-put4-requires
put4-requires c κs = search rules

slice-aggregate-put2 : tie.Need-slice_bounds-put2-end
slice-aggregate-put2 c = search rules

put2-requires : tie.Need-put2-requires
put2-requires c κs = search rules

returns : tie.Need-returns
returns c =
    let a = c.before.before.before.before.before.before in
    cc (entry-is a.args.key a.args.p.0)

pub entry_of_spec : {M : Type 1} → statement M
entry_of_spec =
    tie.close
    (tie.spec
    slice-aggregate-put4
    put4-requires
    slice-aggregate-put2
    put2-requires
    returns)
