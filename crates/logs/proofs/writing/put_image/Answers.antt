-- `logs::writing::put_image` meets its contract. Assumes nothing.
use mathlib.Core.Path.{◌∙◌}
use Rattle.logs.specs.Record.{length_of}
use Rattle.logs.specs.Table.{kinds, kind_at}
use Rattle.logs.proofs.Puts.{image-written}
use borrow.Author.Rules.{rules}
use Rattle.logs.proofs.writing.put_image.Goals as goal

pub put_image_head-requires : goal.put_image_head-requires
unfolding length_of
put_image_head-requires c = search rules

pub overflow_add-at : goal.overflow_add-at
unfolding length_of kind_at kinds
overflow_add-at c = search rules

pub copy-requires : goal.copy-requires
unfolding length_of kind_at kinds
copy-requires c = search rules

pub returns : goal.returns
unfolding length_of kind_at kinds
returns c =
    let a = c in
    let w = image-written a.args.s.now a.args.at a.args.n.0 a.args.p.0 a.args.page.now a.requires.1 a.requires.2 _ c.put_image_head.ensures in
    c.copy.ensures ∙ rw c.size_of.ensures w
