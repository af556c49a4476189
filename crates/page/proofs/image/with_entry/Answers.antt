-- `page::image::with_entry` meets its contract: an entry is one row of 8 bytes. Assumes nothing.
use Rattle.page.proofs.Images.{one-row}
use Rattle.page.proofs.image.with_entry.Goals as goal

pub returns : goal.returns
returns c =
    let a = c in
    let e = c.entry_of-e in
    cc (one-row a.args.key a.args.p.0 e.result e.ensures)
