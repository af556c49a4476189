-- `page::place::stamp_at` meets its contract: the number is written in the page that is lent. Assumes nothing.
use Rattle.page.proofs.Pages.{lent-page, back-kept}
use Rattle.page.proofs.place.stamp_at.Goals as goal

pub returns : goal.returns
returns c =
    let a = c in
    let x = c.stamp in
    cc (lent-page a.args.p.0 a.args.w.now, back-kept a.args.p.0 a.args.w.now x.new.pg a.requires.0 a.requires.1 x.auto.pg)
