-- `page::place::remove_at` meets its contract: the entry of the page that is lent is removed. Assumes nothing.
use Rattle.page.proofs.Pages.{lent-page, back-kept}
use Rattle.page.proofs.place.remove_at.Goals as goal

pub remove-requires : goal.remove-requires
remove-requires c = rw lent-page c.requires.w_value

pub returns : goal.returns
returns c =
    let a = c in
    let x = c.remove in
    cc (lent-page a.args.p.0 a.args.w.now, back-kept a.args.p.0 a.args.w.now x.new.pg a.requires.w_len.0 a.requires.w_len.1 x.auto.pg)
