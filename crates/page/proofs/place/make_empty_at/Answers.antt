-- `page::place::make_empty_at` meets its contract: the page that is lent is made empty. Assumes nothing.
use Rattle.page.proofs.Pages.{lent-page, back-kept}
use Rattle.page.proofs.place.make_empty_at.Goals as goal

pub make_empty-requires : goal.make_empty-requires
make_empty-requires c = rw lent-page c.requires.w_value

pub returns : goal.returns
returns c =
    let a = c in
    let x = c.make_empty in
    cc (lent-page a.args.p.0 a.args.w.now, back-kept a.args.p.0 a.args.w.now x.new.pg a.requires.w_len.0 a.requires.w_len.1 x.auto.pg)
