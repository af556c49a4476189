-- `page::place::append_at` meets its contract: the records are appended to the page that is lent. Assumes nothing.
use Rattle.page.proofs.Pages.{lent-page, back-kept}
use Rattle.page.proofs.place.append_at.Goals as goal

pub append-requires : goal.append-requires
append-requires c = record { pg_value = rw lent-page c.requires.w_value; rs_len = rw lent-page c.requires.rs_len }

pub returns : goal.returns
returns c =
    let a = c in
    let x = c.append in
    cc (lent-page a.args.p.0 a.args.w.now, back-kept a.args.p.0 a.args.w.now x.new.pg a.requires.w_len.0 a.requires.w_len.1 x.auto.pg)
