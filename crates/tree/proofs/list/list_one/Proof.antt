-- `tree::list::list_one` meets its contract. Assumes nothing.
use mathlib.Core.Path.{◌∙◌}
use Rattle.tree.proofs.Listing.{one-low, one-high, one-full, one_written}
use borrow.Author.Rules.{rules}
use Rattle.tree.proofs.list.list_one.Statement.{statement}
use Rattle.tree.proofs.list.list_one.Tie as tie

get4-requires : tie.Need-get4-key-requires
get4-requires c κs = search rules

returns : tie.Need-returns-then-key-low
returns c =
    let a = c.before.before.before.before in
    let g = c.before.get4-key in
    one-low a.args.rc.now a.args.low a.args.high a.args.out.now a.args.n g.result g.ensures c.if-key-low.true

returns-2 : tie.Need-returns-then-high-key
returns-2 c =
    let a = c.before.before.before.before.before in
    let g = c.before.before.get4-key in
    one-high a.args.rc.now a.args.low a.args.high a.args.out.now a.args.n g.result g.ensures c.before.if-key-low.false c.if-high-key.true

returns-3 : tie.Need-returns-then-out-n
returns-3 c =
    let h = c.before.before in
    let a = h.before.before.before.before in
    let g = h.before.get4-key in
    one-full a.args.rc.now a.args.low a.args.high a.args.out.now a.args.n g.result g.ensures
    h.if-key-low.false c.before.if-high-key.false a.requires.1 c.if-out-n.true

put-record-requires : tie.Need-put_record-requires
put-record-requires c κs = search rules

add-t8 : tie.Need-overflow_add-result
add-t8 c = search rules

same_length : tie.Need-shape_of-out
same_length c = search rules

returns-4 : tie.Need-returns
returns-4 c =
    let full = c.before.before.before.before in
    let low = full.before.before in
    let a = low.before.before.before.before in
    let g = low.before.get4-key in
    let o = one_written a.args.rc.now a.args.low a.args.high a.args.out.now a.args.n g.result g.ensures
    low.if-key-low.false full.before.if-high-key.false full.if-out-n.false in
    (c.before.before.put_record.ensures ∙ o.0, o.1, o.2)

pub list_one_spec : {M : Type 1} → statement M
list_one_spec =
    tie.close
    (tie.spec
    get4-requires
    returns
    returns-2
    returns-3
    put-record-requires
    add-t8
    same_length
    returns-4)
