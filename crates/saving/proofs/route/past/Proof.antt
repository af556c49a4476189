-- `saving::route::past` meets its contract. Assumes nothing.
use Rattle.saving.proofs.Leads.{stands-past, stands-other, stands_here}
use borrow.Author.Rules.{rules}
use Rattle.saving.proofs.route.past.Statement.{statement}
use Rattle.saving.proofs.route.past.Tie as tie

cast-count-at : tie.Need-overflow_cast-p
cast-count-at c = search rules

count-at-requires : tie.Need-count_at-requires
count-at-requires c κs = search rules

returns : tie.Need-returns-then-count_at-i
returns c =
    let a = c.before.before.before.before in
    stands-past a.args.w.now a.args.p.0 a.args.key a.args.i a.requires.0.2 a.requires.1 c.before.count_at.result c.before.count_at.ensures c.if-count_at-i.true

key-at-requires : tie.Need-key_at-requires
key-at-requires c κs = search rules

returns-2 : tie.Need-returns-then-key_at-key
returns-2 c =
    let a = c.before.before.before.before.before.before in
    stands-other a.args.w.now a.args.p.0 a.args.key a.args.i a.requires.0.2 a.requires.1 _ c.before.key_at.ensures c.if-key_at-key.true

add-result : tie.Need-overflow_add-result
add-result c = search rules

returns-3 : tie.Need-returns
returns-3 c =
    let k = c.before in
    let a = k.before.before.before.before.before in
    stands_here a.args.w.now a.args.p.0 a.args.key a.args.i a.requires.0.2 a.requires.1 _ _ k.before.before.count_at.ensures k.before.if-count_at-i.false k.key_at.ensures c.if-key_at-key.false

pub past_spec : {M : Type 1} → statement M
past_spec =
    tie.close
    (tie.spec
    cast-count-at
    count-at-requires
    returns
    key-at-requires
    returns-2
    add-result
    returns-3)
