-- `tree::well::pointed_once` meets its contract. Assumes nothing.
use Rattle.field.specs.Bytes.{zeroes}
use Rattle.tree.proofs.Chain.{root-room, root-points-in, root-points-wide, zeroes-roomy, first-roomy, once-counted! }
use borrow.Author.Rules.{rules}
use Rattle.tree.proofs.well.pointed_once.Statement.{statement}
use Rattle.tree.proofs.well.pointed_once.Tie as tie

count-at-requires : tie.Need-count_at-n-requires
count-at-requires c κs = search rules

sub-tally : tie.Need-slice_bounds-tally-count
sub-tally c = search rules

part-tally-start : tie.Need-slice_bounds-tally-start
part-tally-start c = search rules

part-tally-end : tie.Need-slice_bounds-tally-end
part-tally-end c = search rules

tally-requires : tie.Need-tally-first-requires
unfolding zeroes
tally-requires c κs =
    let a = c.before.before.before in
    let k = c.before.count_at-n in
    let w = a.args.w.now in
    (root-room w a.requires k.result k.ensures, root-points-wide w a.requires k.result k.ensures, zeroes-roomy w a.requires k.result k.ensures)

sub-tally-under : tie.Need-slice_bounds-tally_under-count
sub-tally-under c = search rules

part-tally-under-start : tie.Need-slice_bounds-tally_under-start
part-tally-under-start c = search rules

part-tally-under-end : tie.Need-slice_bounds-tally_under-end
part-tally-under-end c = search rules

tally-under-requires : tie.Need-tally_under-all-requires
unfolding zeroes
tally-under-requires c κs =
    let a = c.before.before.before.before.before in
    let k = c.before.before.before.count_at-n in
    let t = c.before.tally-first in
    let w = a.args.w.now in
    (a.requires, root-room w a.requires k.result k.ensures, root-points-in w a.requires k.result k.ensures, first-roomy w a.requires k.result k.ensures t.result t.ensures)

counts-right-requires : tie.Need-counts_right-requires
counts-right-requires c κs = search rules

returns : tie.Need-returns
unfolding zeroes
returns c =
    let a = c.before.before.before.before.before.before.before in
    let k = c.before.before.before.before.before.count_at-n in
    let t = c.before.before.before.tally-first in
    let u = c.before.tally_under-all in
    once-counted! a.args.w.now a.requires k.result k.ensures t.result t.ensures u.result c.counts_right.result u.ensures c.counts_right.ensures

pub pointed_once_spec : {M : Type 1} → statement M
pointed_once_spec =
    tie.close
    (tie.spec
    count-at-requires
    sub-tally
    part-tally-start
    part-tally-end
    tally-requires
    sub-tally-under
    part-tally-under-start
    part-tally-under-end
    tally-under-requires
    counts-right-requires
    returns)
