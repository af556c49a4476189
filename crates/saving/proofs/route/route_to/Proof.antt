-- `saving::route::route_to` meets its contract: each page on the way has rows. Assumes nothing.
use Rattle.saving.proofs.Leads.{root-rowed, over-inside, base-rowed, under-inside, leaf-rowed, leaf-ascends, leads}
use mathlib.Core.Path.{refl}
use Rattle.saving.proofs.route.route_to.Statement.{statement}
use Rattle.saving.proofs.route.route_to.Tie as tie

entry-for-requires : tie.Need-entry_for-over-requires
entry-for-requires c κs = let a = c.before in (a.requires.0.whole, root-rowed a.args.w.now a.requires.0 a.requires.1 a.requires.2)

page-at-requires : tie.Need-page_at-base-requires
page-at-requires c κs =
    let a = c.before.before in
    let w = a.args.w.now in
    let r = root-rowed w a.requires.0 a.requires.1 a.requires.2 in
    (a.requires.0.whole, r, over-inside w a.requires.0 a.requires.1 a.requires.2 _ _ c.entry_for-over.ensures)

entry-for-requires-2 : tie.Need-entry_for-under-requires
entry-for-requires-2 c κs =
    let a = c.before.before.before in
    (a.requires.0.whole, base-rowed a.args.w.now a.requires.0 a.requires.1 a.requires.2 _ _ c.before.entry_for-over.ensures _ c.page_at-base.ensures)

page-at-requires-2 : tie.Need-page_at-leaf-requires
page-at-requires-2 c κs =
    let g = c.before in
    let a = g.before.before.before in
    let w = a.args.w.now in (
      a.requires.0.whole,
      base-rowed w a.requires.0 a.requires.1 a.requires.2 _ _ g.before.entry_for-over.ensures _ g.page_at-base.ensures,
      under-inside w a.requires.0 a.requires.1 a.requires.2 _ _ g.before.entry_for-over.ensures _ g.page_at-base.ensures _ c.entry_for-under.ensures,
    )

record-for-requires : tie.Need-record_for-at-requires
record-for-requires c κs =
    let g = c.before.before in
    let a = g.before.before.before in
    let w = a.args.w.now in
    (a.requires.0.whole, leaf-rowed w a.requires.0 a.requires.1 a.requires.2 _ _ g.before.entry_for-over.ensures _ g.page_at-base.ensures _ c.before.entry_for-under.ensures _ c.page_at-leaf.ensures)

past-requires : tie.Need-past-end-requires
past-requires c κs =
    let l = c.before in
    let g = l.before.before in
    let a = g.before.before.before in
    let w = a.args.w.now in (
      (
        a.requires.0.whole,
        leaf-rowed w a.requires.0 a.requires.1 a.requires.2 _ _ g.before.entry_for-over.ensures _ g.page_at-base.ensures _ l.before.entry_for-under.ensures _ l.page_at-leaf.ensures,
        leaf-ascends w a.requires.0 a.requires.1 a.requires.2 _ _ g.before.entry_for-over.ensures _ g.page_at-base.ensures _ l.before.entry_for-under.ensures _ l.page_at-leaf.ensures,
      ),
      c.record_for-at.ensures,
    )

returns : tie.Need-returns
returns c =
    let l = c.before.before in
    let g = l.before.before in
    let a = g.before.before.before in (
      refl,
      leads a.args.w.now a.requires.0 a.requires.1 a.requires.2 _ _ g.before.entry_for-over.ensures _ g.page_at-base.ensures _ l.before.entry_for-under.ensures _ l.page_at-leaf.ensures _
          refl refl refl refl refl c.past-end.ensures,
    )

pub route_to_spec : {M : Type 1} → statement M
route_to_spec =
    tie.close
    (tie.spec
    entry-for-requires
    page-at-requires
    entry-for-requires-2
    page-at-requires-2
    record-for-requires
    past-requires
    returns)
