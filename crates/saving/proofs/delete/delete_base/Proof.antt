-- `saving::delete::delete_base` meets its contract: root, base page, leaf and perhaps the base page to the right, in number order. Assumes nothing.
use mathlib.Core.Path.{◌∙◌, sym}
use Rattle.saving.proofs.Leads.{root_below, root-basic}
use Rattle.saving.proofs.Plans.{listed-as}
use Rattle.saving.proofs.Deletes.{two-of, over-inside, out-left, out-only, out-right, out-right-first}
use borrow.Author.Rules.{rules}
use Rattle.saving.proofs.delete.delete_base.Statement.{statement}
use Rattle.saving.proofs.delete.delete_base.Tie as tie

united-requires : tie.Need-united-root-requires
united-requires c κs = let a = c.before in (a.requires.0.whole, a.requires.2.root, over-inside a.args.w.now _ a.requires.2)

emptied-requires : tie.Need-emptied-base-requires
emptied-requires c κs = search rules

emptied-requires-2 : tie.Need-emptied-leaf-requires
emptied-requires-2 c κs = search rules

listed-requires : tie.Need-listed-requires
listed-requires c κs = search rules

returns : tie.Need-returns-then-x-gt0
returns c = λ r.
    let l = c.before.before.before in
    let b = l.before in
    let u = b.before in
    let a = u.before.before in
    let w = a.args.w.now in
    listed-as w r _ _ 3 _ _ _ _ _ _ _ _ u.united-root.ensures (b.emptied-base.ensures w) (l.emptied-leaf.ensures w) (l.emptied-leaf.ensures w) c.listed.ensures
    (out-left w _ a.requires.2 a.requires.3 c.before.if-x-gt0.true)

count-at-requires : tie.Need-count_at-requires
count-at-requires c κs = search rules

listed-requires-2 : tie.Need-listed-requires-then-count_at-eq1
listed-requires-2 c κs = search rules

returns-2 : tie.Need-returns-then-count_at-eq1
returns-2 c = λ r.
    let n = c.before.before in
    let e = n.before in
    let l = e.before.before in
    let b = l.before in
    let u = b.before in
    let a = u.before.before in
    let w = a.args.w.now in
    listed-as w r _ _ 3 _ _ _ _ _ _ _ _ u.united-root.ensures (b.emptied-base.ensures w) (l.emptied-leaf.ensures w) (l.emptied-leaf.ensures w) c.listed-then-count_at-eq1.ensures
    (out-only w _ a.requires.2 a.requires.3 e.if-x-gt0.false (sym n.count_at.ensures ∙ c.before.if-count_at-eq1.true))

page-at-requires : tie.Need-page_at-q-requires
page-at-requires c κs = search rules

key-at-requires : tie.Need-key_at-requires
key-at-requires c κs = search rules

lowered-requires : tie.Need-lowered-right-requires
lowered-requires c κs =
    let q = c.before in
    let m = q.before in
    let a = m.before.before.before.before.before.before.before.before in
    let w = a.args.w.now in
    let right = root_below w a.requires.0 a.requires.1 a.requires.2.root.full 1 _ (two-of _ _ m.before.count_at.ensures a.requires.2.root.full m.if-count_at-eq1.false) q.page_at-q.ensures in
    (a.requires.0.whole, right, right.full)

listed-requires-3 : tie.Need-listed-requires-then-x-q
listed-requires-3 c κs = search rules

returns-3 : tie.Need-returns-then-x-q
returns-3 c = λ r.
    let d = c.before.before.before.before in
    let k = d.before in
    let q = k.before in
    let m = q.before in
    let n = m.before in
    let e = n.before in
    let l = e.before.before in
    let b = l.before in
    let u = b.before in
    let a = u.before.before in
    let w = a.args.w.now in
    let two = two-of _ _ n.count_at.ensures a.requires.2.root.full m.if-count_at-eq1.false in
    let at = root-basic w a.requires.0 a.requires.1 a.requires.2.root.full 1 _ two q.page_at-q.ensures in
    listed-as w r _ _ 4 _ _ _ _ _ _ _ _ u.united-root.ensures (b.emptied-base.ensures w) d.lowered-right.ensures (l.emptied-leaf.ensures w) c.listed-then-x-q.ensures
    (out-right w _ a.requires.2 a.requires.3 e.if-x-gt0.false two _ _ q.page_at-q.ensures k.key_at.ensures at.0 at.1 c.before.if-x-q.true)

listed-requires-4 : tie.Need-listed-requires-2
listed-requires-4 c κs = search rules

returns-4 : tie.Need-returns
returns-4 c = λ r.
    let d = c.before.before.before.before in
    let k = d.before in
    let q = k.before in
    let m = q.before in
    let n = m.before in
    let e = n.before in
    let l = e.before.before in
    let b = l.before in
    let u = b.before in
    let a = u.before.before in
    let w = a.args.w.now in
    let two = two-of _ _ n.count_at.ensures a.requires.2.root.full m.if-count_at-eq1.false in
    let at = root-basic w a.requires.0 a.requires.1 a.requires.2.root.full 1 _ two q.page_at-q.ensures in
    listed-as w r _ _ 4 _ _ _ _ _ _ _ _ u.united-root.ensures d.lowered-right.ensures (b.emptied-base.ensures w) (l.emptied-leaf.ensures w) c.listed-2.ensures
    (out-right-first w _ a.requires.2 a.requires.3 e.if-x-gt0.false two _ _ q.page_at-q.ensures k.key_at.ensures at.0 at.1 c.before.if-x-q.false)

pub delete_base_spec : {M : Type 1} → statement M
delete_base_spec =
    tie.close
    (tie.spec
    united-requires
    emptied-requires
    emptied-requires-2
    listed-requires
    returns
    count-at-requires
    listed-requires-2
    returns-2
    page-at-requires
    key-at-requires
    lowered-requires
    listed-requires-3
    returns-3
    listed-requires-4
    returns-4)
