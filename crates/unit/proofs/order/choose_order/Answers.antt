-- `unit::order::choose_order` meets its contract. Assumes nothing.
use Rattle.unit.proofs.Ordered.{want-leafy, order-none!, order-move!, order-swap! }
use borrow.Author.Rules.{rules}
use Rattle.unit.proofs.order.choose_order.Goals as goal

pub returns-in_default : goal.returns-in_default
returns-in_default c =
    let a = c in
    order-none! a.args.w.now a.stray_leaf.result a.stray_leaf.ensures c.nothing.result (search) c.nothing.ensures

pub empty_at-requires : goal.empty_at-requires
empty_at-requires c = (search rules, search want-leafy)

pub returns-then-empty_at : goal.returns-then-empty_at
returns-then-empty_at c =
    let m = c in
    let k = m in
    let a = k in
    order-move! a.args.w.now a.stray_leaf.result a.stray_leaf.ensures c.moving.result _ _ _ k.in-At.is m.empty_at.result
    m.empty_at.ensures (search want-leafy) c.if-empty_at.true c.moving.ensures

pub returns : goal.returns
returns c =
    let m = c in
    let k = m in
    let a = k in
    order-swap! a.args.w.now a.stray_leaf.result a.stray_leaf.ensures c.swapping.result _ _ _ k.in-At.is m.empty_at.result
    m.empty_at.ensures (search want-leafy) c.base_of-other.result.0 c.base_of-other.ensures c.if-empty_at.false c.swapping.ensures
