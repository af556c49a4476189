-- `logs::scan::last_turn` meets its contract. Assumes nothing.
use mathlib.Core.Bool.{not}
use Prim.Native.Nat.{ℕ, ◌+◌}
use native.Mathlib.Omega.{arith}
use mathlib.Core.Path.{◌≡◌, ap}
use lib.ListN.{length-drop}
use borrow.Author.Rules.{part_to_end}
use Rattle.logs.specs.Record.{length_of}
use Rattle.logs.specs.Table.{kinds, kind_at}
use Rattle.logs.proofs.Images.{last_none, last-other, last-lost, last_on, last-room}
use Rattle.logs.proofs.scan.last_turn.Goals as goal
use Rattle.logs.proofs.scan.last_turn.Goals.{After-all_bear}

-- where the images stand
from : (c : After-all_bear) → let a = c.args in a.w.begin + c.size_of.result ≡ a.w.begin + length_of (kind_at 1) 1
from c = ap (λ (x : ℕ). c.args.w.begin + x) c.size_of.ensures

pub overflow_add-from : goal.overflow_add-from
unfolding length_of kind_at kinds
overflow_add-from c = omega (arith, c.size_of.ensures, c.requires.0.laid, c.requires.0.inside, c.requires.0.small)

pub returns-then-w-eq0 : goal.returns-then-w-eq0
returns-then-w-eq0 c = last_none c.args.l.now _ _ _ c.lost.ensures c.if-w-eq0.true

pub slice_bounds-all_bear-count : goal.slice_bounds-all_bear-count
unfolding length_of kind_at kinds
slice_bounds-all_bear-count c = omega (arith, c.size_of.ensures, c.requires.0.laid, c.requires.0.inside)

pub slice_bounds-all_bear-start : goal.slice_bounds-all_bear-start
unfolding length_of kind_at kinds
slice_bounds-all_bear-start c = omega (arith, c.size_of.ensures, c.requires.0.laid, c.requires.0.inside)

pub overflow_add-w : goal.overflow_add-w
overflow_add-w c = omega (arith, c.requires.1)

pub all_bear-requires : goal.all_bear-requires
unfolding length_of kind_at kinds
all_bear-requires c = rw (part_to_end, length-drop) (omega (arith, c.size_of.ensures, c.requires.0.laid, c.requires.0.inside))

pub returns-then-not-all_bear : goal.returns-then-not-all_bear
returns-then-not-all_bear c = last-other c.args.l.now _ _ _ _ _ (from (goal.at.returns-then-not-all_bear c).After-all_bear) c.all_bear.ensures c.lost-then-not-all_bear.ensures (ap not c.if-not-all_bear.true)

pub overflow_add-w-2 : goal.overflow_add-w-2
overflow_add-w-2 c = omega (arith, c.requires.1)

pub is_end-requires : goal.is_end-requires
is_end-requires c = omega (arith, c.requires.0.inside)

pub returns-then-not-is_end : goal.returns-then-not-is_end
returns-then-not-is_end c = last-lost c.args.l.now _ _ _ _ _ (from (goal.at.returns-then-not-is_end c).After-all_bear) c.all_bear.ensures c.if-w-eq0.false (ap not c.if-not-all_bear.false) _ c.is_end.ensures c.lost-then-not-is_end.ensures (ap not c.if-not-is_end.true)

pub ended-requires : goal.ended-requires
ended-requires c =
    let a = c in
    let r = last-room _ _ a.args.l.now a.args.w.at _ c.is_end.ensures (ap not c.if-not-is_end.false) in
    (a.requires.1, omega (arith, r, a.requires.0.small))

pub returns : goal.returns
returns c = last_on c.args.l.now _ _ _ _ _ (from (goal.at.returns c).After-all_bear) c.all_bear.ensures c.if-w-eq0.false (ap not c.if-not-all_bear.false) _ c.is_end.ensures c.ended.ensures (ap not c.if-not-is_end.false)
