-- `logs::scan::turn` meets its contract: an LB where no unit is open, else the planned step. Assumes nothing.
use Prim.Native.Nat.{◌+◌, ◌≤◌}
use native.Mathlib.Omega.{arith}
use mathlib.Core.Path.{◌≡◌, refl, sym}
use mathlib.Core.Bool.{true, false}
use lib.ListN.{length, drop, length-drop}
use lib.Seq.{get_or-drop}
use borrow.Author.Tests.{not-true, not-false}
use borrow.Author.Rules.{part_to_end}
use Rattle.logs.specs.Log.{saves_at}
use Rattle.logs.proofs.Ways.{turned-full, begin-turned, step-turned}
use Rattle.logs.proofs.Tidies.{saving-open, saving-shut}
use Rattle.logs.proofs.scan.turn.Goals as goal
use Rattle.logs.proofs.scan.turn.Goals.{Else-not-w, Then-not-w}

-- no unit is open, and there is room for an LB, which is none of a put or delete
shut-room : (c : Then-not-w) → let a = c.args in
    (44 ≤ length (drop a.w.at a.l.now)) × (saves_at (drop a.w.at a.l.now) ≡ false)
shut-room c = let a = c in saving-shut a.args.l.now a.args.w a.requires.1 (not-true _ c.if-not-w.true)

-- a unit is open, its begin record stands in the log, and it is none of a put or delete
open-room : (c : Else-not-w) → let a = c.args in
    (a.w.opened ≡ true) × (a.w.begin + 44 ≤ length a.l.now) × (saves_at (drop a.w.begin a.l.now) ≡ false)
open-room c =
    let a = c in
    let h = not-false _ c.if-not-w.false in
    (h, a.requires.0.room h, saving-open a.args.l.now a.args.w false a.requires.1 h)

pub returns-then-w-eq4294967295 : goal.returns-then-w-eq4294967295
returns-then-w-eq4294967295 c = turned-full c.args.l.now _ _ c.lost.ensures c.if-w-eq4294967295.true

pub slice_bounds-begin_turn-count : goal.slice_bounds-begin_turn-count
slice_bounds-begin_turn-count c = omega (arith, c.requires.0.inside)

pub slice_bounds-begin_turn-start : goal.slice_bounds-begin_turn-start
slice_bounds-begin_turn-start c = omega (arith, c.requires.0.inside)

pub begin_turn-requires : goal.begin_turn-requires
begin_turn-requires c =
    let a = c in
    let h = shut-room (goal.at.begin_turn-requires c).Then-not-w in (
      omega arith,
      rw (part_to_end, length-drop) (omega (arith, a.requires.0.inside)),
      rw part_to_end h.0,
      rw part_to_end h.1,
    )

pub returns-then-not-w : goal.returns-then-not-w
returns-then-not-w c = begin-turned c.args.l.now _ _ c.if-not-w.true c.begin_turn.ensures

pub overflow_add-compact : goal.overflow_add-compact
overflow_add-compact c = omega (arith, (open-room (goal.at.overflow_add-compact c).Else-not-w).1)

pub bounds-l-begin : goal.bounds-l-begin
bounds-l-begin c = omega (arith, (open-room (goal.at.bounds-l-begin c).Else-not-w).1)

pub slice_bounds-step_of-count : goal.slice_bounds-step_of-count
slice_bounds-step_of-count c = omega (arith, (open-room (goal.at.slice_bounds-step_of-count c).Else-not-w).1)

pub slice_bounds-step_of-start : goal.slice_bounds-step_of-start
slice_bounds-step_of-start c = omega (arith, (open-room (goal.at.slice_bounds-step_of-start c).Else-not-w).1)

pub step_of-x-requires : goal.step_of-x-requires
step_of-x-requires c =
    let a = c in
    let h = open-room (goal.at.step_of-x-requires c).Else-not-w in (
      rw (part_to_end, length-drop) (omega (arith, h.1)),
      rw part_to_end (a.requires.0.start h.0),
      rw part_to_end h.2,
      rw (part_to_end, get_or-drop a.args.w.begin a.args.l.now 16 0),
    )

pub slice_bounds-step_turn-count : goal.slice_bounds-step_turn-count
slice_bounds-step_turn-count c = omega (arith, c.requires.0.inside)

pub slice_bounds-step_turn-start : goal.slice_bounds-step_turn-start
slice_bounds-step_turn-start c = omega (arith, c.requires.0.inside)

pub step_turn-requires : goal.step_turn-requires
step_turn-requires c =
    let a = c in
    (omega arith, rw (part_to_end, length-drop) (omega (arith, a.requires.0.inside)), a.requires.0.steps)

pub returns : goal.returns
returns c =
    let o = c in
    let a = o in
    step-turned a.args.l.now _ _ o.if-not-w.false false (rw part_to_end (sym (open-room (goal.at.returns c).Else-not-w).2)) refl _ c.step_of-x.ensures c.step_turn.ensures
