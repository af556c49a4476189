-- `logs::scan::saving_turn` meets its contract: an LB where no unit is open, else a record of the put or delete. Assumes nothing.
use native.Mathlib.Omega.{arith}
use mathlib.Core.Path.{◌≡◌, refl, sym}
use mathlib.Core.Bool.{true}
use lib.ListN.{drop, length-drop}
use borrow.Author.Tests.{not-true, not-false}
use borrow.Author.Rules.{part_to_end}
use Rattle.logs.specs.Log.{saves_at}
use Rattle.logs.proofs.Ways.{turned-full, begin-turned, save-turned}
use Rattle.logs.proofs.Tidies.{saving-open, saving-begun}
use Rattle.logs.proofs.scan.saving_turn.Goals as goal
use Rattle.logs.proofs.scan.saving_turn.Goals.{Else-not-w}

-- a put or delete is open
opened : (c : Else-not-w) → let a = c.args in (a.w.opened ≡ true) × (saves_at (drop a.w.begin a.l.now) ≡ true)
opened c =
    let a = c in
    let h = not-false _ c.if-not-w.false in
    (h, saving-open a.args.l.now a.args.w true a.requires.1 h)

pub returns-then-w-eq4294967295 : goal.returns-then-w-eq4294967295
returns-then-w-eq4294967295 c = turned-full c.args.l.now _ _ c.lost.ensures c.if-w-eq4294967295.true

pub slice_bounds-save_begun-count : goal.slice_bounds-save_begun-count
slice_bounds-save_begun-count c = omega (arith, c.requires.0.inside)

pub slice_bounds-save_begun-start : goal.slice_bounds-save_begun-start
slice_bounds-save_begun-start c = omega (arith, c.requires.0.inside)

pub save_begun-requires : goal.save_begun-requires
save_begun-requires c =
    let a = c in (
      omega arith,
      rw (part_to_end, length-drop) (omega (arith, a.requires.0.inside)),
      rw part_to_end (saving-begun a.args.l.now a.args.w a.requires.1 (not-true _ c.if-not-w.true)),
    )

pub returns-then-not-w : goal.returns-then-not-w
returns-then-not-w c = begin-turned c.args.l.now _ _ c.if-not-w.true c.save_begun.ensures

pub save_turn-requires : goal.save_turn-requires
save_turn-requires c =
    let a = c in
    let h = opened (goal.at.save_turn-requires c).Else-not-w in
    (record { inside = a.requires.0.inside; small = omega arith; laid = a.requires.0.saving h.0 h.1 }, omega arith)

pub returns : goal.returns
returns c =
    let o = c in
    let a = o in
    save-turned a.args.l.now _ _ o.if-not-w.false true (rw part_to_end (sym (opened (goal.at.returns c).Else-not-w).1)) refl c.save_turn.ensures
