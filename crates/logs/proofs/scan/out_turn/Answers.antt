-- `logs::scan::out_turn` meets its contract. Assumes nothing.
use mathlib.Core.Bool.{not}
use mathlib.Core.Path.{ap}
use Rattle.logs.specs.Scan.{stepped}
use Rattle.logs.proofs.Ways.{lost-pick, on-pick, out-room, out-rows}
use Rattle.logs.proofs.scan.out_turn.Goals as goal

pub returns-then-not-is_out : goal.returns-then-not-is_out
unfolding stepped
returns-then-not-is_out c = lost-pick _ _ _ _ c.lost.ensures c.is_out.ensures (ap not c.if-not-is_out.true)

pub taken_out-requires : goal.taken_out-requires
taken_out-requires c =
    let a = c in
    let r = out-room _ a.args.m.now _ (ap not c.if-not-is_out.false) _ _ c.is_out.ensures in
    let o = out-rows _ a.args.m.now _ (ap not c.if-not-is_out.false) _ _ c.is_out.ensures in
    (a.requires.0, a.requires.1, a.requires.2, record { room = r.0; some = o.0; few = r.1; rising = o.1 })

pub returns : goal.returns
unfolding stepped
returns c = on-pick _ _ _ _ c.taken_out.ensures c.is_out.ensures (ap not c.if-not-is_out.false)
