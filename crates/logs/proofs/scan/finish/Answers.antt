-- `logs::scan::finish` meets its contract. Assumes nothing.
use mathlib.Core.Bool.{not}
use mathlib.Core.Path.{ap}
use Rattle.logs.proofs.Pass.{finish_off, finish-bad, finish-on}
use Rattle.logs.proofs.scan.finish.Goals as goal

pub returns-then-not-w : goal.returns-then-not-w
returns-then-not-w c =
    let a = c in
    finish_off a.args.l.now a.args.w a.args.e _ c.lost.ensures c.if-not-w.true

pub returns-then-not-zeros_long : goal.returns-then-not-zeros_long
returns-then-not-zeros_long c =
    let a = c in
    finish-bad a.args.l.now a.args.w a.args.e _ c.lost-then-not-zeros_long.ensures _ c.zeros_long.ensures (ap not c.if-not-zeros_long.true)

pub returns : goal.returns
returns c =
    let a = c in
    finish-on a.args.l.now a.args.w a.args.e _ c.if-not-w.false c.zeros_long.ensures (ap not c.if-not-zeros_long.false)
