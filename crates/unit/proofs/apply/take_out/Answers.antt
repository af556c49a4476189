-- `unit::apply::take_out` meets its contract. Assumes nothing.
use mathlib.Core.Bool.{not}
use mathlib.Core.Path.{ap}
use Rattle.unit.proofs.Applied.{out-leaf, out-no, out-done}
use borrow.Author.Rules.{rules}
use Rattle.unit.proofs.apply.take_out.Goals as goal

pub returns-then-not-holds : goal.returns-then-not-holds
returns-then-not-holds c = search out-no

pub take_all-requires : goal.take_all-requires
take_all-requires c = (search rules, search rules, search out-leaf)

pub returns : goal.returns
returns c =
    let m = c in
    let e = m in
    let t = e in
    let a = t in
    out-done a.args.w.now a.args.org.0 a.args.n.0 a.args.k a.args.rs.now a.requires.2 t.holds.result t.holds.ensures
    (ap not e.if-not-holds.false) _ m.take_all.ensures
