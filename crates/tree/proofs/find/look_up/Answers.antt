-- `tree::find::look_up` meets its contract. Assumes nothing.
use Rattle.tree.proofs.Descent.{base-small, leaf-small, root-reply!, root-bytes!, base-reply!, base-bytes!, found-reply!, found-bytes! }
use native.Mathlib.Omega.{arith}
use Rattle.tree.proofs.find.look_up.Goals as goal

pub down-requires-in-To : goal.down-requires-in-To
down-requires-in-To c =
    let a = c in
    let s = base-small a.args.key a.args.w.now a.down.result a.down.ensures _ c.in-To.is in
    (a.requires, omega arith)

pub in_leaf-requires : goal.in_leaf-requires
in_leaf-requires c =
    let d = c in
    let b = d in
    let a = b in
    let start = a in
    let s = leaf-small start.args.key start.args.w.now a.down.result a.down.ensures _ b.in-To.is d.down-in-To.result d.down-in-To.ensures
    _ c.in-To-down.is in
    (start.requires, omega arith, omega arith)

pub returns-in-Refused : goal.returns-in-Refused
returns-in-Refused c = (search root-reply!, search root-bytes!)

pub returns-in-Refused-down : goal.returns-in-Refused-down
returns-in-Refused-down c = (search base-reply!, search base-bytes!)

pub returns-in-To-down : goal.returns-in-To-down
returns-in-To-down c = (search found-reply!, search found-bytes!)
