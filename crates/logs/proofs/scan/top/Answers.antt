-- `logs::scan::top` meets its contract. Assumes nothing.
use mathlib.Core.Bool.{not}
use native.Mathlib.Omega.{arith}
use Rattle.logs.specs.Record.{length_of}
use Rattle.logs.specs.Table.{kinds, kind_at}
use mathlib.Core.Path.{◌∙◌, ap}
use Rattle.logs.proofs.Pass.{top-short, top-lost!, top-on, shown-first}
use Rattle.logs.proofs.scan.top.Goals as goal

pub returns-then-l-long : goal.returns-then-l-long
returns-then-l-long c = top-short c.args.l.now _ _ c.lost.ensures c.size_of-long.ensures c.if-l-long.true

pub get4-requires : goal.get4-requires
unfolding length_of kind_at kinds
get4-requires c = omega arith

pub get4-requires-2 : goal.get4-requires-2
unfolding length_of kind_at kinds
get4-requires-2 c = omega arith

pub bounds-l-16 : goal.bounds-l-16
unfolding length_of kind_at kinds
bounds-l-16 c = omega arith

pub get4-key-requires : goal.get4-key-requires
unfolding length_of kind_at kinds
get4-key-requires c = omega arith

pub is_check-requires : goal.is_check-requires
unfolding length_of kind_at kinds
is_check-requires c = omega arith

pub returns-then-not-is_check : goal.returns-then-not-is_check
returns-then-not-is_check c =
    let k = c in
    let key = k in
    let unit = key in
    let number = unit in
    let long = number in
    let l = long.args.l.now in
    top-lost! l _ _ _ _ k.is_check.ensures number.get4.ensures unit.get4-2.ensures key.get4-key.ensures _ c.lost-then-not-is_check.ensures (ap not c.if-not-is_check.true)

pub returns : goal.returns
returns c =
    let k = c in
    let key = k in
    let unit = key in
    let number = unit in
    let long = number in
    let l = long.args.l.now in
    shown-first _ _ _ _ _ _ long.size_of-long.ensures c.number_if.ensures
    ∙ top-on l _ _ _ _ k.is_check.ensures number.get4.ensures unit.get4-2.ensures key.get4-key.ensures (ap not c.if-not-is_check.false)
