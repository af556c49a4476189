-- `page::form::is_empty` meets its contract: no rows. Assumes nothing.
use mathlib.Core.Bool.{not}
use mathlib.Core.Path.{ap}
use native.Mathlib.Omega.{arith}
use Rattle.page.specs.Page.{is_empty}
use Rattle.page.proofs.Tests.{head-whole, head-most, kind-head!, kind-body! }
use Rattle.page.proofs.form.is_empty.Goals as goal

pub returns-then-not-head_ok : goal.returns-then-not-head_ok
unfolding is_empty
returns-then-not-head_ok c = let a = c in kind-head! 101 16 114 99 0 0 a.args.pg.now _ c.head_ok.ensures (ap not c.if-not-head_ok.true)

pub records_ok-requires : goal.records_ok-requires
records_ok-requires c =
    let a = c in
    (head-whole 101 0 0 a.args.pg.now _ c.head_ok.ensures (ap not c.if-not-head_ok.false), omega (arith, head-most 101 0 0 a.args.pg.now _ c.head_ok.ensures (ap not c.if-not-head_ok.false)))

pub returns : goal.returns
unfolding is_empty
returns c =
    let a = c in
    kind-body! 101 16 114 99 0 0 a.args.pg.now _ c.head_ok.ensures (ap not c.if-not-head_ok.false) _ c.records_ok.ensures
