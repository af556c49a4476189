-- `page::form::is_leaf` meets its contract: records, at least one. Assumes nothing.
use mathlib.Core.Bool.{not}
use mathlib.Core.Path.{ap}
use Rattle.page.specs.Page.{is_leaf}
use Rattle.page.proofs.Tests.{head-whole, head-most, kind-head!, kind-body! }
use Rattle.page.proofs.form.is_leaf.Goals as goal

pub returns-then-not-head_ok : goal.returns-then-not-head_ok
unfolding is_leaf
returns-then-not-head_ok c = let a = c in kind-head! 108 16 114 99 1 15 a.args.pg.now _ c.head_ok.ensures (ap not c.if-not-head_ok.true)

pub records_ok-requires : goal.records_ok-requires
records_ok-requires c =
    let a = c in
    (head-whole 108 1 15 a.args.pg.now _ c.head_ok.ensures (ap not c.if-not-head_ok.false), head-most 108 1 15 a.args.pg.now _ c.head_ok.ensures (ap not c.if-not-head_ok.false))

pub returns : goal.returns
unfolding is_leaf
returns c =
    let a = c in
    kind-body! 108 16 114 99 1 15 a.args.pg.now _ c.head_ok.ensures (ap not c.if-not-head_ok.false) _ c.records_ok.ensures
