-- `page::form::is_root` meets its contract: entries, to base pages. Assumes nothing.
use mathlib.Core.Bool.{not}
use mathlib.Core.Path.{ap}
use native.Mathlib.Omega.{arith}
use Rattle.page.specs.Page.{first_base, last_base, is_root}
use Rattle.page.proofs.Tests.{head-whole, head-most, points-head!, points-body! }
use Rattle.page.proofs.form.is_root.Goals as goal

pub returns-then-not-head_ok : goal.returns-then-not-head_ok
unfolding is_root
returns-then-not-head_ok c = let a = c in points-head! 114 8 101 110 0 30 a.args.pg.now _ c.head_ok.ensures first_base last_base (ap not c.if-not-head_ok.true)

pub entries_ok-requires : goal.entries_ok-requires
entries_ok-requires c =
    let pg = c.args.pg.now in
    let h = c.head_ok.ensures in
    (head-whole 114 0 30 pg _ h (ap not c.if-not-head_ok.false), head-most 114 0 30 pg _ h (ap not c.if-not-head_ok.false), omega arith, omega arith)

pub returns : goal.returns
unfolding is_root
returns c =
    let a = c in
    points-body! 114 8 101 110 0 30 a.args.pg.now _ c.head_ok.ensures first_base last_base (ap not c.if-not-head_ok.false) _ c.entries_ok.ensures
