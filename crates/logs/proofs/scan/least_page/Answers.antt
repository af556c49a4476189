-- `logs::scan::least_page` meets its contract. Assumes nothing.
use native.Mathlib.Omega.{arith}
use Rattle.logs.specs.Record.{length_of}
use Rattle.logs.specs.Table.{kinds, kind_at}
use Rattle.logs.proofs.Images.{least-none, least-some}
use Rattle.logs.proofs.scan.least_page.Goals as goal

pub returns-then-w-eq0 : goal.returns-then-w-eq0
returns-then-w-eq0 c = least-none c.args.l.now _ c.if-w-eq0.true

pub overflow_sub-w : goal.overflow_sub-w
unfolding length_of kind_at kinds
overflow_sub-w c = omega (arith, c.size_of.ensures, c.requires.laid, c.if-w-eq0.false)

pub overflow_add-w : goal.overflow_add-w
unfolding length_of kind_at kinds
overflow_add-w c = omega (arith, c.size_of.ensures, c.requires.laid, c.requires.inside, c.requires.small, c.if-w-eq0.false)

pub get2-requires : goal.get2-requires
unfolding length_of kind_at kinds
get2-requires c = omega (arith, c.size_of.ensures, c.requires.laid, c.requires.inside, c.if-w-eq0.false)

pub returns : goal.returns
returns c = least-some c.args.l.now _ c.if-w-eq0.false c.requires _ _ c.size_of.ensures c.get2.ensures
