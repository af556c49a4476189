-- `logs::steps::compact_step` meets its contract. Assumes nothing.
use native.Mathlib.Omega.{arith}
use Rattle.logs.specs.Steps.{step_of}
use Rattle.logs.proofs.Placed.{Compacts, is-compact, gathered!, replaced!, removed!, closed! }
use Rattle.logs.proofs.steps.compact_step.Goals as goal
use Rattle.logs.proofs.steps.compact_step.Goals.{After-skipped-skip}

-- the record is a compact's: how many leaves it lists
lists : (c : After-skipped-skip) → Compacts c.args.m.now
lists c = let a = c in is-compact a.args.m.now a.args.unit.0 a.requires.1 a.requires.2

pub overflow_sub-pairs : goal.overflow_sub-pairs
overflow_sub-pairs c = let x = lists (goal.at.overflow_sub-pairs c).After-skipped-skip in omega (arith, x.few, x.many)

pub get2-requires-then-i-pairs : goal.get2-requires-then-i-pairs
get2-requires-then-i-pairs c = let x = lists (goal.at.get2-requires-then-i-pairs c).After-skipped-skip in omega (arith, x.few, x.many)

pub returns-then-i-pairs : goal.returns-then-i-pairs
returns-then-i-pairs c =
    let k = c in
    let a = k in
    search (gathered! a.args.m.now a.args.unit.0 a.args.i (lists (goal.at.returns-then-i-pairs c).After-skipped-skip))

pub overflow_add-j : goal.overflow_add-j
overflow_add-j c = let x = lists (goal.at.overflow_add-j c).After-skipped-skip in omega (arith, x.few, x.many)

pub returns-then-j-eq0 : goal.returns-then-j-eq0
unfolding step_of
returns-then-j-eq0 c =
    let k = c in
    let a = k in
    search (replaced! a.args.m.now a.args.unit.0 a.args.i (lists (goal.at.returns-then-j-eq0 c).After-skipped-skip))

pub get2-requires-then-j-leaves : goal.get2-requires-then-j-leaves
get2-requires-then-j-leaves c = let x = lists (goal.at.get2-requires-then-j-leaves c).After-skipped-skip in omega (arith, x.few, x.many)

pub returns-then-j-leaves : goal.returns-then-j-leaves
unfolding step_of
returns-then-j-leaves c =
    let k = c in
    let a = k in
    search (removed! a.args.m.now a.args.unit.0 a.args.i (lists (goal.at.returns-then-j-leaves c).After-skipped-skip))

pub returns : goal.returns
unfolding step_of
returns c =
    let k = c in
    let a = k in
    search (closed! a.args.m.now a.args.unit.0 a.args.i (lists (goal.at.returns c).After-skipped-skip))
