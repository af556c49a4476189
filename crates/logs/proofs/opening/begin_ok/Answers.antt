-- `logs::opening::begin_ok` meets its contract: each test that fails ends it. Assumes nothing.
use mathlib.Core.Bool.{not}
use mathlib.Core.Path.{ap}
use Prim.Native.Nat.{◌≤◌}
use native.Mathlib.Omega.{arith}
use lib.ListN.{get_or}
use Rattle.logs.proofs.Begun.{type-counts, begin-type!, begin-bases!, begin-differ!, begin-leaves!, begin-rest! }
use Rattle.logs.proofs.opening.begin_ok.Goals as goal
use Rattle.logs.proofs.opening.begin_ok.Goals.{Else-not-type_ok}

-- the counts are small
few : (c : Else-not-type_ok) → let m = c.args.m.now in (get_or m 18 0 ≤ 2) × (get_or m 19 0 ≤ 8)
few c = type-counts c.args.m.now _ c.type_ok.ensures (ap not c.if-not-type_ok.false)

pub returns-then-not-type_ok : goal.returns-then-not-type_ok
returns-then-not-type_ok c = search begin-type!

pub on_bases-requires : goal.on_bases-requires
on_bases-requires c = omega (arith, few (goal.at.on_bases-requires c).Else-not-type_ok)

pub returns-then-not-on_bases : goal.returns-then-not-on_bases
returns-then-not-on_bases c = search begin-bases!

pub differ-requires : goal.differ-requires
differ-requires c = omega (arith, few (goal.at.differ-requires c).Else-not-type_ok)

pub returns-then-not-differ : goal.returns-then-not-differ
returns-then-not-differ c = search begin-differ!

pub on_leaves-requires : goal.on_leaves-requires
on_leaves-requires c = omega (arith, few (goal.at.on_leaves-requires c).Else-not-type_ok)

pub returns-then-not-on_leaves : goal.returns-then-not-on_leaves
returns-then-not-on_leaves c = search begin-leaves!

pub differ-requires-2 : goal.differ-requires-2
differ-requires-2 c = omega (arith, few (goal.at.differ-requires-2 c).Else-not-type_ok)

pub returns : goal.returns
returns c = search begin-rest!
