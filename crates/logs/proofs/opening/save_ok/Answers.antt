-- `logs::opening::save_ok` meets its contract: each test that fails ends it. Assumes nothing.
use native.Mathlib.Omega.{arith}
use Rattle.logs.proofs.Typed.{save-type!, save-bases!, save-leaves!, save-fill!, save-dest!, save-rest! }
use Rattle.logs.proofs.opening.save_ok.Goals as goal

pub byte_at-requires : goal.byte_at-requires
byte_at-requires c = omega (arith, c.requires.0.fields)

pub returns-then-byte_at-gt5 : goal.returns-then-byte_at-gt5
returns-then-byte_at-gt5 c = let a = c in search (save-type! a.args.m.now a.requires.1)

pub byte_at-requires-2 : goal.byte_at-requires-2
byte_at-requires-2 c = omega (arith, c.requires.0.fields)

pub returns-then-byte_at-ne0 : goal.returns-then-byte_at-ne0
returns-then-byte_at-ne0 c = let a = c in search (save-bases! a.args.m.now a.requires.1)

pub byte_at-requires-3 : goal.byte_at-requires-3
byte_at-requires-3 c = omega (arith, c.requires.0.fields)

pub returns-then-byte_at-ne0-2 : goal.returns-then-byte_at-ne0-2
returns-then-byte_at-ne0-2 c = let a = c in search (save-leaves! a.args.m.now a.requires.1)

pub byte_at-requires-4 : goal.byte_at-requires-4
byte_at-requires-4 c = omega (arith, c.requires.0.fields)

pub returns-then-byte_at-ne0-3 : goal.returns-then-byte_at-ne0-3
returns-then-byte_at-ne0-3 c = let a = c in search (save-fill! a.args.m.now a.requires.1)

pub get2-requires : goal.get2-requires
get2-requires c = omega (arith, c.requires.0.fields)

pub returns-then-get2-ne0 : goal.returns-then-get2-ne0
returns-then-get2-ne0 c = let a = c in search (save-dest! a.args.m.now a.requires.1)

pub returns : goal.returns
returns c = let a = c in search (save-rest! a.args.m.now a.requires.1)
