-- `unit::apply::takes` meets its contract. Assumes nothing.
use native.Mathlib.Omega.{arith}
use Prim.Native.Nat.{◌≤◌}
use Rattle.unit.proofs.Applied.{takes-page!, takes-open, takes_whole, takes-few, takes-room!, takes-keys! }
use borrow.Author.Rules.{rules}
use Rattle.unit.proofs.apply.takes.Statement.{statement}
use Rattle.unit.proofs.apply.takes.Tie as tie

open-to-requires : tie.Need-open_to-requires
open-to-requires c κs = search rules

returns : tie.Need-returns-then-not-open_to
returns c = search takes-page!

count-requires : tie.Need-count-requires
count-requires c κs = search takes_whole

add-if2 : tie.Need-overflow_add-count
add-if2 c = let f : c.count.result ≤ 15 = search takes-few in omega arith

returns-2 : tie.Need-returns-then-count-k-gt15
returns-2 c = search takes-room!

least-after-requires : tie.Need-least_after-requires
least-after-requires c κs = search takes-open

get4-requires : tie.Need-get4-requires
get4-requires c κs = search rules

cast-result : tie.Need-overflow_cast-result
cast-result c = search rules

returns-3 : tie.Need-returns
returns-3 c = search takes-keys!

pub takes_spec : {M : Type 1} → statement M
takes_spec =
    tie.close
    (tie.spec
    open-to-requires
    returns
    count-requires
    add-if2
    returns-2
    least-after-requires
    get4-requires
    cast-result
    returns-3)
