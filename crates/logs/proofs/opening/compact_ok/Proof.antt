-- `logs::opening::compact_ok` meets its contract: each test that fails ends it. Assumes nothing.
use Rattle.logs.proofs.Typed.{compact-bases!, compact-few!, compact-many!, compact-low!, compact-high!, compact-dest!, compact-first!, compact-rest! }
use borrow.Author.Rules.{rules}
use Rattle.logs.proofs.opening.compact_ok.Statement.{statement}
use Rattle.logs.proofs.opening.compact_ok.Tie as tie

byte-at-requires : tie.Need-byte_at-requires
byte-at-requires c κs = search rules

returns : tie.Need-returns-then-byte_at-ne1
returns c = search compact-bases!

byte-at-requires-2 : tie.Need-byte_at-leaves-requires
byte-at-requires-2 c κs = search rules

returns-2 : tie.Need-returns-then-leaves-lt2
returns-2 c = search compact-few!

returns-3 : tie.Need-returns-then-leaves-gt8
returns-3 c = search compact-many!

byte-at-requires-3 : tie.Need-byte_at-fill-requires
byte-at-requires-3 c κs = search rules

returns-4 : tie.Need-returns-then-fill-lt1
returns-4 c = search compact-low!

returns-5 : tie.Need-returns-then-fill-gt15
returns-5 c = search compact-high!

on-leaves-requires : tie.Need-on_leaves-requires
on-leaves-requires c κs = search rules

returns-6 : tie.Need-returns-then-not-on_leaves
returns-6 c = search compact-dest!

get2-requires : tie.Need-get2-requires
get2-requires c κs = search rules

get2-requires-2 : tie.Need-get2-requires-2
get2-requires-2 c κs = search rules

returns-7 : tie.Need-returns-then-dest-get2
returns-7 c = search compact-first!

listed-requires : tie.Need-listed-requires
listed-requires c κs = search rules

returns-8 : tie.Need-returns
returns-8 c = search compact-rest!

pub compact_ok_spec : {M : Type 1} → statement M
compact_ok_spec =
    tie.close
    (tie.spec
    byte-at-requires
    returns
    byte-at-requires-2
    returns-2
    returns-3
    byte-at-requires-3
    returns-4
    returns-5
    on-leaves-requires
    returns-6
    get2-requires
    get2-requires-2
    returns-7
    listed-requires
    returns-8)
