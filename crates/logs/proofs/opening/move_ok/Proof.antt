-- `logs::opening::move_ok` meets its contract: each test that fails ends it. Assumes nothing.
use Rattle.logs.proofs.Typed.{move-bases!, move-leaves!, move-fill!, move-dest!, move-rest! }
use borrow.Author.Rules.{rules}
use Rattle.logs.proofs.opening.move_ok.Statement.{statement}
use Rattle.logs.proofs.opening.move_ok.Tie as tie

byte-at-requires : tie.Need-byte_at-requires
byte-at-requires c κs = search rules

returns : tie.Need-returns-then-byte_at-ne1
returns c = search move-bases!

byte-at-requires-2 : tie.Need-byte_at-requires-2
byte-at-requires-2 c κs = search rules

returns-2 : tie.Need-returns-then-byte_at-ne1-2
returns-2 c = search move-leaves!

byte-at-requires-3 : tie.Need-byte_at-requires-3
byte-at-requires-3 c κs = search rules

returns-3 : tie.Need-returns-then-byte_at-ne0
returns-3 c = search move-fill!

on-leaves-requires : tie.Need-on_leaves-requires
on-leaves-requires c κs = search rules

returns-4 : tie.Need-returns-then-not-on_leaves
returns-4 c = search move-dest!

get2-requires : tie.Need-get2-requires
get2-requires c κs = search rules

listed-requires : tie.Need-listed-requires
listed-requires c κs = search rules

returns-5 : tie.Need-returns
returns-5 c = search move-rest!

pub move_ok_spec : {M : Type 1} → statement M
move_ok_spec =
    tie.close
    (tie.spec
    byte-at-requires
    returns
    byte-at-requires-2
    returns-2
    byte-at-requires-3
    returns-3
    on-leaves-requires
    returns-4
    get2-requires
    listed-requires
    returns-5)
