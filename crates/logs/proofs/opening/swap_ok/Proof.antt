-- `logs::opening::swap_ok` meets its contract: each test that fails ends it. Assumes nothing.
use Rattle.logs.proofs.Typed.{swap-few!, swap-many!, swap-leaves!, swap-fill!, swap-rest! }
use borrow.Author.Rules.{rules}
use Rattle.logs.proofs.opening.swap_ok.Statement.{statement}
use Rattle.logs.proofs.opening.swap_ok.Tie as tie

byte-at-requires : tie.Need-byte_at-bases-requires
byte-at-requires c κs = search rules

returns : tie.Need-returns-then-bases-lt1
returns c = search swap-few!

returns-2 : tie.Need-returns-then-bases-gt2
returns-2 c = search swap-many!

byte-at-requires-2 : tie.Need-byte_at-requires
byte-at-requires-2 c κs = search rules

returns-3 : tie.Need-returns-then-byte_at-ne2
returns-3 c = search swap-leaves!

byte-at-requires-3 : tie.Need-byte_at-requires-2
byte-at-requires-3 c κs = search rules

returns-4 : tie.Need-returns-then-byte_at-ne0
returns-4 c = search swap-fill!

get2-requires : tie.Need-get2-requires
get2-requires c κs = search rules

returns-5 : tie.Need-returns
returns-5 c = search swap-rest!

pub swap_ok_spec : {M : Type 1} → statement M
swap_ok_spec =
    tie.close
    (tie.spec
    byte-at-requires
    returns
    returns-2
    byte-at-requires-2
    returns-3
    byte-at-requires-3
    returns-4
    get2-requires
    returns-5)
