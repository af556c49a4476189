-- `unit::room::closes` meets its contract. Assumes nothing.
use Rattle.unit.proofs.Rooms.{close-out!, close-in!, close-point!, close-end! }
use borrow.Author.Rules.{rules}
use Rattle.unit.proofs.room.closes.Statement.{statement}
use Rattle.unit.proofs.room.closes.Tie as tie

enum_told : tie.Need-enum_told-1
enum_told c = search rules

enum-told-2 : tie.Need-enum_told-in-In
enum-told-2 c = search rules

enum-told-3 : tie.Need-enum_told-in-Point
enum-told-3 c = search rules

enum-told-4 : tie.Need-enum_told-in-Close
enum-told-4 c = search rules

returns : tie.Need-returns-in-Out
returns c = search close-out!

returns-2 : tie.Need-returns-in-In
returns-2 c = search close-in!

returns-3 : tie.Need-returns-in-Point
returns-3 c = search close-point!

returns-4 : tie.Need-returns-in-Close
returns-4 c = search close-end!

pub closes_spec : {M : Type 1} → statement M
closes_spec =
    tie.close
    (tie.spec enum_told enum-told-2 enum-told-3 enum-told-4 returns returns-2 returns-3 returns-4)
