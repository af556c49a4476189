-- `unit::apply::least_after` meets its contract. Assumes nothing.
use native.Mathlib.Omega.{arith}
use Rattle.page.proofs.Changes.{pick_takes}
use Rattle.unit.proofs.Applied.{after-none!, after-last! }
use borrow.Author.Rules.{rules}
use Rattle.unit.proofs.apply.least_after.Statement.{statement}
use Rattle.unit.proofs.apply.least_after.Tie as tie

count-requires : tie.Need-count-n-requires
count-requires c κs = (pick_takes _ c.before.requires).whole

cast-n : tie.Need-overflow_cast-n
cast-n c = search rules

returns : tie.Need-returns-then-n-eq0
returns c = search after-none!

sub-row-key : tie.Need-overflow_sub-n
sub-row-key c = search rules

row-key-requires : tie.Need-row_key-requires
row-key-requires c κs = let t = pick_takes _ c.before.before.before.requires in (omega arith, omega (arith, t.whole, t.few), omega arith)

cast-result : tie.Need-overflow_cast-result
cast-result c = search rules

add-result : tie.Need-overflow_add-result
add-result c = search rules

returns-2 : tie.Need-returns
returns-2 c = search after-last!

pub least_after_spec : {M : Type 1} → statement M
least_after_spec =
    tie.close
    (tie.spec
    count-requires
    cast-n
    returns
    sub-row-key
    row-key-requires
    cast-result
    add-result
    returns-2)
