-- `tree::well::within` meets its contract. Assumes nothing.
use Prim.Native.Nat.{◌+◌, ◌-◌, ◌*◌, ◌≤◌}
use lib.ListN.{length}
use Rattle.page.specs.Page.{count}
use Rattle.tree.proofs.Between.{row_fits, within-first!, within-last! }
use native.Mathlib.Omega.{arith}
use borrow.Author.Rules.{rules}
use Rattle.tree.proofs.well.within.Statement.{statement}
use Rattle.tree.proofs.well.within.Tie as tie

row-key-requires : tie.Need-row_key-requires
row-key-requires c κs = let a = c.before in (a.requires.0.1, row_fits _ (count a.args.pg.now) 0 _ a.requires.0.3 (omega (arith, a.requires.0.2)), a.requires.0.3)

returns : tie.Need-returns-then-row_key-lo
returns c = search within-first!

count-requires : tie.Need-count-requires
count-requires c κs = search rules

cast-last : tie.Need-overflow_cast-last
cast-last c = search rules

sub-last : tie.Need-overflow_sub-last
sub-last c = search rules

row-key-requires-2 : tie.Need-row_key-requires-2
row-key-requires-2 c κs =
    let a = c.before.before.before.before in
    let n = c.count.result in
    let f : 16 + a.args.sz * n ≤ length a.args.pg.now = rw c.count.ensures (omega (arith, a.requires.0.2, a.requires.0.0)) in
    (a.requires.0.1, row_fits a.args.sz n (n - 1) (length a.args.pg.now) (omega arith) f, omega arith)

cast-result : tie.Need-overflow_cast-result
cast-result c = search rules

returns-2 : tie.Need-returns
returns-2 c = search within-last!

pub within_spec : {M : Type 1} → statement M
within_spec =
    tie.close
    (tie.spec
    row-key-requires
    returns
    count-requires
    cast-last
    sub-last
    row-key-requires-2
    cast-result
    returns-2)
