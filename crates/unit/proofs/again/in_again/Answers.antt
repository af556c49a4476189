-- `unit::again::in_again` meets its contract. Assumes nothing.
use Rattle.unit.proofs.Redone.{rows_long, in_order_lem, in-redone}
use Prim.Native.Nat.{◌+◌}
use native.Mathlib.Omega.{arith}
use borrow.Author.Rules.{rules}
use Rattle.unit.proofs.again.in_again.Goals as goal

pub repeat_in-requires : goal.repeat_in-requires
repeat_in-requires c =
    let a = c in
    let k = c in
    let i = c in record {
      w_len = (search rules, omega arith);
      le_k = (
        omega arith,
        omega arith,
        rows_long a.args.log.now (i.source_at-at.result + 20) k.source_rows-k.result (omega arith),
        in_order_lem a.args.log.now a.args.w _ _ _ i.source_at-at.ensures k.source_rows-k.ensures a.requires.2.4 a.requires.2.5,
      );
    }

pub returns : goal.returns
returns c =
    let a = c in
    let k = c in
    let i = c in
    (λ org. in-redone a.args.log.now a.args.w _ _ _ i.source_at-at.ensures k.source_rows-k.ensures a.requires.2.4 _ _ _ _ org _
    (c.repeat_in.ensures org a.args.back))
