-- `logs::past::brought_in` meets its contract. Assumes nothing.
use Prim.Native.Nat.{◌+◌, ◌<◌}
use native.Mathlib.Omega.{arith}
use mathlib.Core.Path.{◌∙◌}
use Rattle.logs.specs.Record.{length_of}
use Rattle.logs.specs.Table.{kinds, kind_at}
use Rattle.logs.proofs.past.brought_in.Goals as goal

pub went-requires : goal.went-requires
unfolding length_of kind_at kinds
went-requires c =
    let a = c in
    let k : a.args.w.at + c.size_of.result < 18446744073709551616 = omega arith in
    let d : a.args.w.done < a.args.w.at + c.size_of.result = omega arith in
    (a.requires.0, k, d)

pub returns : goal.returns
unfolding kind_at kinds
returns c = c.went.ensures ∙ rw c.size_of.ensures
