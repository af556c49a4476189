-- `logs::past::taken_out` meets its contract. Assumes nothing.
use Prim.Native.Nat.{◌+◌, ◌<◌}
use native.Mathlib.Omega.{arith}
use mathlib.Core.Path.{◌∙◌}
use Rattle.logs.specs.Record.{length_of}
use Rattle.logs.specs.Table.{kinds, kind_at}
use Rattle.logs.proofs.past.taken_out.Goals as goal

pub get2-k-requires : goal.get2-k-requires
get2-k-requires c = omega (arith, c.requires.3.room)

pub largest_key-moved-requires : goal.largest_key-moved-requires
unfolding length_of kind_at kinds
largest_key-moved-requires c =
    let p = c.requires.3 in
    (omega (arith, p.room), omega (arith, p.some), rw (c.size_of.ensures, c.get2-k.ensures) p.rising)

pub size_of-requires-2 : goal.size_of-requires-2
size_of-requires-2 c = omega (arith, c.requires.3.few)

pub went-requires : goal.went-requires
unfolding length_of kind_at kinds
went-requires c =
    let a = c in
    let k : a.args.w.at + c.size_of-2.result < 18446744073709551616 = omega (arith, a.requires.3.room) in
    let d : a.args.w.done < a.args.w.at + c.size_of-2.result = omega arith in
    (a.requires.0, k, d)

pub returns : goal.returns
unfolding length_of kind_at kinds
returns c =
    let k = c in
    c.went.ensures ∙ rw (c.size_of-2.ensures, c.largest_key-moved.ensures, k.size_of.ensures, k.get2-k.ensures)
