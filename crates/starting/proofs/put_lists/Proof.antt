-- `starting::put_lists` meets its contract: the lists are lent as far as they are filled. Assumes nothing.
use native.Mathlib.Omega.{arith}
use lib.ListN.{length-take}
use Rattle.logs.specs.Write.{begin_of}
use Rattle.starting.specs.Begins.{record_of}
use borrow.Author.Rules.{rules}
use Rattle.starting.proofs.put_lists.Statement.{statement}
use Rattle.starting.proofs.put_lists.Tie as tie

cast-i : tie.Need-overflow_cast-i
cast-i c = search rules

cast-j : tie.Need-overflow_cast-j
cast-j c = search rules

array-share-prefix-bases : tie.Need-slice_bounds-bases-end
array-share-prefix-bases c = search rules

slice-aggregate-put-begin : tie.Need-slice_bounds-put_begin-end
slice-aggregate-put-begin c = rw length-take (omega arith)

array-share-prefix-leaves : tie.Need-slice_bounds-leaves-end
array-share-prefix-leaves c = search rules

slice-aggregate-put-begin-2 : tie.Need-slice_bounds-put_begin-end-2
slice-aggregate-put-begin-2 c = rw length-take (omega arith)

put-begin-requires : tie.Need-put_begin-requires
put-begin-requires c κs = (rw length-take (omega arith), rw length-take (omega arith), omega arith)

same_length : tie.Need-shape_of-s
same_length c = search rules

returns : tie.Need-returns
unfolding record_of begin_of
returns c =
    let a = c.before.before.before.before.before.before.before.before.before.before in
    rw (← a.requires.2, ← a.requires.3) c.before.before.put_begin.ensures

pub put_lists_spec : {M : Type 1} → statement M
put_lists_spec =
    tie.close
    (tie.spec
    cast-i
    cast-j
    array-share-prefix-bases
    slice-aggregate-put-begin
    array-share-prefix-leaves
    slice-aggregate-put-begin-2
    put-begin-requires
    same_length
    returns)
