-- `logs::writing::put_mark` meets its contract. Assumes nothing.
use native.Mathlib.Omega.{arith}
use lib.ListN.{length-set}
use Rattle.field.proofs.Number.{set2}
use borrow.Author.Rules.{rules}
use Rattle.logs.proofs.writing.put_mark.Statement.{statement}
use Rattle.logs.proofs.writing.put_mark.Tie as tie

lead-requires : tie.Need-lead-first-requires
lead-requires c κs = search rules

sign-requires : tie.Need-sign-second-requires
sign-requires c κs = search rules

slice-write-s : tie.Need-bounds-s-at
slice-write-s c = search rules

add-s : tie.Need-overflow_add-s
add-s c = search rules

slice-write-s-2 : tie.Need-bounds-s-at-2
slice-write-s-2 c = simp length-set (omega arith)

same_length : tie.Need-shape_of-s
same_length c = simp length-set

returns : tie.Need-returns
returns c =
    let a = c.before.before.before in
    rw (c.before.lead-first.ensures, c.sign-second.ensures) (set2 a.args.s.now a.args.at _ _ a.requires.1)

pub put_mark_spec : {M : Type 1} → statement M
put_mark_spec =
    tie.close (tie.spec lead-requires sign-requires slice-write-s add-s slice-write-s-2 same_length returns)
