-- The rows of document 01 that are marked P hold: one computation. Assumes nothing.
use lib.Dec.{T}
use Rattle.field.specs.Test.{all}
use Rattle.rows.proofs.Computed.{computed}
use Rattle.rows.specs.Rows.{two, four, filled_to, value, recs, en, pg, leaf1, leaf2, empty_page, empties, upper, hd, lc, lb, lo, li, lm}
use Rattle.rows.specs.Rows.{le, log_of, is_left, replies, steps, has_steps, lk_is, all_found, nothing, six, one, work1, row1, begun2, two2}
use Rattle.rows.specs.Rows.{records2, work2, log2, row2, begun3, records3, work3, row3, row4, begun5, five, records5, work5, row5}
use Rattle.rows.specs.Rows.{unforced, forced6, flushed, work6, log6, row6, cut, seven, row7, work8, begun8, records8, swapped, row8}
use Rattle.rows.specs.Rows.{work9, begun9, records9, packed, row9, none10, work10, unchanged, listed10, row10, numbers_to_try}

pub rows-hold : T (all numbers_to_try)
unfolding computed two four filled_to value recs en pg leaf1 leaf2 empty_page empties upper hd lc lb lo li lm le log_of is_left replies steps
    has_steps lk_is all_found nothing six one work1 row1 begun2 two2 records2 work2 log2 row2 begun3 records3 work3 row3 row4 begun5 five
    records5 work5 row5 unforced forced6 flushed work6 log6 row6 cut seven row7 work8 begun8 records8 swapped row8 work9 begun9 records9
    packed row9 none10 work10 unchanged listed10 row10 numbers_to_try
rows-hold = tt
