-- All facts hold: one computation. Assumes nothing.
use lib.Dec.{T}
use Rattle.field.specs.Test.{all}
use Rattle.rows.specs.Rows.{two, four, filled_to, value, recs, en, pg, leaf1, empty_page, empties, upper}
use Rattle.rows.proofs.Computed.{computed}
use Rattle.logs.specs.Scan.{begun}
use Rattle.logs.specs.Source.{source_at}
use Rattle.facts.specs.Facts.{marked, entry_mark, keys_strict, two_entries, tail_zero, not_the_only, modify_long, three, leftmost_zero, counts_written, facts}
use Rattle.facts.specs.Facts.{packs, largest_of_all, end_ends, source_behind, leaf_on, group_full, begin_changes_none, equal_passes}
use Rattle.facts.specs.Facts.{saves_long, counts, full_leaf, splits_even, joins_both, image_with, only_lower, images_bear, delete_bare}

pub facts-hold : T (all facts)
unfolding computed two four filled_to value recs en pg leaf1 empty_page empties upper marked entry_mark keys_strict two_entries tail_zero not_the_only
    modify_long three leftmost_zero counts_written begun source_at packs largest_of_all end_ends source_behind leaf_on group_full begin_changes_none
    equal_passes saves_long counts full_leaf splits_even joins_both image_with only_lower images_bear delete_bare facts
facts-hold = tt
