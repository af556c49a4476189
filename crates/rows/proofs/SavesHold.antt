-- What puts and deletes are expected to leave of the rows' trees holds: one computation. Assumes nothing.
use lib.Dec.{T}
use Rattle.field.specs.Test.{all}
use Rattle.rows.proofs.Computed.{computed}
use Rattle.rows.specs.Rows.{two, four, filled_to, value, recs, en, pg, leaf1, leaf2, empty_page, empties, upper, hd, lc, le, log_of, is_left, replies}
use Rattle.rows.specs.Rows.{steps, has_steps, all_found, work1, work8, work10}
use Rattle.rows.specs.Saves.{lb_with, lg, begun_put, leaf_put, start_put, rest_put, log_put, work_put, put_adds, woken_put, put_finished, begun_first, root_first}
use Rattle.rows.specs.Saves.{base_first, log_first, work_first, first_saved, begun_delete, base_delete, log_delete, work_delete, delete_empties, saves_to_try}

pub saves-hold : T (all saves_to_try)
unfolding computed two four filled_to value recs en pg leaf1 leaf2 empty_page empties upper hd lc le log_of is_left replies steps has_steps
    all_found work1 work8 work10 lb_with lg begun_put leaf_put start_put rest_put log_put work_put put_adds woken_put put_finished begun_first root_first
    base_first log_first work_first first_saved begun_delete base_delete log_delete work_delete delete_empties saves_to_try
saves-hold = tt
