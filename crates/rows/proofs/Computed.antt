-- Every definition that the calls are made of, under one name, so that a claim that computes them says `unfolding computed`.
-- Assumes nothing.
use Prim.Native.Nat.{ℕ}
use Rattle.field.specs.Test.{both, all, pick, need, given, when, bind, there}
use Rattle.field.specs.Bytes.{part, put, zeroes, all_zero, same, starts, le2, le4, bytes2, bytes4}
use Rattle.page.specs.Page.{rows_of, joined, key_of, to_page, value_of, entry, ascend, pointing, letter, count, number, spare, rows, made, shaped, is_root, is_base, is_leaf, is_empty, formed}
use Rattle.page.specs.Change.{emptied, above, appended, is_entry, has, point_to, without, redirected, removed}
use Rattle.page.specs.Pages.{page, put_page, pages, all_formed}
use Rattle.page.specs.Places.{leaf_page, empty_leaf, place, base_place}
use Rattle.logs.specs.Record.{length_of, saves, kind_of, carried, outs, size, sizes, header, fields, lk_bytes, encode_check, new_key, body, previous, encode, encode_all}
use Rattle.logs.specs.Write.{begin_of, save_of}
use Rattle.logs.specs.Plan.{gather, removals, others, replacing, compact_plan, move_plan, swap_plan, plan}
use Rattle.logs.specs.Log.{first, largest, largest_moved, lk_ended, going, noting, opened_by, lk_by, unit_by, after, after_all, within, listed, differ}
use Rattle.logs.specs.Log.{compact_ok, swap_ok, move_ok, carries_ok, save_ok, type_ok, begin_ok, read_fields, saves_at, read_begin, taken, planned, planned_first}
use Rattle.logs.specs.Log.{images_of, past, all_bear, read_image, follows, imaged, expected, read_rec}
use Rattle.logs.specs.Log.{read_recs, read_check, read_log, at_end, encode_log, ending_at, last_forced}
use Rattle.tree.specs.Tree.{under, root_entries, below, base_entries, all_records, pointers, pointed_once, starts_at_zero, headed, lower, keys_between}
use Rattle.tree.specs.Tree.{keys_kept, well_formed, leaf_at, leaves_under, leaves_below, leaves_of}
use Rattle.tree.specs.Answer.{last_not_above, record_with, readable, in_leaf, down, look_up, between, room_for, in_bounds, written, count_written, more_remain}
use Rattle.tree.specs.Layout.{groups, entries_to, from_zero, fresh, filled, leaf_groups, base_groups, layout}
use Rattle.unit.specs.Choice.{fill_of, exceeds, joining, group, lowest_empty, compact_of, larger, choose_compact, compact_unit, base_of, one_or_two, move_of, swap_of, put_in_order, choose_order, order_unit}
use Rattle.unit.specs.Next.{places_of, targets, image_at, change, change_again, changed_at, apply, repeat, repeat_all}
use Rattle.unit.specs.Next.{target_of, page_of, key_before, is_other, lowest_to, skipped, next_rec, step_size, room}
use Rattle.saving.specs.Save.{lesser, greater, with_record, without_key, before, through, behind, drawn, insert, in_order, free_leaf, put_first, split_leaf, put_into}
use Rattle.saving.specs.Save.{base_for, leaf_for, put_sheets, lowered, closed, unite, right_lowered, empty_out, delete_from, delete_sheets}
use Rattle.saving.specs.Rest.{image_of, sheets_of, begins, logging, imaging, saving, resumed}
use Rattle.store.specs.Calls.{refused, pages_sized, log_sized, three_sized, two_sized, known, new_log, build, and_then, did_of, append, append_all}
use Rattle.store.specs.Calls.{conclude, rest_long, lacked_by, formed_at}
use Rattle.store.specs.Calls.{step_with, step_open, stepped, step, zeroed, none_newer, finish, finish_open, recovered, recover, begun_with, begun, begin_with}
use Rattle.store.specs.Calls.{begin_compact, begin_order, deleting, saving_all, begin_save, begin_put, begin_delete}
use Rattle.store.specs.Calls.{flush, force, checkpointed, checkpoint, answered, find, list}

unfoldable pub computed : ℕ
unfolding both all pick need given when bind there part put zeroes all_zero same starts le2 le4 bytes2 bytes4 rows_of joined key_of to_page
    value_of entry ascend pointing letter count number spare rows made shaped is_root is_base is_leaf is_empty formed emptied above appended
    is_entry has point_to without redirected removed page put_page pages all_formed leaf_page empty_leaf place base_place length_of saves kind_of
    carried outs size sizes header fields lk_bytes encode_check new_key body previous encode encode_all begin_of save_of gather removals others
    replacing compact_plan move_plan swap_plan plan first largest largest_moved lk_ended going noting opened_by lk_by unit_by after after_all within
    listed differ compact_ok swap_ok move_ok carries_ok save_ok type_ok begin_ok read_fields saves_at read_begin taken planned planned_first images_of
    past all_bear read_image follows imaged expected read_rec read_recs read_check read_log at_end encode_log ending_at last_forced under root_entries
    below base_entries all_records pointers pointed_once starts_at_zero headed lower keys_between keys_kept well_formed leaf_at leaves_under
    leaves_below leaves_of last_not_above record_with readable in_leaf down look_up between room_for in_bounds written count_written more_remain groups
    entries_to from_zero fresh filled leaf_groups base_groups layout fill_of exceeds joining group lowest_empty compact_of larger choose_compact
    compact_unit base_of one_or_two move_of swap_of put_in_order choose_order order_unit places_of targets image_at change change_again changed_at apply
    repeat repeat_all target_of page_of key_before is_other lowest_to skipped next_rec step_size room lesser greater with_record without_key before
    through behind drawn insert in_order free_leaf put_first split_leaf put_into base_for leaf_for put_sheets lowered closed unite right_lowered
    empty_out delete_from delete_sheets image_of sheets_of begins logging imaging saving resumed refused pages_sized log_sized three_sized two_sized
    known new_log build and_then did_of append append_all conclude rest_long lacked_by formed_at step_with step_open stepped step zeroed
    none_newer finish finish_open recovered recover begun_with begun begin_with begin_compact begin_order deleting saving_all begin_save begin_put
    begin_delete flush force checkpointed checkpoint answered find list
computed = 0
