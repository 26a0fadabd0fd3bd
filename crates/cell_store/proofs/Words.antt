-- The words and lemmas of the crates below that the proofs here use.
pub use Rattle.std.proofs.Common.{◌≡◌, true, false, ℕ, suc, ◌+◌, ◌<◌, ◌≤◌, Bool, cond, List, [], ◌∷◌, ◌++◌, length, take, drop, get_or, set, sym, ap, ap₂, ◌∙◌, arith, zero, refl, inl, inr, ◌-◌, ◌*◌, subst, ◌⊎◌, length-append, ◌≢◌, ◌^◌, map, append_assoc, add-one, rules, min, length-drop}
pub use Rattle.std.specs.Prelude.{Result, Ok, Err, OnOk, OnErr, IfOk, is_err, filter, SomeIndex, nat_lt, ◌==◌, ◌||◌, ◌&&◌, not, Some, None, Option, IfSome, MatchOption, if◌then◌else◌, nat_le, is_some, remove, IfErr, slice_index}
pub use Rattle.std.specs.List.{list_any, list_all, AllByRecursion, Contains}
pub use Rattle.std.specs.Ordering.{is_gt, nat_cmp, is_eq}
pub use Rattle.std.proofs.lemmas.Bool.{cases_Bool, cases_lt, and_parts}
pub use Rattle.std.proofs.lemmas.Bool.Decides.{eqb_tells}
pub use Rattle.std.proofs.lemmas.Grind.{common_steps, same_number_lists, drop_more_same}
pub use Rattle.std.proofs.lemmas.List.{append-nil, get_or-drop, drop-drop, drop-set-lt, length-map, get_or_past, get_or-set_same, get_or-set_other, length-set, get_or-map, take_all, take-map, drop-map, get_or_append_left, length-take, get_or-take, length-take-le, take_more, take_more_set, drop_more, set-get_or, get_or_default, set_split, nil_from_length}
pub use Rattle.std.proofs.lemmas.List.Elements.{filter-append, Contains-get_or}
pub use Rattle.std.proofs.lemmas.List.Folds.{list_any-append}
pub use Rattle.std.proofs.lemmas.Result.{IfOk-weaker, on_ok_weaker, on_err_weaker}
pub use Rattle.book_model.specs.Rows.{in_ranges, without, has_id, Row}
pub use Rattle.book_model.specs.Sums.{numbers_below, sum_below}
pub use Rattle.book_model.proofs.AllLemmas.{all_weaken, all_push, all_both, all_front, all_back, all_at, all_append, all_filter, all_middle, all_by_index, all_passing, all_swap, all_map, all_remove, all_set}
pub use Rattle.book_model.proofs.SumLemmas.{sum_below-same, sum_below-zero}
pub use Rattle.book_model.proofs.FilterLemmas.{filter_yes, filter_no, filter_through, length_filter_le, length_filter_less, filter_same, filter_swap, filter_of_map, filter_all}
pub use Rattle.shape_core.specs.Word.{AreCodeWords, IsCode, code_of_words}
pub use Rattle.code_blocks.specs.Codes.{Coded, AreCodes, IsBlock}
pub use Rattle.cell_store.specs.State.{Kept, is_live, is_held, is_needed, lives_at, rows_at, kept_in, passing_at, IsNextCell, IsDated, Rising, never, Store, live_rows, needed_count, FewPinned, live_is_needed, inserted, put_rows, PinnedStay, Changes, Unpins, used_count, held_in, IsHeldStamp}
pub use Rattle.cell_store.specs.Slots.{slot_is_live, slot_at, AreRising, slot_passes, slot_held, slot_lives, slot_needed_dead}
pub use Rattle.cell_store.specs.Blocks.{CellRows, slot_of, ended, row_at, no_row, rows_of, kept_of}
pub use Rattle.cell_store.specs.Cells.{IsTidied, AreFew, is_needed_dead, rows_for, rows_below, born_cmp, IsKept, Table, all_kept, Ends, AreCells, IsIndex, Replaces, used_in, used_below}
pub use Rattle.cell_store.specs.Tables.{rows_in, IsNewEntry, HasCodes, IsCounted, HasEntry, AreEntries, key_at, under, entry_at, found_in, rows_at_cell, table_of}
pub use Rattle.cell_store.specs.Held.{held_rows, ended_id, is_row_of, IsRow, IsStore, put_cause, put_done, held_count, born_at, deleted, KeepsAs, IsTimed}
pub use Rattle.cell_store.specs.Refusals.{insert_refusal, put_refusal, RefusesAs}
pub use Rattle.cell_store.specs.declared.Slot.{Slot}
pub use Rattle.cell_store.specs.declared.store.Place.{Place}
pub use Rattle.cell_store.specs.declared.rows.Rows.{Rows}
pub use Rattle.cell_store.specs.declared.PutRefusal.{PutRefusal}
pub use Rattle.cell_store.specs.declared.InsertRefusal.{InsertRefusal}
