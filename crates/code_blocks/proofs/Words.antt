-- The words and lemmas of the crates below that the proofs here use.
pub use Rattle.std.proofs.Common.{refl, ap, sym, ◌∙◌, length, [], ◌≡◌, rules, subst, replicate, List, ℕ, ◌≢◌, ◌<◌, get_or, arith, inl, inr, ◌+◌, ◌*◌, ◌/◌, ◌%◌, ◌-◌, ◌≤◌, ◌++◌, set, take, drop, mul_comm, length-append}
pub use Rattle.std.specs.Prelude.{slice_index_or, slice_set, slice_index, sum, slice_range}
pub use Rattle.std.proofs.lemmas.Bool.{cases_lt}
pub use Rattle.std.proofs.lemmas.Bool.Decides.{eqb_tells}
pub use Rattle.std.proofs.lemmas.Grind.{div_ceil_times, get_or-set_at}
pub use Rattle.std.proofs.lemmas.List.{with_items_is, length-map, get_or-map, get_or-set_same, get_or-set_other, length-set, get_or-replicate, ext_get_or, length-replicate, get_or_append_left, get_or-append_right, get_or-take, get_or-drop, length-take, length-drop, take-take}
pub use Rattle.std.proofs.lemmas.List.Edits.{get_or-between, length-between}
pub use Rattle.std.proofs.lemmas.List.FromFn.{length-map-range_with_len, get_or-map-range_with_len, fill_by_all}
pub use Rattle.std.proofs.lemmas.Nat.{pow_pos, mul-add-lt, mul-le}
pub use Rattle.std.proofs.Math.Seq.{take-append_seam}
pub use Rattle.book_model.proofs.AllLemmas.{all_at, all_same, all_take, all_drop, all_append}
pub use Rattle.shape_core.specs.Word.{AreCodeWords, IsWord}
pub use Rattle.code_blocks.specs.Codes.{code_at, word_count, codes_of, AreLanes, PutsCode, code_in, IsStretch, IsBlock, PutsIn, AreCodes, Coded, codes_in, zero_codes}
