-- The entries that the words of a code pick.
use Rattle.std.proofs.Common.{◌≡◌, ℕ, ◌+◌, ◌*◌, ◌/◌, ◌^◌, ◌<◌, ◌≤◌, List, [], length, get_or, drop, sym, ap, ap₂, ◌∙◌, subst, arith}
use Rattle.std.proofs.Math.Nat.{mod-lt}
use Rattle.std.proofs.lemmas.Nat.{pow_pos, mul-le}
use Rattle.std.proofs.lemmas.List.{get_or-drop, get_or-take}
use Rattle.std.proofs.lemmas.List.FromFn.{get_or-map-range_with_len, length-map-range_with_len}
use Rattle.book_model.specs.Sums.{sum_below}
use Rattle.book_model.specs.Bound.{table_at, picked_sum}
use Rattle.shape_core.specs.Word.{field_of, code_of_words}
use Rattle.book_model.proofs.SumLemmas.{sum_below-same, sum_below-split}
use Rattle.shape_core.proofs.Codes.{get_or-code_of_words}
use Rattle.adc_tables.specs.Full.{table_size, table_start, table_in, tables_in, entry_of_field}
use Rattle.adc_tables.proofs.Starts.{size_of_field, start_of_field}

module _ (widths : List ℕ) (n : ℕ) (entries : List ℕ) where
  pub length-tables_in : length (tables_in widths n entries) ≡ n
  unfolding tables_in
  length-tables_in = length-map-range_with_len (table_in widths entries) 0 n

  pub table_at-tables_in : (j : ℕ) → j < n → table_at (tables_in widths n entries) j ≡ table_in widths entries j
  unfolding tables_in
  table_at-tables_in j lt = get_or-map-range_with_len (table_in widths entries) 0 n j j [] lt (omega arith)

  -- what place j of a code picks
  abbrev pub pick : List ℕ → ℕ → ℕ
  pick words j = get_or (table_at (tables_in widths n entries) j) (get_or (code_of_words widths words) j 0) 0

  field_small : (word f : ℕ) → field_of widths word f < 2 ^ get_or widths f 0
  field_small word f = mod-lt (word / 2 ^ _) (pow_pos (get_or widths f 0))

  pick_is : (words : List ℕ) (w f at : ℕ) → w < length words → f < length widths → w * length widths + f < n → at ≡ table_start widths (w * length widths)
      → pick words (w * length widths + f) ≡ entry_of_field widths entries at (get_or words w 0) f
  pick_is words w f at lt field within start =
      let j : ℕ = w * length widths + f in
      let c : ℕ = field_of widths (get_or words w 0) f in
      let there : c < table_size widths j = subst (λ m. c < m) (sym (size_of_field widths w f field)) (field_small (get_or words w 0) f) in
      let place : table_start widths j + c ≡ at + table_start widths f + c = omega (arith, start_of_field widths w f (omega arith), start) in
      ap₂ (λ t i. get_or t i 0) (table_at-tables_in j within) (get_or-code_of_words widths words w f lt field)
      ∙ get_or-take (table_size widths j) (drop (table_start widths j) entries) c 0 there ∙ get_or-drop (table_start widths j) entries c 0 ∙ ap (λ i. get_or entries i 0) place

  -- one more word of a code
  pub word_more : (words : List ℕ) (w at : ℕ) → w < length words → n ≡ length words * length widths → at ≡ table_start widths (w * length widths)
      → sum_below ((w + 1) * length widths) (pick words) ≡ sum_below (w * length widths) (pick words) + sum_below (length widths) (entry_of_field widths entries at (get_or words w 0))
  word_more words w at lt all start =
      let next : (w + 1) * length widths ≡ w * length widths + length widths = omega arith in
      let last : (w + 1) * length widths ≤ length words * length widths = mul-le (w + 1) (length widths) (length words) (length widths) (omega arith) (omega arith) in
      ap (λ m. sum_below m (pick words)) next ∙ sum_below-split (w * length widths) (length widths) (pick words)
      ∙ ap (λ s. sum_below (w * length widths) (pick words) + s) (sum_below-same (length widths) (λ f. pick words (w * length widths + f)) (entry_of_field widths entries at (get_or words w 0))
      (λ f field. pick_is words w f at lt field (omega (arith, last, next, all)) start))

  -- all words of a code
  pub picked_sum-all : (words : List ℕ) → n ≡ length words * length widths → sum_below (length words * length widths) (pick words) ≡ picked_sum (tables_in widths n entries) (code_of_words widths words)
  unfolding picked_sum
  picked_sum-all words all = ap (λ m. sum_below m (pick words)) (sym all ∙ sym length-tables_in)
