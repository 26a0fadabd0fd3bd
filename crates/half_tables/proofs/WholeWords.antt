-- Halves that are made of whole words.
use Rattle.std.proofs.Common.{◌≡◌, ℕ, ◌+◌, ◌*◌, ◌/◌, ◌%◌, ◌^◌, ◌<◌, ◌≤◌, List, length, get_or, take, drop, sym, ap, ap₂, ◌∙◌, arith}
use Rattle.std.proofs.Math.Nat.{mod-lt, mul-le-mul_right}
use Rattle.std.proofs.lemmas.Nat.{mod-mul-add, div-mul-add, div_below, div-add-mod'}
use Rattle.std.proofs.lemmas.List.{get_or-take, get_or-drop}
use Rattle.std.proofs.lemmas.Simd.{length-chunk}
use Rattle.book_model.specs.Sums.{sum_below}
use Rattle.book_model.specs.Bound.{Tables, table_at, picked_sum}
use Rattle.book_model.proofs.SumLemmas.{sum_below-same}
use Rattle.shape_core.specs.Word.{field_of, code_of_words}
use Rattle.adc_tables.specs.Full.{table_size, table_start, table_in, tables_in}
use Rattle.adc_tables.proofs.Sums.{length-tables_in, table_at-tables_in}
use Rattle.half_tables.specs.Half.{start_from, table_from, tables_from, picked_from}
use Rattle.half_tables.proofs.Places.{length-tables_from, table_at-tables_from}
use Rattle.half_tables.proofs.Sums.{place_is}

module _ (widths : List ℕ) (low first : ℕ) (some : 0 < length widths) (is : low * length widths ≡ first) where
  remainder : (i : ℕ) → (first + i) % length widths ≡ i % length widths
  remainder i =
      let n = length widths in
      let split : first + i ≡ (low + i / n) * n + i % n = omega (arith, is, div-add-mod' i n) in
      ap (λ k. k % n) split ∙ mod-mul-add (low + i / n) n (i % n) (mod-lt i some)

  quotient : (i : ℕ) → (first + i) / length widths ≡ low + i / length widths
  quotient i =
      let n = length widths in
      let split : first + i ≡ (low + i / n) * n + i % n = omega (arith, is, div-add-mod' i n) in
      ap (λ k. k / n) split ∙ div-mul-add (low + i / n) n (i % n) (mod-lt i some)

  size_is : (i : ℕ) → table_size widths (first + i) ≡ table_size widths i
  size_is i = ap (λ k. 2 ^ get_or widths k 0) (remainder i)

  pub starts_are : (i : ℕ) → start_from widths first i ≡ table_start widths i
  starts_are i = sum_below-same i (λ k. table_size widths (first + k)) (table_size widths) (λ k _. size_is k)

  tables_same : (entries : List ℕ) (i : ℕ) → table_from widths first entries i ≡ table_in widths entries i
  tables_same entries i = ap₂ (λ s n. take n (drop s entries)) (starts_are i) (size_is i)

  code_same : (words : List ℕ) (m i : ℕ) → low + m ≤ length words → i < m * length widths
      → get_or (code_of_words widths words) (first + i) 0 ≡ get_or (code_of_words widths (take m (drop low words))) i 0
  code_same words m i within lt =
      let n = length widths in
      let cut = take m (drop low words) in
      let long : length cut ≡ m = length-chunk low m words within in
      let there : i / n < m = div_below i n m some lt in
      let place : first + i < length words * n = omega (arith, is, lt, mul-le-mul_right n within) in
      place_is widths words (first + i) some place ∙ ap₂ (λ k f. field_of widths (get_or words k 0) f) (quotient i) (remainder i)
      ∙ ap (λ x. field_of widths x (i % n)) (sym (get_or-drop low words (i / n) 0) ∙ sym (get_or-take m (drop low words) (i / n) 0 there))
      ∙ sym (place_is widths cut i some (omega (arith, lt, ap (λ k. k * n) long)))

  pub picked_same : (count m : ℕ) (entries words : List ℕ) → m * length widths ≡ count → low + m ≤ length words
      → picked_sum (tables_in widths count entries) (code_of_words widths (take m (drop low words))) ≡ picked_from (tables_from widths first count entries) first (code_of_words widths words)
  unfolding picked_sum
  picked_same count m entries words whole within =
      let ts : Tables = tables_in widths count entries in
      let us : Tables = tables_from widths first count entries in
      let code : List ℕ = code_of_words widths words in
      let cut : List ℕ = code_of_words widths (take m (drop low words)) in
      ap (λ n. sum_below n (λ i. get_or (table_at ts i) (get_or cut i 0) 0)) (length-tables_in widths count entries)
      ∙ sum_below-same count (λ i. get_or (table_at ts i) (get_or cut i 0) 0) (λ i. get_or (table_at us i) (get_or code (first + i) 0) 0) (λ i lt.
      ap₂ (λ t p. get_or t p 0) (table_at-tables_in widths count entries i lt ∙ sym (tables_same entries i) ∙ sym (table_at-tables_from widths first count entries i lt)) (sym (code_same words m i within (omega (arith, lt, whole)))))
      ∙ ap (λ n. sum_below n (λ i. get_or (table_at us i) (get_or code (first + i) 0) 0)) (sym (length-tables_from widths first count entries))
