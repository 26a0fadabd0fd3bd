-- Where the tables of a half begin, and what the write of one changes.
use Rattle.std.proofs.Common.{◌≡◌, ℕ, ◌+◌, ◌-◌, ◌<◌, ◌≤◌, List, [], length, take, drop, sym, ap, ap₂, ◌∙◌, arith}
use Rattle.std.proofs.lemmas.List.{drop-take}
use Rattle.std.proofs.lemmas.List.FromFn.{length-map-range_with_len, get_or-map-range_with_len}
use Rattle.std.proofs.lemmas.Slice.{take-put_mid_below, between-put_mid}
use borrow.Rule.Slice.PartMut.{put_mid}
use Rattle.book_model.specs.Bound.{table_at}
use Rattle.book_model.proofs.SumLemmas.{sum_below-split}
use Rattle.adc_tables.specs.Full.{table_size}
use Rattle.adc_tables.proofs.Starts.{sum_next}
use Rattle.half_tables.specs.Half.{start_from, table_from, tables_from}

module _ (widths : List ℕ) (first : ℕ) where
  pub next_from : (i : ℕ) → start_from widths first (i + 1) ≡ start_from widths first i + table_size widths (first + i)
  next_from i = sum_next i (λ k. table_size widths (first + k))

  pub from_le : (i j : ℕ) → i ≤ j → start_from widths first i ≤ start_from widths first j
  from_le i j le =
      let whole : i + (j - i) ≡ j = omega arith in
      omega (arith, sum_below-split i (j - i) (λ k. table_size widths (first + k)), ap (start_from widths first) whole)

  -- a table ends before each later one
  pub end_from : (i n : ℕ) → i < n → start_from widths first i + table_size widths (first + i) ≤ start_from widths first n
  end_from i n lt = omega (arith, next_from i, from_le (i + 1) n (omega arith))

  pub table_from-before : (a k : ℕ) (xs ys : List ℕ) (i : ℕ) → start_from widths first i + table_size widths (first + i) ≤ a → a ≤ length xs
      → table_from widths first (put_mid a k xs ys) i ≡ table_from widths first xs i
  table_from-before a k xs ys i before within =
      let s = start_from widths first i in
      let n = table_size widths (first + i) in
      sym (drop-take s n (put_mid a k xs ys)) ∙ ap (drop s) (take-put_mid_below a k xs ys (s + n) before within) ∙ drop-take s n xs

  pub table_from-written : (a e : ℕ) (xs ys : List ℕ) (i : ℕ) → a ≡ start_from widths first i → e - a ≡ table_size widths (first + i) → a ≤ length xs → length ys ≡ e - a
      → table_from widths first (put_mid a (e - a) xs ys) i ≡ ys
  table_from-written a e xs ys i start size within long =
      ap₂ (λ s n. take n (drop s (put_mid a (e - a) xs ys))) (sym start) (sym size) ∙ between-put_mid a (e - a) xs ys e within long

  pub length-tables_from : (count : ℕ) (entries : List ℕ) → length (tables_from widths first count entries) ≡ count
  unfolding tables_from
  length-tables_from count entries = length-map-range_with_len (table_from widths first entries) 0 count

  pub table_at-tables_from : (count : ℕ) (entries : List ℕ) (i : ℕ) → i < count → table_at (tables_from widths first count entries) i ≡ table_from widths first entries i
  unfolding tables_from
  table_at-tables_from count entries i lt = get_or-map-range_with_len (table_from widths first entries) 0 count i i [] lt (omega arith)
