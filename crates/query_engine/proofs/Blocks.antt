-- A visit reads few blocks: each kept row lies in one cell, and each cell is visited once.
use Rattle.std.proofs.Common.{◌≡◌, ℕ, zero, suc, ◌+◌, ◌*◌, ◌/◌, ◌≤◌, ◌<◌, List, [], ◌∷◌, length, take, map, cond, refl, sym, ap, ◌∙◌, arith, inl, inr}
use Rattle.std.specs.List.{sum_by, range_with_len}
use Rattle.std.specs.Prelude.{◌==◌}
use Rattle.std.proofs.lemmas.Bool.{cases_eq, ne_eqb, eq-eqb}
use Rattle.std.proofs.lemmas.List.{length-map}
use Rattle.std.proofs.lemmas.List.Concat.{length-flat_map}
use Rattle.std.proofs.lemmas.List.Sums.{sum_by-take-le, sum_by-cons}
use Rattle.std.proofs.lemmas.List.Sorted.{sum_by-IsPermutation}
use Rattle.book_model.specs.Order.{Pair, sorted, pair_cmp}
use Rattle.book_model.specs.Book.{Book}
use Rattle.book_model.specs.Rows.{Row, rows_in}
use Rattle.book_model.specs.Visit.{cells, cell_sum, rows_of_cells}
use Rattle.book_model.proofs.FilterLemmas.{filter_of_map}
use Rattle.book_model.proofs.Sorting.{sorted-moves, pair_total, pair_exact}
use Rattle.cell_store.specs.State.{Kept, kept_in}
use Rattle.query_engine.specs.Progress.{block_count}

-- the rows kept in the n cells from number a on
abbrev kept_from : ℕ → ℕ → List Kept → ℕ
kept_from a n kept = sum_by (λ c. length (kept_in c kept)) (range_with_len a n)

kept_first : (a n : ℕ) (kept : List Kept) → kept_from a (suc n) kept ≡ length (kept_in a kept) + kept_from (a + 1) n kept
kept_first a n kept = sum_by-cons (λ c. length (kept_in c kept)) a (range_with_len (a + 1) n)

none_kept : (a n : ℕ) → kept_from a n [] ≡ 0
none_kept a zero = refl
none_kept a (suc n) = omega (arith, kept_first a n [], none_kept (a + 1) n)

module _ (k : Kept) (kept : List Kept) where
  here : (c : ℕ) → k.row.cell ≡ c → length (kept_in c (k ∷ kept)) ≡ length (kept_in c kept) + 1
  here c e = omega (arith, ap (λ b. length (cond b (k ∷ kept_in c kept) (kept_in c kept))) (eq-eqb k.row.cell c e))

  elsewhere : (c : ℕ) → (k.row.cell ≡ c → ⊥) → length (kept_in c (k ∷ kept)) ≡ length (kept_in c kept)
  elsewhere c ne = ap (λ b. length (cond b (k ∷ kept_in c kept) (kept_in c kept))) (ne_eqb k.row.cell c ne)

  -- one more row is counted once, and not at all where its cell lies before
  one_more : (a n : ℕ) → (k.row.cell < a → kept_from a n (k ∷ kept) ≤ kept_from a n kept) × (kept_from a n (k ∷ kept) ≤ kept_from a n kept + 1)
  one_more a zero = (λ _. omega arith, omega arith)
  one_more a (suc n) =
      let rest = one_more (a + 1) n in
      let more = kept_first a n (k ∷ kept) in
      let less = kept_first a n kept in
      elim (cases_eq k.row.cell a) [
        | inl e ↦ (λ before. absurd (omega (arith, e, before)), omega (arith, more, less, here a e, rest.0 (omega (arith, e))))
        | inr ne ↦ (λ before. omega (arith, more, less, elsewhere a ne, rest.0 (omega (arith, before))), omega (arith, more, less, elsewhere a ne, rest.1))
      ]

-- each row lies in one cell at most
kept_from-le : (a n : ℕ) (kept : List Kept) → kept_from a n kept ≤ length kept
kept_from-le a n [] = omega (arith, none_kept a n)
kept_from-le a n (k ∷ kept) = omega (arith, (one_more k kept a n).1, kept_from-le a n kept)

abbrev blocks_in : List Kept → ℕ → ℕ
blocks_in kept c = (length (kept_in c kept) + 31) / 32

blocks_from : (kept : List Kept) (a n : ℕ) → sum_by (blocks_in kept) (range_with_len a n) ≤ kept_from a n kept / 32 + n
blocks_from kept a zero = omega arith
blocks_from kept a (suc n) = omega (arith, sum_by-cons (blocks_in kept) a (range_with_len (a + 1) n), kept_first a n kept, blocks_from kept (a + 1) n)

-- the same over cells that are listed with their sums
listed : (f : ℕ → ℕ) (s : ℕ → ℕ) (cs : List ℕ) → sum_by (λ (cell : Pair). f cell.1) (map (λ c. (s c, c)) cs) ≡ sum_by f cs
listed f s [] = refl
listed f s (c ∷ cs) =
    sum_by-cons (λ (cell : Pair). f cell.1) (s c, c) (map (λ c. (s c, c)) cs)
    ∙ ap (λ m. f c + m) (listed f s cs) ∙ sym (sum_by-cons f c cs)

-- so the first cells of a query keep few blocks
pub few_blocks : (book : Book) (query : List ℕ) (kept : List Kept) (n : ℕ) → block_count kept (take n (cells book query)) ≤ length kept / 32 + book.k0 * book.k1
unfolding cells
few_blocks book query kept n =
    let count = book.k0 * book.k1 in
    let keys : List Pair = map (λ c. (cell_sum book query c, c)) (range_with_len 0 count) in
    omega (
      arith,
      sum_by-take-le (λ (cell : Pair). blocks_in kept cell.1) (sorted pair_cmp keys) n,
      sum_by-IsPermutation (λ (cell : Pair). blocks_in kept cell.1) keys (sorted pair_cmp keys) (sorted-moves pair_cmp pair_total pair_exact keys),
      listed (blocks_in kept) (cell_sum book query) (range_with_len 0 count),
      blocks_from kept 0 count,
      kept_from-le 0 count kept,
    )

-- each row lies in one cell at most, so all cells hold no more rows than there are
abbrev as_kept : Row → Kept
as_kept row = record { row = row; born = 0; died = 0 }

rows_as : (c : ℕ) (rows : List Row) → length (rows_in c rows) ≡ length (kept_in c (map as_kept rows))
rows_as c rows = sym (ap length (filter_of_map (λ (k : Kept). k.row.cell == c) as_kept rows) ∙ length-map (rows_in c rows) as_kept)

pub all_fit : (book : Book) (query : List ℕ) (rows : List Row) → length (rows_of_cells rows (cells book query)) ≤ length rows
unfolding cells
all_fit book query rows =
    let count = book.k0 * book.k1 in
    let size : ℕ → ℕ = λ c. length (rows_in c rows) in
    let keys : List Pair = map (λ c. (cell_sum book query c, c)) (range_with_len 0 count) in
    let same : sum_by size (range_with_len 0 count) ≡ kept_from 0 count (map as_kept rows) = λ t. sum_by (λ c. rows_as c rows t) (range_with_len 0 count) in
    omega (
      arith,
      length-flat_map (λ (cell : Pair). rows_in cell.1 rows) (sorted pair_cmp keys),
      sum_by-IsPermutation (λ (cell : Pair). size cell.1) keys (sorted pair_cmp keys) (sorted-moves pair_cmp pair_total pair_exact keys),
      listed size (cell_sum book query) (range_with_len 0 count),
      same,
      kept_from-le 0 count (map as_kept rows),
      length-map rows as_kept,
    )
