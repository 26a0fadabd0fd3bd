-- The rows of a store that pass: those of a cell, how many there are, and that all cells hold them.
use Rattle.std.proofs.Common.{◌≡◌, ℕ, ◌+◌, ◌*◌, ◌<◌, ◌≤◌, Bool, List, length, map, filter, sym, ap, subst, ◌∙◌, arith, ◌==◌}
use Rattle.std.specs.List.{AllByRecursion}
use Rattle.std.proofs.lemmas.List.{length-map}
use Rattle.book_model.specs.Book.{Book}
use Rattle.book_model.specs.Rows.{Row, in_ranges, passing, rows_in}
use Rattle.book_model.specs.Visit.{cells, rows_of_cells}
use Rattle.book_model.proofs.AllLemmas.{all_filter, all_map, all_weaken}
use Rattle.book_model.proofs.FilterLemmas.{filter_of_map, filter_swap, length_filter_le}
use Rattle.book_model.proofs.Visits.{all_cells_hold_all}
use Rattle.cell_store.specs.State.{Kept, lives_at, rows_at, passing_at, kept_in}
use Rattle.cell_store.specs.Held.{IsRow}
use Rattle.coarse_rank.specs.Ranked.{Ranked, ranks_of}

pub passing-kept_in : (ranges : List (ℕ × ℕ)) (stamp cell : ℕ) (kept : List Kept) → passing_at ranges stamp (kept_in cell kept) ≡ rows_in cell (passing_at ranges stamp kept)
passing-kept_in ranges stamp cell kept =
    let of_cell : Row → Bool = λ row. row.cell == cell in
    ap (λ ks. passing ranges (map (λ (k : Kept). k.row) ks)) (filter_swap (lives_at stamp) (λ (k : Kept). k.row.cell == cell) kept)
    ∙ ap (passing ranges) (sym (filter_of_map of_cell (λ (k : Kept). k.row) (filter (lives_at stamp) kept)))
    ∙ filter_swap (λ (row : Row). in_ranges ranges row.id) of_cell (rows_at stamp kept)

module _ (ranges : List (ℕ × ℕ)) (stamp : ℕ) (kept : List Kept) where
  -- no more rows pass than live, and no more live than are kept
  pub passing-live : length (passing_at ranges stamp kept) ≤ length (rows_at stamp kept)
  passing-live = length_filter_le (λ (row : Row). in_ranges ranges row.id) (rows_at stamp kept)

  pub passing-le : length (passing_at ranges stamp kept) ≤ length kept
  passing-le = omega (arith, passing-live, length-map (filter (lives_at stamp) kept) (λ (k : Kept). k.row), length_filter_le (lives_at stamp) kept)

  -- what holds of each row that is kept holds of those that pass
  pub passing_all : (P : Row → Type 0) → AllByRecursion (λ (k : Kept). P k.row) kept → AllByRecursion P (passing_at ranges stamp kept)
  passing_all P all =
      all_filter P (λ (row : Row). in_ranges ranges row.id) (rows_at stamp kept)
      (all_map P (λ (k : Kept). k.row) (filter (lives_at stamp) kept) (all_filter (λ (k : Kept). P k.row) (lives_at stamp) kept all))

  module _ (widths : List ℕ) (g n : ℕ) (rows : AllByRecursion (λ (k : Kept). IsRow widths g n k.row) kept) where
    -- all cells hold all rows that pass
    pub all_hold : (book : Book) (query : List ℕ) → n ≡ book.k0 * book.k1 → length (rows_of_cells (passing_at ranges stamp kept) (cells book query)) ≡ length (passing_at ranges stamp kept)
    all_hold book query is =
        all_cells_hold_all book query (passing_at ranges stamp kept)
        (passing_all (λ (row : Row). row.cell < book.k0 * book.k1) (all_weaken (λ (k : Kept). k.row.cell < book.k0 * book.k1) (λ (k : Kept). IsRow widths g n k.row) kept (λ k row. subst (λ m. k.row.cell < m) is row.cell) rows))

-- ranks have as many cells as their book
pub cells_are : (book : Book) (query : List ℕ) (ranks : Ranked) → ranks ≡ ranks_of book query → ranks.k0 * ranks.k1 ≡ book.k0 * book.k1
unfolding ranks_of
cells_are book query ranks is = ap (λ (r : Ranked). r.k0 * r.k1) is
