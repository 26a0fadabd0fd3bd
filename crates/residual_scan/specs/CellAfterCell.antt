-- The rows of cells after cells: their pairs, which of them are full, and the keys that are used.
use Rattle.std.proofs.Common.{◌≡◌, ℕ, ◌+◌, Bool, true, false, cond, List, [], ◌∷◌, ◌++◌, length, refl, sym, ap, ap₂, subst, ◌∙◌, inl, inr, append_assoc, arith}
use Rattle.std.specs.Prelude.{◌==◌, nat_lt, nat_le}
use Rattle.std.specs.List.{AllByRecursion}
use Rattle.std.proofs.lemmas.Bool.{cases_Bool, eqb-true}
use Rattle.std.proofs.lemmas.List.{append-nil, length-map, map-append}
use Rattle.std.proofs.lemmas.List.Concat.{flat_map-append}
use Rattle.book_model.specs.Order.{Pair, kth_least}
use Rattle.book_model.specs.Book.{Book}
use Rattle.book_model.specs.Rows.{Row, rows_in}
use Rattle.book_model.specs.Visit.{rows_of_cells}
use Rattle.book_model.specs.Bound.{Tables, picked_sum, base_sum, bound, threshold}
use Rattle.book_model.proofs.FilterLemmas.{filter_yes, filter_no}
use Rattle.half_tables.specs.Residual.{residual_tables}
use Rattle.residual_scan.specs.Answer.{residual_pairs, residual_distance, is_residual_full, full_in_cell, full_in_cells}
use Rattle.residual_scan.specs.Near.{pairs_in, is_near, near_count}
use Rattle.residual_scan.specs.Misses.{used, misses, kept_after, keys_here, keys_in}

-- the rows of a cell are of it
pub rows_in-cell : (cell : ℕ) (rows : List Row) → AllByRecursion (λ (row : Row). row.cell ≡ cell) (rows_in cell rows)
rows_in-cell cell [] = tt
rows_in-cell cell (row ∷ rows) = elim (cases_Bool (row.cell == cell)) [
  | inl on ↦ subst (AllByRecursion (λ (row : Row). row.cell ≡ cell)) (sym (filter_yes (λ (row : Row). row.cell == cell) row rows on)) (eqb-true row.cell cell on, rows_in-cell cell rows)
  | inr off ↦ subst (AllByRecursion (λ (row : Row). row.cell ≡ cell)) (sym (filter_no (λ (row : Row). row.cell == cell) row rows off)) (rows_in-cell cell rows)
]

module _ (book : Book) (v : List ℕ) (cell : ℕ) where
  pub pairs_of_cell : (rows : List Row) → AllByRecursion (λ row. row.cell ≡ cell) rows → residual_pairs book v rows ≡ pairs_in (residual_tables book v cell) rows
  unfolding residual_distance
  pairs_of_cell [] all = refl
  pairs_of_cell (row ∷ rows) all = (λ t. ap {B = Pair} (λ c. (picked_sum (residual_tables book v c) row.code, row.id)) all.0 t ∷ pairs_of_cell rows all.1 t)

  -- the pairs of rows and of rows of the cell behind them
  pub pairs_after : (seen rows : List Row) → AllByRecursion (λ row. row.cell ≡ cell) rows → residual_pairs book v (seen ++ rows) ≡ residual_pairs book v seen ++ pairs_in (residual_tables book v cell) rows
  pairs_after seen rows all =
      map-append (λ (row : Row). (residual_distance book v row, row.id)) seen rows ∙ ap (λ (ps : List Pair). residual_pairs book v seen ++ ps) (pairs_of_cell rows all)

  module _ (k : ℕ) where
    full_is : (before seen : List Row) (row : Row) → row.cell ≡ cell
        → is_residual_full book v k before seen row ≡ is_near (residual_tables book v cell) k (residual_pairs book v before) (residual_pairs book v seen) row
    unfolding is_residual_full
    full_is before seen row is =
        let count : length before ≡ length (residual_pairs book v before) = sym (length-map before (λ (row : Row). (residual_distance book v row, row.id))) in
        ap₂ {C = Bool} (λ (t : Tables) n. cond (nat_lt n k) true (cond (nat_lt (kth_least k (residual_pairs book v before)) (base_sum t)) false
        (nat_le (bound t (kth_least k (residual_pairs book v before)) row.code) (threshold t (kth_least k (residual_pairs book v before)) (kth_least k (residual_pairs book v seen))))))
        (ap (residual_tables book v) is) count

    full_of : (before seen rows : List Row) → AllByRecursion (λ row. row.cell ≡ cell) rows
        → full_in_cell book v k before seen rows ≡ near_count (residual_tables book v cell) k (residual_pairs book v before) (residual_pairs book v seen) rows
    full_of before seen [] all = refl
    full_of before seen (row ∷ rows) all =
        ap₂ (λ (a b : ℕ). a + b) (ap {B = ℕ} (λ b. cond b 1 0) (full_is before seen row all.0))
        (full_of before (seen ++ row ∷ []) rows all.1 ∙ ap (λ ps. near_count (residual_tables book v cell) k (residual_pairs book v before) ps rows) (pairs_after seen (row ∷ []) (all.0, tt)))

-- a cell's full rows are found by its tables
pub full_of_cell : (book : Book) (v : List ℕ) (k cell : ℕ) (before seen rows : List Row) → AllByRecursion (λ row. row.cell ≡ cell) rows
    → full_in_cell book v k before seen rows ≡ near_count (residual_tables book v cell) k (residual_pairs book v before) (residual_pairs book v seen) rows
full_of_cell book v k cell before seen rows all = full_of book v cell k before seen rows all

pub full_in_cells-append : (book : Book) (v : List ℕ) (k : ℕ) (rows seen : List Row) (xs ys : List Pair) → full_in_cells book v k rows seen (xs ++ ys) ≡ full_in_cells book v k rows seen xs + full_in_cells book v k rows (seen ++ rows_of_cells rows xs) ys
full_in_cells-append book v k rows seen [] ys = omega (arith, ap (λ s. full_in_cells book v k rows s ys) (append-nil seen))
full_in_cells-append book v k rows seen (x ∷ xs) ys =
    let here : List Row = rows_in x.1 rows in
    let same : (seen ++ here) ++ rows_of_cells rows xs ≡ seen ++ rows_of_cells rows (x ∷ xs) = append_assoc seen here (rows_of_cells rows xs) in
    omega (arith, full_in_cells-append book v k rows (seen ++ here) xs ys, ap (λ s. full_in_cells book v k rows s ys) same)

-- the keys of cells and of one more
pub keys_in-push : (book : Book) (rows : List Row) (cells : List Pair) (cell : Pair) → keys_in book rows (cells ++ cell ∷ []) ≡ keys_in book rows cells ++ keys_here book (rows_in cell.1 rows) cell.1
keys_in-push book rows cells cell =
    flat_map-append (λ (x : Pair). keys_here book (rows_in x.1 rows) x.1) cells (cell ∷ [])
    ∙ ap (λ (ks : List ℕ). keys_in book rows cells ++ ks) (append-nil (keys_here book (rows_in cell.1 rows) cell.1))

pub misses-append : (capacity : ℕ) (kept xs ys : List ℕ) → misses capacity kept (xs ++ ys) ≡ misses capacity kept xs + misses capacity (kept_after capacity kept xs) ys
misses-append capacity kept [] ys = omega arith
misses-append capacity kept (x ∷ xs) ys = omega (arith, misses-append capacity (used capacity kept x) xs ys)

pub kept_after-append : (capacity : ℕ) (kept xs ys : List ℕ) → kept_after capacity kept (xs ++ ys) ≡ kept_after capacity (kept_after capacity kept xs) ys
kept_after-append capacity kept [] ys = refl
kept_after-append capacity kept (x ∷ xs) ys = kept_after-append capacity (used capacity kept x) xs ys
