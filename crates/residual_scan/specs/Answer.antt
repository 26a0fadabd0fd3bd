-- What a query over residual codes answers, and which visited rows are full, cell by cell.
use Rattle.std.specs.Prelude.{ℕ, ◌+◌, Bool, true, false, List, [], ◌∷◌, ◌++◌, length, map, take, nat_lt, nat_le, if◌then◌else◌}
use Rattle.book_model.specs.Order.{Pair, sorted, pair_cmp, kth_least}
use Rattle.book_model.specs.Book.{Book}
use Rattle.book_model.specs.Rows.{Row, passing, rows_in}
use Rattle.book_model.specs.Visit.{Query, visit, visited}
use Rattle.book_model.specs.Bound.{picked_sum, base_sum, bound, threshold}
use Rattle.half_tables.specs.Residual.{residual_tables}

-- the distance of the query's residual in the row's cell to the words that the row's code picks
unfoldable pub residual_distance : Book → List ℕ → Row → ℕ
residual_distance book v row = picked_sum (residual_tables book v row.cell) row.code

-- rows as (residual distance, id)
abbrev pub residual_pairs : Book → List ℕ → List Row → List Pair
residual_pairs book v rows = map (λ row. (residual_distance book v row, row.id)) rows

-- the k nearest of all visited rows
unfoldable pub residual_answer : Book → Query → List Row → List Pair
residual_answer book query rows = take query.k (sorted pair_cmp (residual_pairs book query.vector (visited book query rows)))

-- whether a row needs its full distance, if these rows were visited before its cell, and these before the row: all rows of an early cell, none
-- of a cell that lies wholly too far, and else those whose bound is not above the threshold; the tables and the step are the cell's
unfoldable pub is_residual_full : Book → List ℕ → ℕ → List Row → List Row → Row → Bool
is_residual_full book v k before seen row =
    let ts = residual_tables book v row.cell in
    let theta_c = kth_least k (residual_pairs book v before) in
    let theta = kth_least k (residual_pairs book v seen) in
    if nat_lt (length before) k then true
    else (if nat_lt theta_c (base_sum ts) then false
    else nat_le (bound ts theta_c row.code) (threshold ts theta_c theta))

-- how many rows of a cell are full
abbrev pub full_in_cell : Book → List ℕ → ℕ → List Row → List Row → List Row → ℕ
full_in_cell book v k before seen [] = 0
full_in_cell book v k before seen (row ∷ rows) = (if is_residual_full book v k before seen row then 1 else 0) + full_in_cell book v k before (seen ++ row ∷ []) rows

-- how many rows of these cells are full, if these rows were visited before
abbrev pub full_in_cells : Book → List ℕ → ℕ → List Row → List Row → List Pair → ℕ
full_in_cells book v k rows seen [] = 0
full_in_cells book v k rows seen (cell ∷ cells) =
    full_in_cell book v k seen seen (rows_in cell.1 rows) + full_in_cells book v k rows (seen ++ rows_in cell.1 rows) cells

-- how many visited rows need their full distance
unfoldable pub residual_full_count : Book → Query → List Row → ℕ
residual_full_count book query rows = full_in_cells book query.vector query.k (passing query.ranges rows) [] (visit book query rows)
