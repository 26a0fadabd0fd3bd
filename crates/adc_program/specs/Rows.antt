-- Rows that are inserted one after another, and the cells that have one.
use Rattle.std.specs.Prelude.{ℕ, List, [], map, ◌==◌, if◌then◌else◌}
use Rattle.std.specs.List.{list_any}
use Rattle.book_model.specs.declared.limits.TheConstants.{MAX_ROWS}
use Rattle.book_model.specs.Sums.{sum_below, numbers_below}
use Rattle.book_model.specs.Book.{Book}
use Rattle.book_model.specs.Rows.{Row, Edit, Insert, row_of, rows_after}

-- so many vectors, each inserted with its number as its id
abbrev pub insert_of : Book → (ℕ → List ℕ) → ℕ → Edit
insert_of book vector n = Insert (row_of book n (vector n))

unfoldable pub numbered_rows : Book → (ℕ → List ℕ) → ℕ → List Row
numbered_rows book vector count = rows_after MAX_ROWS [] (map (insert_of book vector) (numbers_below count))

-- how many of so many cells have a row
unfoldable pub cell_count : ℕ → List Row → ℕ
cell_count cells rows = sum_below cells (λ cell. if list_any (λ row. row.cell == cell) rows then 1 else 0)
