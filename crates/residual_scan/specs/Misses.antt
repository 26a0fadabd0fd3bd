-- Which tables of halves a query computes, if those used last are kept.
use Rattle.std.specs.Prelude.{ℕ, ◌+◌, ◌/◌, ◌%◌, not, List, [], ◌∷◌, length, filter, take, nat_lt, ◌==◌, if◌then◌else◌}
use Rattle.std.specs.List.{list_any, flat_map}
use Rattle.book_model.specs.Order.{Pair}
use Rattle.book_model.specs.Book.{Book}
use Rattle.book_model.specs.Rows.{Row, passing, rows_in}
use Rattle.book_model.specs.Visit.{Query, visit}

-- a key is the number of a coarse word; the words of part 1 are counted on from those of part 0. A cell has two, one for each half
abbrev pub cell_keys : Book → ℕ → List ℕ
cell_keys book cell = cell / book.k1 ∷ (book.k0 + cell % book.k1) ∷ []

-- the keys that are kept, the last used first, after one more is used
abbrev pub used : ℕ → List ℕ → ℕ → List ℕ
used capacity kept key = if list_any (λ other. other == key) kept then key ∷ filter (λ other. not (other == key)) kept else take capacity (key ∷ kept)

-- the keys that are kept after these were used in order
abbrev pub kept_after : ℕ → List ℕ → List ℕ → List ℕ
kept_after capacity kept [] = kept
kept_after capacity kept (key ∷ keys) = kept_after capacity (used capacity kept key) keys

-- how many of these keys are not kept when they come
abbrev pub misses : ℕ → List ℕ → List ℕ → ℕ
misses capacity kept [] = 0
misses capacity kept (key ∷ keys) = (if list_any (λ other. other == key) kept then 0 else 1) + misses capacity (used capacity kept key) keys

-- the keys of a cell with these rows: none if there is no row
abbrev pub keys_here : Book → List Row → ℕ → List ℕ
keys_here book rows cell = if nat_lt 0 (length rows) then cell_keys book cell else []

-- the keys of each of these cells that has a row, in order
abbrev pub keys_in : Book → List Row → List Pair → List ℕ
keys_in book rows cells = flat_map (λ cell. keys_here book (rows_in cell.1 rows) cell.1) cells

-- the keys of each visited cell with a passing row
unfoldable pub keys_of : Book → Query → List Row → List ℕ
keys_of book query rows = keys_in book (passing query.ranges rows) (visit book query rows)

-- how many tables a query computes with room for this many
abbrev pub computed : ℕ → Book → Query → List Row → ℕ
computed cache book query rows = misses cache [] (keys_of book query rows)
