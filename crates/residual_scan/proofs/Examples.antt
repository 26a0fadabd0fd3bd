-- The worked residual rows.
use Rattle.std.proofs.Common.{◌≡◌, ℕ, ◌+◌, ◌*◌, List, [], ◌∷◌, ◌++◌, map, length, refl, Some, None}
use Rattle.book_model.specs.Sums.{numbers_below}
use Rattle.book_model.specs.Order.{Pair, sorted}
use Rattle.book_model.specs.Distance.{dist, nearest}
use Rattle.book_model.specs.Book.{Book}
use Rattle.book_model.specs.Rows.{Row, cell_of}
use Rattle.book_model.specs.Visit.{Query, cells, cell_sum, visit, visited}
use Rattle.book_model.specs.Bound.{picked_sum, base_sum, step_of, small, bound, threshold}
use Rattle.word_columns.specs.Left.{rest_dist}
use Rattle.half_tables.specs.Residual.{residual_tables, residual_code, residual_row, residual_fault}
use Rattle.residual_scan.specs.Answer.{residual_distance, residual_answer, is_residual_full, residual_full_count}
use Rattle.residual_scan.specs.Misses.{keys_of, computed}

abbrev scaled : List (List ℕ)
scaled = map (λ w. (32640 + 16 * w) ∷ []) (numbers_below 16)

abbrev book : Book
book = record {
  version = 2;
  scale = 0;
  d = 4;
  h = 2;
  k0 = 2;
  k1 = 2;
  widths = 4 ∷ 4 ∷ 4 ∷ 4 ∷ [];
  g = 1;
  lengths = 1 ∷ 1 ∷ 1 ∷ 1 ∷ [];
  coarse0 = (0 ∷ 0 ∷ []) ∷ (128 ∷ 128 ∷ []) ∷ [];
  coarse1 = (0 ∷ 0 ∷ []) ∷ (128 ∷ 128 ∷ []) ∷ [];
  subs = scaled ∷ scaled ∷ scaled ∷ scaled ∷ [];
}

abbrev v0 : List ℕ
v0 = 0 ∷ 0 ∷ 0 ∷ 0 ∷ []

abbrev row_of : ℕ → List ℕ → Row
unfolding cell_of nearest dist residual_code rest_dist
row_of id v = residual_row book id v

three_codes : map (λ (row : Row). row.code) (row_of 0 v0 ∷ row_of 1 (130 ∷ 120 ∷ 10 ∷ 0 ∷ []) ∷ row_of 2 (64 ∷ 64 ∷ 64 ∷ 64 ∷ []) ∷ [])
    ≡ (8 ∷ 8 ∷ 8 ∷ 8 ∷ []) ∷ (8 ∷ 7 ∷ 9 ∷ 8 ∷ []) ∷ (12 ∷ 12 ∷ 12 ∷ 12 ∷ []) ∷ []
unfolding row_of
three_codes = refl

abbrev row : ℕ → ℕ → List ℕ → Row
row id cell code = record { id = id; cell = cell; code = code }

abbrev three : List Row
three = row 0 0 (8 ∷ 8 ∷ 8 ∷ 8 ∷ []) ∷ row 1 2 (8 ∷ 7 ∷ 9 ∷ 8 ∷ []) ∷ row 2 0 (12 ∷ 12 ∷ 12 ∷ 12 ∷ []) ∷ []

three_distances : map (residual_distance book v0) three ≡ 0 ∷ 29184 ∷ 16384 ∷ []
unfolding residual_distance residual_tables rest_dist picked_sum
three_distances = refl

abbrev ask : ℕ → ℕ → Query
ask k wanted = record { vector = v0; k = k; wanted = wanted; ranges = (0, 2147483647) ∷ [] }

-- what a query line and its hit lines print
abbrev printed : Query → List Row → (ℕ × ℕ × ℕ) × List Pair
unfolding residual_answer residual_full_count is_residual_full residual_distance residual_tables rest_dist cells sorted visit visited dist cell_sum picked_sum base_sum step_of bound threshold small
printed query rows = ((length (visit book query rows), length (visited book query rows), residual_full_count book query rows), residual_answer book query rows)

query_of_three : printed (ask 1 3) three ≡ ((3, 3, 2), (0, 0) ∷ [])
unfolding printed
query_of_three = refl

-- a query from far, to which the last row alone is near: the cells of the others lie wholly beyond it for k 1, and the first two are early for k 2
abbrev five : List Row
five = three ++ row 3 1 (8 ∷ 8 ∷ 8 ∷ 8 ∷ []) ∷ row 4 3 (15 ∷ 15 ∷ 15 ∷ 15 ∷ []) ∷ []

abbrev ask_from_far : ℕ → Query
ask_from_far k = record { vector = 255 ∷ 255 ∷ 255 ∷ 255 ∷ []; k = k; wanted = 9; ranges = (0, 2147483647) ∷ [] }

far_cells_have_no_full_row : printed (ask_from_far 1) five ≡ ((4, 5, 1), (900, 4) ∷ [])
unfolding printed
far_cells_have_no_full_row = refl

early_cells_are_full : printed (ask_from_far 2) five ≡ ((4, 5, 4), (900, 4) ∷ (145924, 2) ∷ [])
unfolding printed
early_cells_are_full = refl

-- four tables without room or with room for one, three with room for two and more
tables_computed : map (λ cache. computed cache book (ask 1 3) three) (0 ∷ 1 ∷ 2 ∷ 2048 ∷ []) ≡ 4 ∷ 4 ∷ 3 ∷ 3 ∷ []
unfolding keys_of visit visited cells sorted dist cell_sum
tables_computed = refl

-- a book of version 1 is at fault at its first byte, one whose second length crosses at that length
faults : residual_fault (record book { version = 1 }) ∷ residual_fault book ∷ residual_fault (record book { lengths = 1 ∷ 2 ∷ 1 ∷ []; widths = 5 ∷ 5 ∷ 5 ∷ [] }) ∷ [] ≡ Some 0 ∷ None ∷ Some 21 ∷ []
unfolding residual_fault
faults = refl
