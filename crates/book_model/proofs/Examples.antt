-- Small cases, computed.
use Rattle.std.proofs.Common.{◌≡◌, ℕ, ◌*◌, List, [], ◌∷◌, ◌++◌, length, map, refl}
use Rattle.book_model.specs.Sums.{numbers_below}
use Rattle.book_model.specs.Order.{Pair, sorted}
use Rattle.book_model.specs.Distance.{dist, nearest}
use Rattle.book_model.specs.Book.{Book}
use Rattle.book_model.specs.Rows.{Row, row_of, cell_of, code_of, Edit, Insert, Delete, Put, rows_after}
use Rattle.book_model.specs.Visit.{Query, cells, cell_sum, visit, visited}
use Rattle.book_model.specs.Bound.{tables, picked_sum, base_sum, step_of, small, bound, threshold, table_at}
use Rattle.book_model.specs.Answer.{answer, full_count, is_full, table_distance}

abbrev scaled : ℕ → List (List ℕ)
scaled a = map (λ w. a * w ∷ []) (numbers_below 16)

abbrev book : Book
book = record {
  version = 1;
  scale = 0;
  d = 4;
  h = 2;
  k0 = 2;
  k1 = 2;
  widths = 4 ∷ 4 ∷ 4 ∷ 4 ∷ [];
  g = 1;
  lengths = 1 ∷ 1 ∷ 1 ∷ 1 ∷ [];
  coarse0 = (0 ∷ 0 ∷ []) ∷ (128 ∷ 128 ∷ []) ∷ [];
  coarse1 = (0 ∷ 0 ∷ []) ∷ (128 ∷ 128 ∷ []) ∷ [];
  subs = scaled 16 ∷ scaled 16 ∷ scaled 16 ∷ scaled 16 ∷ [];
}

abbrev v0 : List ℕ
v0 = 0 ∷ 0 ∷ 0 ∷ 0 ∷ []

abbrev v1 : List ℕ
v1 = 130 ∷ 120 ∷ 10 ∷ 0 ∷ []

abbrev v2 : List ℕ
v2 = 64 ∷ 64 ∷ 64 ∷ 64 ∷ []

abbrev v3 : List ℕ
v3 = 0 ∷ 0 ∷ 128 ∷ 128 ∷ []

row_of_zeros : row_of book 0 v0 ≡ record { id = 0; cell = 0; code = 0 ∷ 0 ∷ 0 ∷ 0 ∷ [] }
unfolding cell_of code_of nearest dist
row_of_zeros = refl

row_of_a_vector : row_of book 1 v1 ≡ record { id = 1; cell = 2; code = 8 ∷ 7 ∷ 1 ∷ 0 ∷ [] }
unfolding cell_of code_of nearest dist
row_of_a_vector = refl

ties_go_to_the_least_word : row_of book 2 v2 ≡ record { id = 2; cell = 0; code = 4 ∷ 4 ∷ 4 ∷ 4 ∷ [] }
unfolding cell_of code_of nearest dist
ties_go_to_the_least_word = refl

row_of_two_halves : row_of book 3 v3 ≡ record { id = 3; cell = 1; code = 0 ∷ 0 ∷ 8 ∷ 8 ∷ [] }
unfolding cell_of code_of nearest dist
row_of_two_halves = refl

distances_of_four_rows : map (λ code. table_distance book v0 code) ((0 ∷ 0 ∷ 0 ∷ 0 ∷ []) ∷ (8 ∷ 7 ∷ 1 ∷ 0 ∷ []) ∷ (4 ∷ 4 ∷ 4 ∷ 4 ∷ []) ∷ (0 ∷ 0 ∷ 8 ∷ 8 ∷ []) ∷ []) ≡ 0 ∷ 29184 ∷ 16384 ∷ 32768 ∷ []
unfolding table_distance dist
distances_of_four_rows = refl

order_of_four_cells : cells book v0 ≡ (0, 0) ∷ (32768, 1) ∷ (32768, 2) ∷ (65536, 3) ∷ []
unfolding cells sorted dist cell_sum
order_of_four_cells = refl

abbrev three : List Row
three = row_of book 0 v0 ∷ row_of book 1 v1 ∷ row_of book 2 v2 ∷ []

abbrev all_ids : List (ℕ × ℕ)
all_ids = (0, 2147483647) ∷ []

abbrev ask : ℕ → ℕ → List (ℕ × ℕ) → Query
ask k wanted ranges = record { vector = v0; k = k; wanted = wanted; ranges = ranges }

-- what a query line and its hit lines print: visited cells, visited rows, full rows; the pairs
abbrev printed : Query → List Row → (ℕ × ℕ × ℕ) × List Pair
unfolding answer full_count is_full cells sorted visit visited tables dist cell_sum cell_of code_of nearest picked_sum base_sum step_of bound threshold small table_distance
printed query rows = ((length (visit book query rows), length (visited book query rows), full_count book query rows), answer book query rows)

nearest_row_of_the_first_cell : printed (ask 1 1 all_ids) three ≡ ((1, 2, 1), (0, 0) ∷ [])
unfolding printed
nearest_row_of_the_first_cell = refl

nothing_is_found_where_there_are_no_rows : printed (ask 1 1 all_ids) [] ≡ ((0, 0, 0), [])
unfolding printed
nothing_is_found_where_there_are_no_rows = refl

-- the least sum, step, threshold and bound of a query that has found itself
bound_above_the_threshold_zero : base_sum (tables book v0) ∷ step_of (tables book v0) 0 ∷ threshold (tables book v0) 0 0 ∷ bound (tables book v0) 0 (4 ∷ 4 ∷ 4 ∷ 4 ∷ []) ∷ [] ≡ 0 ∷ 1 ∷ 0 ∷ 255 ∷ []
unfolding tables dist base_sum step_of bound threshold small
bound_above_the_threshold_zero = refl

two_nearest_of_three_cells : printed (ask 2 3 all_ids) three ≡ ((3, 3, 2), (0, 0) ∷ (16384, 2) ∷ [])
unfolding printed
two_nearest_of_three_cells = refl

all_rows_and_no_cell_after_them : printed (ask 1000 9 all_ids) three ≡ ((3, 3, 3), (0, 0) ∷ (16384, 2) ∷ (29184, 1) ∷ [])
unfolding printed
all_rows_and_no_cell_after_them = refl

-- the step, small entries and bounds of two nearest rows
step_of_two_nearest : step_of (tables book v0) 16384 ≡ 65
unfolding tables dist base_sum step_of bound threshold small
step_of_two_nearest = refl

small_entries_of_two_nearest : map (λ w. small 65 (table_at (tables book v0) 0) w) (1 ∷ 4 ∷ 7 ∷ 8 ∷ 9 ∷ []) ≡ 3 ∷ 63 ∷ 192 ∷ 252 ∷ 255 ∷ []
unfolding tables dist base_sum step_of bound threshold small
small_entries_of_two_nearest = refl

bound_of_a_pruned_row : bound (tables book v0) 16384 (8 ∷ 7 ∷ 1 ∷ 0 ∷ []) ∷ threshold (tables book v0) 16384 16384 ∷ [] ≡ 255 ∷ 252 ∷ []
unfolding tables dist base_sum step_of bound threshold small
bound_of_a_pruned_row = refl

abbrev played : List Edit → List Row
played edits = rows_after 4194304 [] edits

cells_with_one_sum_go_by_number : printed (ask 1 1 all_ids) (played (Insert (row_of book 7 v3) ∷ Insert (row_of book 1 v1) ∷ [])) ≡ ((2, 1, 1), (32768, 7) ∷ [])
unfolding printed
cells_with_one_sum_go_by_number = refl

tie_at_the_threshold_is_kept : printed (ask 1 2 all_ids) (played (Insert (row_of book 5 v2) ∷ Insert (row_of book 3 v2) ∷ [])) ≡ ((1, 2, 2), (16384, 3) ∷ [])
unfolding printed
tie_at_the_threshold_is_kept = refl

abbrev inserts : List Edit
inserts = Insert (row_of book 0 v0) ∷ Insert (row_of book 1 v1) ∷ Insert (row_of book 2 v2) ∷ []

deleted_id_comes_back_last : printed (ask 1 1 all_ids) (played (inserts ++ Delete 0 ∷ Insert (row_of book 0 v0) ∷ [])) ≡ ((1, 2, 2), (0, 0) ∷ [])
unfolding printed
deleted_id_comes_back_last = refl

present_and_absent_change_nothing : printed (ask 1 1 all_ids) (played (Insert (row_of book 0 v0) ∷ Insert (row_of book 0 v1) ∷ Delete 5 ∷ [])) ≡ ((1, 1, 1), (0, 0) ∷ [])
unfolding printed
present_and_absent_change_nothing = refl

ids_that_pass : printed (ask 1 1 ((1, 1) ∷ [])) three ≡ ((3, 1, 1), (29184, 1) ∷ [])
unfolding printed
ids_that_pass = refl

no_row_has_the_ids : printed (ask 1 1 ((7, 9) ∷ [])) three ≡ ((0, 0, 0), [])
unfolding printed
no_row_has_the_ids = refl

no_id_passes : printed (ask 1 1 ((2, 1) ∷ [])) three ≡ ((0, 0, 0), [])
unfolding printed
no_id_passes = refl

-- a put that kept the place would print full 1
put_goes_last : printed (ask 1 1 all_ids) (played (inserts ++ Put (row_of book 0 v0) ∷ [])) ≡ ((1, 2, 2), (0, 0) ∷ [])
unfolding printed
put_goes_last = refl

-- the small book with words of 16 bits at scale 4
abbrev wide : Book
wide = record book {
  version = 2;
  scale = 4;
  coarse0 = (0 ∷ 0 ∷ []) ∷ (2048 ∷ 2048 ∷ []) ∷ [];
  coarse1 = (0 ∷ 0 ∷ []) ∷ (2048 ∷ 2048 ∷ []) ∷ [];
  subs = scaled 256 ∷ scaled 256 ∷ scaled 256 ∷ scaled 256 ∷ [];
}

abbrev printed_of : Book → Query → List Row → (ℕ × ℕ × ℕ) × List Pair
unfolding answer full_count is_full cells sorted visit visited tables dist cell_sum cell_of code_of nearest picked_sum base_sum step_of bound threshold small table_distance
printed_of b query rows = ((length (visit b query rows), length (visited b query rows), full_count b query rows), answer b query rows)

answers_at_scale_four : printed_of wide (ask 2 3 all_ids) (row_of wide 0 v0 ∷ row_of wide 1 v1 ∷ row_of wide 2 v2 ∷ []) ≡ ((3, 3, 2), (0, 0) ∷ (4194304, 2) ∷ [])
unfolding printed_of
answers_at_scale_four = refl

bound_at_scale_four : step_of (tables wide v0) 4194304 ∷ bound (tables wide v0) 4194304 (8 ∷ 7 ∷ 1 ∷ 0 ∷ []) ∷ threshold (tables wide v0) 4194304 4194304 ∷ [] ≡ 16449 ∷ 255 ∷ 254 ∷ []
unfolding tables dist base_sum step_of bound threshold small
bound_at_scale_four = refl

small_entries_at_scale_four : map (λ w. small 16449 (table_at (tables wide v0) 0) w) (8 ∷ 7 ∷ 1 ∷ 0 ∷ []) ≡ 254 ∷ 195 ∷ 3 ∷ 0 ∷ []
unfolding tables dist base_sum step_of bound threshold small
small_entries_at_scale_four = refl

scaled_ties : dist 1 (7 ∷ []) (15 ∷ []) ∷ dist 1 (8 ∷ []) (15 ∷ []) ∷ [] ≡ 1 ∷ 1 ∷ []
unfolding dist
scaled_ties = refl

-- the walk's order
abbrev walked : Book
walked = record book { k1 = 3; coarse0 = (1 ∷ 2 ∷ []) ∷ (0 ∷ 1 ∷ []) ∷ []; coarse1 = (0 ∷ 0 ∷ []) ∷ (1 ∷ 1 ∷ []) ∷ (1 ∷ 1 ∷ []) ∷ [] }

order_of_six_cells : cells walked v0 ≡ (1, 3) ∷ (3, 4) ∷ (3, 5) ∷ (5, 0) ∷ (7, 1) ∷ (7, 2) ∷ []
unfolding cells sorted dist cell_sum
order_of_six_cells = refl
