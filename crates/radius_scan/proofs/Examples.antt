-- Worked queries by radius over three rows: two in cell 0, one in cell 2.
use Rattle.std.proofs.Common.{◌≡◌, ℕ, ◌*◌, List, [], ◌∷◌, length, map, refl}
use Rattle.book_model.specs.Sums.{numbers_below}
use Rattle.book_model.specs.Order.{Pair, sorted}
use Rattle.book_model.specs.Distance.{dist}
use Rattle.book_model.specs.Book.{Book}
use Rattle.book_model.specs.Rows.{Row}
use Rattle.book_model.specs.Visit.{cells, cell_sum, visit, visited}
use Rattle.book_model.specs.Bound.{tables, base_sum, step_of, small, bound, threshold}
use Rattle.book_model.specs.Answer.{table_distance}
use Rattle.radius_scan.specs.Radius.{within_radius, is_radius_full, radius_full_count}
use Rattle.radius_scan.specs.Report.{radius_query}

-- word w of each sub-quantizer is 16 w
abbrev scaled : List (List ℕ)
scaled = map (λ w. 16 * w ∷ []) (numbers_below 16)

abbrev book : Book
book = record {
  version = 1;
  scale = 0;
  d = 4;
  h = 2;
  k0 = 2;
  k1 = 2;
  widths = 4 ∷ 4 ∷ 4 ∷ 4 ∷ [];
  g = 1;
  lengths = 1 ∷ 1 ∷ 1 ∷ 1 ∷ [];
  coarse0 = (0 ∷ 0 ∷ []) ∷ (128 ∷ 128 ∷ []) ∷ [];
  coarse1 = (0 ∷ 0 ∷ []) ∷ (128 ∷ 128 ∷ []) ∷ [];
  subs = scaled ∷ scaled ∷ scaled ∷ scaled ∷ [];
}

abbrev row : ℕ → ℕ → List ℕ → Row
row id cell code = record { id = id; cell = cell; code = code }

abbrev rows : List Row
rows = row 0 0 (0 ∷ 0 ∷ 0 ∷ 0 ∷ []) ∷ row 2 0 (4 ∷ 4 ∷ 4 ∷ 4 ∷ []) ∷ row 1 2 (8 ∷ 7 ∷ 1 ∷ 0 ∷ []) ∷ []

-- visited cells, visited rows, full rows, and the answer
abbrev found : ℕ → ℕ → ℕ → (ℕ × ℕ × ℕ) × List Pair
unfolding within_radius radius_full_count is_radius_full tables base_sum step_of small bound threshold cells cell_sum visit visited sorted dist table_distance
found first r wanted =
    let query = radius_query (first ∷ 0 ∷ 0 ∷ 0 ∷ []) wanted ((0, 2147483647) ∷ []) in
    ((length (visit book query rows), length (visited book query rows), radius_full_count book query r rows), within_radius book query r rows)

four_radii : found 0 16384 3 ∷ found 0 0 3 ∷ found 0 29184 3 ∷ found 1 0 1 ∷ []
    ≡ ((3, 3, 2), (0, 0) ∷ (16384, 2) ∷ []) ∷ ((3, 3, 1), (0, 0) ∷ []) ∷ ((3, 3, 3), (0, 0) ∷ (16384, 2) ∷ (29184, 1) ∷ []) ∷ ((1, 2, 0), []) ∷ []
unfolding found
four_radii = refl
