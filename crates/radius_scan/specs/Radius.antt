-- What a query by radius answers, and which visited rows are full.
use Rattle.std.specs.Prelude.{ℕ, Bool, false, List, length, filter, nat_lt, nat_le, if◌then◌else◌}
use Rattle.book_model.specs.Order.{Pair, sorted, pair_cmp}
use Rattle.book_model.specs.Book.{Book}
use Rattle.book_model.specs.Rows.{Row}
use Rattle.book_model.specs.Visit.{Query, visited}
use Rattle.book_model.specs.Bound.{tables, base_sum, bound, threshold}
use Rattle.book_model.specs.Answer.{pairs_of}

-- the pairs whose distance is at most r, in their order
abbrev pub pairs_within : ℕ → List Pair → List Pair
pairs_within r pairs = filter (λ pair. nat_le pair.0 r) pairs

-- all visited rows within r, as (table distance, id) in rising order; the query's k is not looked at
unfoldable pub within_radius : Book → Query → ℕ → List Row → List Pair
within_radius book query r rows = sorted pair_cmp (pairs_within r (pairs_of book query.vector (visited book query rows)))

-- whether a row needs its full distance: none does if r is below the sum of the bases, and else those whose bound is not above the threshold of r (this project's rule)
unfoldable pub is_radius_full : Book → List ℕ → ℕ → Row → Bool
is_radius_full book v r row =
    let ts = tables book v in
    if nat_lt r (base_sum ts) then false else nat_le (bound ts r row.code) (threshold ts r r)

-- how many of these rows are full
abbrev pub full_within : Book → List ℕ → ℕ → List Row → ℕ
full_within book v r rows = length (filter (is_radius_full book v r) rows)

-- how many visited rows are full
unfoldable pub radius_full_count : Book → Query → ℕ → List Row → ℕ
radius_full_count book query r rows = full_within book query.vector r (visited book query rows)
