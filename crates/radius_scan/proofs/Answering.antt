-- What was found and counted if these rows are the visited ones.
use Rattle.std.proofs.Common.{◌≡◌, ℕ, List, ap}
use Rattle.book_model.specs.Order.{sorted, pair_cmp}
use Rattle.book_model.specs.Book.{Book}
use Rattle.book_model.specs.Rows.{Row}
use Rattle.book_model.specs.Visit.{Query, visited}
use Rattle.book_model.specs.Answer.{pairs_of}
use Rattle.radius_scan.specs.Radius.{pairs_within, within_radius, full_within, radius_full_count}

module _ (book : Book) (query : Query) (r : ℕ) (rows seen : List Row) (is : seen ≡ visited book query rows) where
  pub answer_is : sorted pair_cmp (pairs_within r (pairs_of book query.vector seen)) ≡ within_radius book query r rows
  unfolding within_radius
  answer_is = ap (λ (rs : List Row). sorted pair_cmp (pairs_within r (pairs_of book query.vector rs))) is

  pub count_is : full_within book query.vector r seen ≡ radius_full_count book query r rows
  unfolding radius_full_count
  count_is = ap (full_within book query.vector r) is
