-- What was answered and counted when the visit is over.
use Rattle.std.proofs.Common.{◌≡◌, ℕ, List, [], length, take, min, ap, ap₂}
use Rattle.book_model.specs.Book.{Book}
use Rattle.book_model.specs.Order.{Pair, sorted, pair_cmp}
use Rattle.book_model.specs.Rows.{Row, passing}
use Rattle.book_model.specs.Visit.{cells, shortest_prefix}
use Rattle.cell_store.specs.State.{Store, rows_at, live_rows, passing_at}
use Rattle.coarse_rank.specs.Ranked.{Ranked, cells_of}
use Rattle.best_k.specs.Least.{least}
use Rattle.query_engine.specs.Progress.{first_rows}
use Rattle.query_engine.specs.Report.{query_of}
use Rattle.query_engine.proofs.Answering.{taken_now, visited_now}
use Rattle.residual_scan.specs.Answer.{residual_pairs, residual_answer, full_in_cells, residual_full_count}
use Rattle.residual_scan.specs.Misses.{keys_in, keys_of}

module _ (book : Book) (query : List ℕ) (k wanted : ℕ) (ranges : List (ℕ × ℕ)) (store : Store) (ranks : Ranked) (order_is : cells_of ranks ≡ cells book query) (stamp : ℕ) (now : stamp ≡ store.stamp) (n : ℕ) (n_is : n ≡ min wanted (length (passing_at ranges stamp store.kept)))
    (c : ℕ) (c_is : c ≡ length (shortest_prefix (passing_at ranges stamp store.kept) n (cells_of ranks))) where
  abbrev rows : List Row
  rows = passing_at ranges stamp store.kept

  rows_now : rows ≡ passing ranges (live_rows store)
  rows_now = ap (λ (s : ℕ). passing ranges (rows_at s store.kept)) now

  pub answer_now : least k (residual_pairs book query (first_rows rows (cells_of ranks) c)) ≡ residual_answer book (query_of query k wanted ranges) (live_rows store)
  unfolding residual_answer least
  answer_now = ap (λ (rs : List Row). take k (sorted pair_cmp (residual_pairs book query rs))) (visited_now book query k wanted ranges store ranks order_is stamp now n n_is c c_is)

  pub full_now : full_in_cells book query k rows [] (take c (cells_of ranks)) ≡ residual_full_count book (query_of query k wanted ranges) (live_rows store)
  unfolding residual_full_count
  full_now = ap₂ (λ (rs : List Row) (cs : List Pair). full_in_cells book query k rs [] cs) rows_now (taken_now book query k wanted ranges store ranks order_is stamp now n n_is c c_is)

  pub keys_now : keys_in book rows (take c (cells_of ranks)) ≡ keys_of book (query_of query k wanted ranges) (live_rows store)
  unfolding keys_of
  keys_now = ap₂ (λ (rs : List Row) (cs : List Pair). keys_in book rs cs) rows_now (taken_now book query k wanted ranges store ranks order_is stamp now n n_is c c_is)
