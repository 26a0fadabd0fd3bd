-- What a query by radius answers and reports, and what it costs.
use Rattle.std.specs.Prelude.{◌≡◌, ℕ, ◌+◌, ◌*◌, ◌<◌, ◌≤◌, List, length}
use Rattle.book_model.specs.Book.{Book}
use Rattle.book_model.specs.Order.{Pair}
use Rattle.book_model.specs.Bound.{tables, base_sum}
use Rattle.book_model.specs.Visit.{Query, visit, visited}
use Rattle.cell_store.specs.State.{Store, live_rows}
use Rattle.query_engine.specs.Progress.{block_count}
use Rattle.query_engine.specs.Report.{query_of}
use Rattle.prune_scan.specs.declared.meters.Meters.{Meters}
use Rattle.query_engine.specs.declared.report.Report.{Report}
use Rattle.radius_scan.specs.Radius.{within_radius, radius_full_count}

-- a query that visits so many rows; no k least are asked for
abbrev pub radius_query : List ℕ → ℕ → List (ℕ × ℕ) → Query
radius_query vector wanted ranges = query_of vector 0 wanted ranges

-- a query by radius over the live rows of a store was answered: the pairs are all visited rows within r, the report counts cells, rows and full rows,
-- each full row took one full distance, each cell at most two sums and one more in all, and each 32 rows retained in a visited cell at most one block and
-- one call over lanes, of all of which there are few whatever is visited; if r is below the sum of the bases no block is read
pub record Finds (book : Book) (query : Query) (r : ℕ) (store : Store) (found : List Pair) (report : Report) (old new : Meters) : Type 0 where
  pub answers : found ≡ within_radius book query r (live_rows store)
  pub cells : report.cells ≡ length (visit book query (live_rows store))
  pub live : report.live ≡ length (visited book query (live_rows store))
  pub full_rows : report.full ≡ radius_full_count book query r (live_rows store)
  pub full : new.full ≡ old.full + report.full
  pub pairs : (old.pairs ≤ new.pairs) × (new.pairs ≤ old.pairs + (2 * report.cells + 1))
  pub blocks : new.blocks ≤ old.blocks + block_count store.kept (visit book query (live_rows store))
  pub lanes : new.lanes ≤ old.lanes + block_count store.kept (visit book query (live_rows store))
  pub reads_never_fall : (old.blocks ≤ new.blocks) × (old.lanes ≤ new.lanes)
  pub others : (new.half_full ≡ old.half_full) × (new.halves ≡ old.halves)
  pub none_read : r < base_sum (tables book query.vector) → (new.blocks ≡ old.blocks) × (new.lanes ≡ old.lanes)
  pub few_cells : report.cells ≤ 1048576
  pub few_full : report.full ≤ 16777216
  pub few_blocks : block_count store.kept (visit book query (live_rows store)) ≤ 2621440
