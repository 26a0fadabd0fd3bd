-- What a query answers and reports, and what it costs.
use Rattle.std.specs.Prelude.{◌≡◌, ℕ, ◌+◌, ◌*◌, ◌≤◌, ◌^◌, List, length}
use Rattle.book_model.specs.Book.{Book}
use Rattle.book_model.specs.Rows.{Row}
use Rattle.book_model.specs.Visit.{Query, visit, visited}
use Rattle.book_model.specs.Answer.{answer, full_count}
use Rattle.cell_store.specs.State.{Store, live_rows}
use Rattle.best_k.specs.Least.{Kept}
use Rattle.query_engine.specs.Progress.{block_count}
use Rattle.prune_scan.specs.declared.meters.Meters.{Meters}
use Rattle.query_engine.specs.declared.report.Report.{Report}

-- a query of these parts
abbrev pub query_of : List ℕ → ℕ → ℕ → List (ℕ × ℕ) → Query
query_of vector k wanted ranges = record { vector = vector; k = k; wanted = wanted; ranges = ranges }

-- the lengths of the visit and of the visited rows, and how many of these are full
pub record IsReport (book : Book) (query : Query) (rows : List Row) (report : Report) : Type 0 where
  pub cells : report.cells ≡ length (visit book query rows)
  pub live : report.live ≡ length (visited book query rows)
  pub full : report.full ≡ full_count book query rows

-- each count is far from its end
pub record HaveRoom (meters : Meters) : Type 0 where
  pub pairs : meters.pairs ≤ 2 ^ 62
  pub full : meters.full ≤ 2 ^ 62
  pub blocks : meters.blocks ≤ 2 ^ 62
  pub lanes : meters.lanes ≤ 2 ^ 62

-- the visit was begun
pub record CanVisit (meters : Meters) : Type 0 where
  pub pairs : meters.pairs ≤ 2 ^ 62 + 1
  pub full : meters.full ≤ 2 ^ 62
  pub blocks : meters.blocks ≤ 2 ^ 62
  pub lanes : meters.lanes ≤ 2 ^ 62

-- the same of what any scan reads
pub record CanGo (meters : Meters) : Type 0 where
  pub pairs : meters.pairs ≤ 2 ^ 62 + 1
  pub blocks : meters.blocks ≤ 2 ^ 62
  pub lanes : meters.lanes ≤ 2 ^ 62

-- a query over the live rows of a store was answered: the best pairs are its answer, the report is its report, each full row took one full
-- distance, each cell at most two sums and one more in all, and each 32 rows kept in a visited cell at most one block and one call over lanes,
-- of all of which there are few whatever is visited
pub record Answers (book : Book) (query : Query) (store : Store) (best : Kept) (report : Report) (old new : Meters) : Type 0 where
  pub answers : best.pairs ≡ answer book query (live_rows store)
  pub reports : IsReport book query (live_rows store) report
  pub full : new.full ≡ old.full + report.full
  pub pairs : (old.pairs ≤ new.pairs) × (new.pairs ≤ old.pairs + (2 * report.cells + 1))
  pub blocks : new.blocks ≤ old.blocks + block_count store.kept (visit book query (live_rows store))
  pub lanes : new.lanes ≤ old.lanes + block_count store.kept (visit book query (live_rows store))
  pub reads_never_fall : (old.blocks ≤ new.blocks) × (old.lanes ≤ new.lanes)
  pub others : (new.half_full ≡ old.half_full) × (new.halves ≡ old.halves)
  pub few_cells : report.cells ≤ 1048576
  pub few_full : report.full ≤ 16777216
  pub few_blocks : block_count store.kept (visit book query (live_rows store)) ≤ 2621440
