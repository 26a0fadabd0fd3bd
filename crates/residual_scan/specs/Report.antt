-- What a residual query works with, answers and reports, and what it costs.
use Rattle.std.specs.Prelude.{◌≡◌, ℕ, ◌+◌, ◌*◌, ◌≤◌, ◌^◌, List, length, Option}
use Rattle.std.specs.List.{AllByRecursion}
use Rattle.lru.specs.LruCache.{LruCache}
use Rattle.book_model.specs.Book.{Book}
use Rattle.book_model.specs.Rows.{Row}
use Rattle.book_model.specs.Visit.{Query, visit, visited}
use Rattle.cell_store.specs.State.{Store, live_rows}
use Rattle.best_k.specs.Least.{Kept}
use Rattle.coarse_rank.specs.Ranked.{Ranked}
use Rattle.pair_walk.specs.Walking.{Walking}
use Rattle.lane_kernels.specs.Table.{Table}
use Rattle.lane_kernels.specs.Sums.{AreTables}
use Rattle.adc_tables.specs.Small.{HaveSizes}
use Rattle.half_tables.specs.Half.{HalfSeen, IsRoomOf}
use Rattle.residual_scan.specs.Answer.{residual_answer, residual_full_count}
use Rattle.residual_scan.specs.Misses.{computed}
use Rattle.residual_scan.specs.Caching.{AreSlots}
use Rattle.query_engine.specs.Progress.{block_count}
use Rattle.prune_scan.specs.declared.meters.Meters.{Meters}
use Rattle.query_engine.specs.declared.report.Report.{Report}
use Rattle.query_engine.specs.declared.scanning.Visit.{Visit}
use Rattle.residual_scan.specs.declared.halved.Halved.{Halved}

-- what callers see of a scratch: ranked coarse words, a walk over them, the tables of halves, a small table for each sub-quantizer, the best
-- pairs, for each coarse word of both parts the slot that has its table, how many slots there are, and the cache of them
pub record Scratched : Type 0 where
  pub ranks : Ranked
  pub walk : Walking
  pub halves : List HalfSeen
  pub parts : List Table
  pub best : Kept
  pub places : List ℕ
  pub cache : ℕ
  pub slots : Option (LruCache ℕ ℕ)

-- those of a visit by halves
abbrev pub scratch_of : {S : Type 0} → Visit (Halved S) → Scratched
scratch_of v = record {
  ranks = v.ranks;
  walk = v.walk;
  halves = v.scanner.tables.items;
  parts = v.scanner.parts.items;
  best = v.scanner.best;
  places = v.scanner.places.items;
  cache = v.scanner.cache;
  slots = v.scanner.slots;
}

-- the room is that of the book's sizes: a table for each slot and two more
pub record HasRoomFor (book : Book) (scratch : Scratched) : Type 0 where
  pub k0 : scratch.ranks.k0 ≡ book.k0
  pub k1 : scratch.ranks.k1 ≡ book.k1
  pub halves : length scratch.halves ≡ scratch.cache + 2
  pub each : AllByRecursion (IsRoomOf book) scratch.halves
  pub parts : AreTables book.widths book.g scratch.parts
  pub sizes : HaveSizes book.widths scratch.parts
  pub places : length scratch.places ≡ book.k0 + book.k1
  pub slots : AreSlots scratch.cache scratch.slots

-- the lengths of the visit and of the visited rows, and how many of these are full
pub record IsReport (book : Book) (query : Query) (rows : List Row) (report : Report) : Type 0 where
  pub cells : report.cells ≡ length (visit book query rows)
  pub live : report.live ≡ length (visited book query rows)
  pub full : report.full ≡ residual_full_count book query rows

-- each count is far from its end
pub record HaveRoom (meters : Meters) : Type 0 where
  pub pairs : meters.pairs ≤ 2 ^ 62
  pub half_full : meters.half_full ≤ 2 ^ 62
  pub halves : meters.halves ≤ 2 ^ 62
  pub blocks : meters.blocks ≤ 2 ^ 62
  pub lanes : meters.lanes ≤ 2 ^ 62

-- a query over the live rows of a store was answered with this many slots: the best pairs are its answer, the report is its report, each full row
-- took one full distance, each miss one filled half, each cell at most two sums and one more in all, and each 32 rows kept in a visited cell at
-- most one block and one call over lanes, of all of which there are few whatever is visited
pub record Answers (book : Book) (query : Query) (store : Store) (cache : ℕ) (best : Kept) (report : Report) (old new : Meters) : Type 0 where
  pub answers : best.pairs ≡ residual_answer book query (live_rows store)
  pub reports : IsReport book query (live_rows store) report
  pub full : new.half_full ≡ old.half_full + report.full
  pub halves : new.halves ≡ old.halves + computed cache book query (live_rows store)
  pub pairs : (old.pairs ≤ new.pairs) × (new.pairs ≤ old.pairs + (2 * report.cells + 1))
  pub blocks : new.blocks ≤ old.blocks + block_count store.kept (visit book query (live_rows store))
  pub lanes : new.lanes ≤ old.lanes + block_count store.kept (visit book query (live_rows store))
  pub reads_never_fall : (old.blocks ≤ new.blocks) × (old.lanes ≤ new.lanes)
  pub others : new.full ≡ old.full
  pub few_cells : report.cells ≤ 1048576
  pub few_full : report.full ≤ 16777216
  pub few_halves : computed cache book query (live_rows store) ≤ 2097152
  pub few_blocks : block_count store.kept (visit book query (live_rows store)) ≤ 2621440
