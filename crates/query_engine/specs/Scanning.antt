-- A visit by whatever scans its cells.
use Rattle.std.specs.Prelude.{◌≡◌, ℕ, ◌+◌, ◌*◌, ◌≤◌, List, ◌++◌, length, take}
use Rattle.book_model.specs.Order.{Pair}
use Rattle.book_model.specs.Rows.{Row}
use Rattle.book_model.specs.Visit.{rows_of_cells}
use Rattle.cell_store.specs.State.{Store}
use Rattle.cell_store.specs.Shown.{Shown, shown}
use Rattle.coarse_rank.specs.Ranked.{cells_of}
use Rattle.pair_walk.specs.Walking.{IsWalkOver}
use Rattle.prune_scan.specs.declared.meters.Meters.{Meters}
use Rattle.query_engine.specs.Progress.{first_rows, block_count}
use Rattle.query_engine.specs.declared.scanning.Visit.{Visit}

-- what a scan costs
pub record Work : Type 0 where
  pub full : ℕ
  pub blocks : ℕ
  pub lanes : ℕ
  pub half_full : ℕ
  pub halves : ℕ

abbrev pub work_of : Meters → Work
work_of m = record { full = m.full; blocks = m.blocks; lanes = m.lanes; half_full = m.half_full; halves = m.halves }

-- the visit saw the rows of the cells that its walk gave, and its scanner is ready for all others
pub record IsVisit {A C : Type 0} (is_ready : A → C → Work → Store → ℕ → Type 0) (asked : A) (shows : Shown) (v : Visit C) (m : Meters) : Type 0 where
  pub over : IsWalkOver v.ranks v.walk
  pub rows : v.rows ≡ length (first_rows (shown shows) (cells_of v.ranks) v.walk.given)
  pub ready : (n : ℕ) → v.rows + n ≡ length (rows_of_cells (shown shows) (cells_of v.ranks)) → is_ready asked v.scanner (work_of m) shows.store n
  pub few : length (rows_of_cells (shown shows) (cells_of v.ranks)) ≤ 8388608

-- the visit went on: its scanner over the rows of the cells in between, at most two sums a cell, and at most a block and a call
-- over lanes for each 32 rows kept
pub record GoesOn {A C : Type 0} (went : A → C → C → List Row → List Pair → Work → Work → Type 0) (asked : A) (shows : Shown) (v v' : Visit C) (m m' : Meters) : Type 0 where
  pub ranks : v'.ranks ≡ v.ranks
  pub between : List Pair
  pub joins : take v.walk.given (cells_of v.ranks) ++ between ≡ take v'.walk.given (cells_of v.ranks)
  pub scanned : went asked v.scanner v'.scanner (shown shows) between (work_of m) (work_of m')
  pub pairs : (m.pairs ≤ m'.pairs) × (m'.pairs + 2 * v.walk.given ≤ m.pairs + 2 * v'.walk.given)
  pub blocks : m'.blocks + block_count shows.store.kept (take v.walk.given (cells_of v.ranks)) ≤ m.blocks + block_count shows.store.kept (take v'.walk.given (cells_of v.ranks))
  pub lanes : m'.lanes + block_count shows.store.kept (take v.walk.given (cells_of v.ranks)) ≤ m.lanes + block_count shows.store.kept (take v'.walk.given (cells_of v.ranks))
  pub few_blocks : m'.blocks + 524290 * v.walk.given ≤ m.blocks + 524290 * v'.walk.given
  pub few_lanes : m'.lanes + 524290 * v.walk.given ≤ m.lanes + 524290 * v'.walk.given
  pub reads_never_fall : (m.blocks ≤ m'.blocks) × (m.lanes ≤ m'.lanes)

-- wherever it began, it went further
abbrev pub GoesFurther : {A C : Type 0} → (A → C → C → List Row → List Pair → Work → Work → Type 0) → A → Shown → Visit C → Visit C → Meters → Meters → Type 0
GoesFurther {C = C} went asked shows v v' m m' = (v0 : Visit C) (m0 : Meters) → GoesOn went asked shows v0 v m0 m → GoesOn went asked shows v0 v' m0 m'
