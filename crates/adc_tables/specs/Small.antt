-- Small tables: the entries of full tables in steps, each cut to a byte. After Quick ADC in outline; base, step and rounding
-- are this project's own.
use Rattle.std.specs.Prelude.{◌≡◌, ℕ, ◌%◌, ◌<◌, List, length, map, slice_index}
use Rattle.book_model.specs.Sums.{numbers_below}
use Rattle.book_model.specs.Bound.{Tables, table_at, base_sum, step_of, small}
use Rattle.lane_kernels.specs.Table.{Table}
use Rattle.lane_kernels.specs.Sums.{entries_at}
use Rattle.adc_tables.specs.Full.{Full, table_size}

-- what callers see of small tables: the number of words in a code, the distance for which they are filled, the sum of the
-- least entries, the step, and the tables
pub record Small : Type 0 where
  pub g : ℕ
  pub theta0 : ℕ
  pub base : ℕ
  pub size : ℕ
  pub parts : List Table

-- a table in steps of this size
abbrev pub small_table : List ℕ → ℕ → Tables → ℕ → Table
small_table widths size ts j = record {
  width = slice_index widths (j % length widths);
  entries = map (small size (table_at ts j)) (numbers_below (length (table_at ts j)));
}

-- the small tables of full ones, filled with theta0
unfoldable pub small_of : List ℕ → Full → ℕ → Small
small_of widths full theta0 = record {
  g = full.g;
  theta0 = theta0;
  base = base_sum full.tables;
  size = step_of full.tables theta0;
  parts = map (small_table widths (step_of full.tables theta0) full.tables) (numbers_below (length full.tables));
}

-- each part has an entry for each word of its sub-quantizer
pub record HaveSizes (widths : List ℕ) (parts : List Table) : Type 0 where
  pub each : (j : ℕ) → j < length parts → length (entries_at parts j) ≡ table_size widths j
