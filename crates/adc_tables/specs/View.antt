-- What the fields of full and small tables stand for.
use Rattle.std.specs.Prelude.{◌≡◌, ℕ, ◌+◌, ◌-◌, ◌*◌, ◌/◌, ◌≤◌, List, length}
use Rattle.lane_kernels.specs.Sums.{AreTables}
use Rattle.adc_tables.specs.declared.full.FullTables.TheInside.{Inside as FullInside}
use Rattle.adc_tables.specs.declared.small.SmallTables.TheInside.{Inside as SmallInside}
use Rattle.adc_tables.specs.Full.{Full, AreEntries, tables_in}
use Rattle.adc_tables.specs.Small.{Small, HaveSizes}

abbrev pub view_full : {S : Type 0} → List ℕ → FullInside S → Full
view_full widths full = record { g = full.g; tables = tables_in widths (full.g * length widths) full.entries.items }

pub record IsFull {S : Type 0} (widths : List ℕ) (full : FullInside S) : Type 0 where
  pub few : full.g ≤ 32
  pub entries : AreEntries widths (full.g * length widths) full.entries.items

abbrev pub view_small : {S : Type 0} → SmallInside S → Small
view_small small = record { g = small.g; theta0 = small.theta0; base = small.base; size = small.step; parts = small.parts.items }

-- a part for each field, of its size, and the step of theta0
pub record IsSmall {S : Type 0} (widths : List ℕ) (small : SmallInside S) : Type 0 where
  pub tables : AreTables widths small.g small.parts.items
  pub sizes : HaveSizes widths small.parts.items
  pub step : small.step ≡ (small.theta0 - small.base) / 255 + 1
