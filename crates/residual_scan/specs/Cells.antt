-- What the scan of a cell needs.
use Rattle.std.specs.Prelude.{◌≡◌, ℕ, ◌+◌, ◌^◌, ◌≤◌, List, ◌++◌, length}
use Rattle.lane_kernels.specs.Table.{Table}
use Rattle.lane_kernels.specs.Sums.{AreTables}
use Rattle.adc_tables.specs.Full.{HasSizes}
use Rattle.adc_tables.specs.Small.{HaveSizes}
use Rattle.half_tables.specs.Half.{HalfSeen, AreHalves}
use Rattle.prune_scan.specs.declared.meters.Meters.{Meters}

-- the tables of the two halves of a cell, for codes of g words
pub record AreOfCell (widths : List ℕ) (g : ℕ) (low high : HalfSeen) : Type 0 where
  pub halves : AreHalves low high
  pub g_is : low.g ≡ g
  pub split : low.split ≡ length low.tables
  pub sizes : HasSizes widths (record { g = g; tables = low.tables ++ high.tables })

-- room for their small entries: a table for each sub-quantizer
pub record IsSmallRoom (widths : List ℕ) (g : ℕ) (parts : List Table) : Type 0 where
  pub tables : AreTables widths g parts
  pub sizes : HaveSizes widths parts

-- the meters of a scan are far from their ends
pub record CanScan (meters : Meters) : Type 0 where
  pub half_full : meters.half_full ≤ 2 ^ 62 + 2 ^ 32
  pub blocks : meters.blocks ≤ 2 ^ 62 + 2 ^ 40
  pub lanes : meters.lanes ≤ 2 ^ 62 + 2 ^ 40
