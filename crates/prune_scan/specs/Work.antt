-- What the scan of a cell costs.
use Rattle.std.specs.Prelude.{◌≡◌, ℕ, ◌+◌, ◌/◌, ◌≤◌, ◌^◌}
use Rattle.prune_scan.specs.declared.meters.Meters.{Meters}

-- the meters of a scan are far from their ends
pub record CanScan (meters : Meters) : Type 0 where
  pub full : meters.full ≤ 2 ^ 62 + 2 ^ 32
  pub blocks : meters.blocks ≤ 2 ^ 62 + 2 ^ 40
  pub lanes : meters.lanes ≤ 2 ^ 62 + 2 ^ 40

-- and those of what any scan reads
pub record CanRead (meters : Meters) : Type 0 where
  pub blocks : meters.blocks ≤ 2 ^ 62 + 2 ^ 40
  pub lanes : meters.lanes ≤ 2 ^ 62 + 2 ^ 40

-- at most a block and a call over lanes for each 32 of these rows, which are few
pub record Reads (rows : ℕ) (old new : Meters) : Type 0 where
  pub blocks : new.blocks ≤ old.blocks + (rows + 31) / 32
  pub lanes : new.lanes ≤ old.lanes + (rows + 31) / 32
  pub pairs : new.pairs ≡ old.pairs
  pub few_blocks : new.blocks ≤ old.blocks + 524290
  pub few_lanes : new.lanes ≤ old.lanes + 524290
  pub reads_never_fall : (old.blocks ≤ new.blocks) × (old.lanes ≤ new.lanes)
