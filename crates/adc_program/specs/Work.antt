-- The work of a run, by its meters.
use Rattle.std.specs.Prelude.{◌≡◌, ◌+◌, ◌*◌, ◌^◌, ◌≤◌, ◌<◌, ℕ, List, []}
use Rattle.book_model.specs.declared.limits.TheConstants.{MAX_ROWS}
use Rattle.cell_store.specs.State.{Store}
use Rattle.play_script.specs.Play.{Counts, full_sum, sum_limit}
use Rattle.prune_scan.specs.declared.meters.Meters.{Meters}
use Rattle.query_engine.specs.Report.{HaveRoom}

-- queries took a full distance for each of their full rows, and no more sums than they may
pub record Works (queries : List Counts) (old new : Meters) : Type 0 where
  pub full : new.full ≡ old.full + full_sum queries
  pub pairs : (old.pairs ≤ new.pairs) × (new.pairs ≤ old.pairs + sum_limit queries)

-- a store in which nothing is pinned, of the program's size
pub record IsPlain (store : Store) : Type 0 where
  pub pins : store.pins ≡ []
  pub most : store.most ≡ MAX_ROWS

-- each count is early enough for a run
pub record AreEarly (meters : Meters) : Type 0 where
  pub pairs : meters.pairs ≤ 2 ^ 61
  pub full : meters.full ≤ 2 ^ 61
  pub blocks : meters.blocks ≤ 2 ^ 61
  pub lanes : meters.lanes ≤ 2 ^ 61

-- the stamp and each count are far from their ends
pub record IsFarFromEnd (store : Store) (meters : Meters) : Type 0 where
  pub stamp : store.stamp < 2 ^ 62
  pub room : HaveRoom meters

-- n commands raise the stamp and each count by little
pub record RiseLittle (n : ℕ) (store store1 : Store) (old new : Meters) : Type 0 where
  pub stamp : store1.stamp ≤ store.stamp + n
  pub pairs : new.pairs ≤ old.pairs + n * 2 ^ 22
  pub full : new.full ≤ old.full + n * 2 ^ 24
  pub blocks : new.blocks ≤ old.blocks + n * 2 ^ 22
  pub lanes : new.lanes ≤ old.lanes + n * 2 ^ 22
