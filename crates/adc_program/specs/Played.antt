-- What a script is played on, as its player sees it, and the work of its queries.
use Rattle.std.specs.Prelude.{◌≡◌, ℕ, ◌+◌, ◌*◌, ◌^◌, ◌≤◌, ◌<◌, List, length, sum_by}
use Rattle.book_model.specs.Book.{Book}
use Rattle.book_model.specs.Rows.{Row}
use Rattle.book_model.specs.Visit.{Query, visit}
use Rattle.cell_store.specs.State.{Store, live_rows}
use Rattle.play_script.specs.Play.{Means, Asking}
use Rattle.prune_scan.specs.declared.meters.Meters.{Meters}

-- a book, a store of its rows, and for how many tables of halves there is room
pub record Stand : Type 0 where
  pub book : Book
  pub store : Store
  pub cache : ℕ

abbrev pub rows_of : Stand → List Row
rows_of stand = live_rows stand.store

-- what meters count: sums of ranked distances, full distances, computed tables of halves, blocks of codes, and calls over lanes
pub record Metered : Type 0 where
  pub pairs : ℕ
  pub full : ℕ
  pub halves : ℕ
  pub blocks : ℕ
  pub lanes : ℕ

-- how many tables of halves a query computes with room for so many
abbrev pub Computes : Type 0
Computes = ℕ → Book → Query → List Row → ℕ

-- what was asked took a full distance for each full row, computed exactly these tables of halves, and read no more sums than it may
pub record HaveAsked (means : Means) (computes : Computes) (stand : Stand) (asked : List Asking) (old new : Metered) : Type 0 where
  pub full : new.full ≡ old.full + sum_by (λ a. means.full stand.book a.query a.rows) asked
  pub halves : new.halves ≡ old.halves + sum_by (λ a. computes stand.cache stand.book a.query a.rows) asked
  pub pairs : (old.pairs ≤ new.pairs) × (new.pairs ≤ old.pairs + sum_by (λ a. 2 * length (visit stand.book a.query a.rows) + 1) asked)

-- each count is at most this
pub record AreUpTo (most : ℕ) (meters : Metered) : Type 0 where
  pub pairs : meters.pairs ≤ most
  pub full : meters.full ≤ most
  pub halves : meters.halves ≤ most
  pub blocks : meters.blocks ≤ most
  pub lanes : meters.lanes ≤ most

-- the stamp and each count are far from their ends
pub record AreFarFromEnd (stand : Stand) (meters : Metered) : Type 0 where
  pub stamp : stand.store.stamp < 2 ^ 62
  pub room : AreUpTo (2 ^ 62) meters

-- n commands raise the stamp and each count by little
pub record RisesBy (n : ℕ) (stand stand1 : Stand) (old new : Metered) : Type 0 where
  pub stamp : stand1.store.stamp ≤ stand.store.stamp + n
  pub pairs : new.pairs ≤ old.pairs + n * 2 ^ 22
  pub full : new.full ≤ old.full + n * 2 ^ 24
  pub halves : new.halves ≤ old.halves + n * 2 ^ 22
  pub blocks : new.blocks ≤ old.blocks + n * 2 ^ 22
  pub lanes : new.lanes ≤ old.lanes + n * 2 ^ 22

-- an engine of codes computes no tables of halves
abbrev pub no_halves : Computes
no_halves cache book query rows = 0

abbrev pub metered_of : Meters → Metered
metered_of meters = record { pairs = meters.pairs; full = meters.full; halves = 0; blocks = meters.blocks; lanes = meters.lanes }
