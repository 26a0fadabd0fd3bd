-- The rows of a block, and what tells which of them are pruned.
use Rattle.std.specs.Prelude.{◌≡◌, ℕ, zero, suc, ◌-◌, ◌/◌, ◌<◌, Bool, true, false, List, [], ◌∷◌, ◌++◌, length, min, slice_index, slice_index_or, nat_le, if◌then◌else◌}
use Rattle.book_model.specs.Rows.{Row}
use Rattle.book_model.specs.Order.{Pair, kth_least}
use Rattle.shape_core.specs.Word.{code_of_words}
use Rattle.lane_kernels.specs.Sums.{code_sum}
use Rattle.cell_store.specs.Slots.{slot_at}
use Rattle.cell_store.specs.declared.Slot.{Slot}
use Rattle.best_k.specs.Least.{Kept, least}
use Rattle.adc_tables.specs.Small.{Small}
use Rattle.prune_scan.specs.LaneMasks.{is_set}
use Rattle.prune_scan.specs.declared.block.Limit.{Limit}
use Rattle.prune_scan.specs.declared.block.Near.{Near}

-- each lane's code has g words
pub record AreCodes (g : ℕ) (codes : List (List ℕ)) : Type 0 where
  pub each : (i : ℕ) → i < 32 → length (slice_index_or codes i []) ≡ g

-- the row of a lane
abbrev pub lane_row : List ℕ → ℕ → List Slot → List (List ℕ) → ℕ → Row
lane_row widths cell slots codes i = record { id = (slot_at slots i).id; cell = cell; code = code_of_words widths (slice_index_or codes i []) }

-- the rows of the first n lanes that are marked
unfoldable pub marked_rows : List ℕ → ℕ → List Slot → ℕ → List (List ℕ) → ℕ → List Row
marked_rows widths cell slots marks codes zero = []
marked_rows widths cell slots marks codes (suc i) = marked_rows widths cell slots marks codes i ++ (if is_set marks i then lane_row widths cell slots codes i ∷ [] else [])

-- once rows are pruned, the limit has the k-th least distance and its threshold
pub record IsLimit (pruning : Bool) (small : Small) (best : Kept) (limit : Limit) : Type 0 where
  pub theta : pruning ≡ true → (pairs : List Pair) → best.pairs ≡ least best.k pairs → limit.theta ≡ kth_least best.k pairs
  pub most : pruning ≡ true → limit.most ≡ (limit.theta - small.base) / small.size

-- before that each lane is near; then those whose bound is not above the threshold are
pub record IsNear (widths : List ℕ) (codes : List (List ℕ)) (pruning : Bool) (small : Small) (most : ℕ) (near : Near) : Type 0 where
  pub open_before : pruning ≡ false → (i : ℕ) → i < 32 → is_set near.lanes i ≡ true
  pub bounds : pruning ≡ true → (i : ℕ) → i < 32 → slice_index near.bounds i ≡ min 255 (code_sum widths small.parts (slice_index_or codes i []))
  pub lanes : pruning ≡ true → (i : ℕ) → i < 32 → is_set near.lanes i ≡ nat_le (slice_index near.bounds i) most
