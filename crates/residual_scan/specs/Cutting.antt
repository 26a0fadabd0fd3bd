-- How the rows of a cell are left out.
use Rattle.std.specs.Prelude.{◌≡◌, ℕ, ◌+◌, ◌-◌, ◌/◌, ◌<◌, ◌≤◌, true, false, List, ◌++◌, length, nat_lt, nat_le, slice_index, min}
use Rattle.book_model.specs.Sums.{sum_below}
use Rattle.book_model.specs.Order.{Pair, kth_least}
use Rattle.book_model.specs.Rows.{Row}
use Rattle.book_model.specs.Bound.{Tables, table_at, small, base_sum, step_of}
use Rattle.best_k.specs.Least.{Kept, least}
use Rattle.prune_scan.specs.LaneMasks.{is_set}
use Rattle.residual_scan.specs.Near.{pairs_in, near_count}
use Rattle.residual_scan.specs.declared.cutting.Cut.{Cut}

-- the bound of a code in steps of this size
abbrev pub bound_by : ℕ → Tables → List ℕ → ℕ
bound_by size ts code = min 255 (sum_below (length ts) (λ j. small size (table_at ts j) (slice_index code j)))

-- the cut is that of a cell with these tables after these pairs; if it is late, the cell does not lie wholly too far
pub record IsCut (ts : Tables) (k : ℕ) (before : List Pair) (cut : Cut) : Type 0 where
  pub early : cut.early ≡ nat_lt (length before) k
  pub base : cut.early ≡ false → cut.base ≡ base_sum ts
  pub step : cut.early ≡ false → cut.step ≡ step_of ts (kth_least k before)
  pub near : cut.early ≡ false → base_sum ts ≤ kth_least k before

-- a cell with these tables lies wholly too far after these pairs: no row of it is among the k least
pub record IsFarCell (ts : Tables) (k : ℕ) (before : List Pair) : Type 0 where
  pub late : k ≤ length before
  pub above : kth_least k before < base_sum ts

-- the lanes of a mask are those whose bound is not above the threshold of the k-th least distance so far; in an early cell each lane is
pub record AreNear (bounds : List ℕ) (cut : Cut) (best : Kept) (near : ℕ) : Type 0 where
  pub early : cut.early ≡ true → (i : ℕ) → i < 32 → is_set near i ≡ true
  pub late : cut.early ≡ false → (seen : List Pair) → best.pairs ≡ least best.k seen → best.k ≤ length seen → (i : ℕ) → i < 32
      → is_set near i ≡ nat_le (slice_index bounds i) ((kth_least best.k seen - cut.base) / cut.step)

-- the k least pairs of those before and these rows are held, and the meter rose by the full ones of these, whatever pairs came before the cell and since
abbrev pub Goes : Tables → Cut → List Row → Kept → Kept → ℕ → ℕ → Type 0
Goes ts cut rows best best' full full' = (before more : List Pair) → IsCut ts best.k before cut → best.pairs ≡ least best.k (before ++ more) →
    (best'.pairs ≡ least best.k ((before ++ more) ++ pairs_in ts rows)) × (full' ≡ full + near_count ts best.k before (before ++ more) rows) × (best'.k ≡ best.k) × (best'.room ≡ best.room)
