-- What a scan by radius found.
use Rattle.std.specs.Prelude.{◌≡◌, ℕ, ◌+◌, ◌<◌, ◌≤◌, List, [], ◌++◌, length, map, min, nat_le, slice_index_or, MatchOption}
use Rattle.book_model.specs.Book.{Book}
use Rattle.book_model.specs.Rows.{Row}
use Rattle.book_model.specs.Bound.{base_sum, threshold}
use Rattle.book_model.specs.Answer.{pairs_of}
use Rattle.lane_kernels.specs.Sums.{code_sum}
use Rattle.best_k.specs.Least.{key_of}
use Rattle.best_k.specs.declared.Pair.{Pair}
use Rattle.adc_tables.specs.Full.{Full, IsFilledFor}
use Rattle.adc_tables.specs.Small.{Small, small_of}
use Rattle.prune_scan.specs.LaneMasks.{is_set}
use Rattle.radius_scan.specs.Radius.{pairs_within, full_within}
use Rattle.radius_scan.specs.declared.block.Reach.{Reach}

-- these rows were scanned: by whatever book and query filled the tables, the pairs of those within r came behind the pairs that were there, and the meter rose by as many rows as are full
pub record Scans (widths : List ℕ) (tables : Full) (r : ℕ) (rows : List Row) (old new : List Pair) (full full' : ℕ) : Type 0 where
  pub found : (book : Book) (query : List ℕ) → IsFilledFor widths book query tables → map key_of new ≡ map key_of old ++ pairs_within r (pairs_of book query rows)
  pub counted : (book : Book) (query : List ℕ) → IsFilledFor widths book query tables → full' ≡ full + full_within book query r rows
  pub few : length new ≤ length old + length rows
  pub risen : (full ≤ full') × (full' ≤ full + length rows)

-- the small tables are filled for r, which is not below the sum of the bases, from full tables for codes of at most 32 words, and this is the threshold of r
pub record IsThreshold (widths : List ℕ) (tables : Full) (small : Small) (r most : ℕ) : Type 0 where
  pub few_words : tables.g ≤ 32
  pub above : base_sum tables.tables ≤ r
  pub made : small ≡ small_of widths tables r
  pub most_is : most ≡ threshold tables.tables r r

-- a radius with its threshold, and with none if it is below the sum of the bases
abbrev pub IsReach : List ℕ → Full → Small → Reach → Type 0
IsReach widths tables small reach = MatchOption reach.most (reach.radius < base_sum tables.tables) (λ most. IsThreshold widths tables small reach.radius most)

-- a mask of the lanes whose bound is not above the threshold
pub record AreNear (widths : List ℕ) (codes : List (List ℕ)) (small : Small) (most lanes : ℕ) : Type 0 where
  pub each : (i : ℕ) → i < 32 → is_set lanes i ≡ nat_le (min 255 (code_sum widths small.parts (slice_index_or codes i []))) most
