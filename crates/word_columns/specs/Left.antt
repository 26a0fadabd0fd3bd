-- Distances of what is left of a list of bytes when a coarse word is taken off. A component u of a word stands for u - 32768 here, so that what is left
-- below 0 has near words too. Both sides are written 32768 higher, which keeps them natural.
use Rattle.std.specs.Prelude.{◌≡◌, ℕ, ◌+◌, ◌-◌, ◌*◌, ◌/◌, ◌%◌, ◌^◌, ◌<◌, ◌≤◌, List, length, slice_index, bit_xor}
use Rattle.std.specs.Int.{abs_diff}
use Rattle.book_model.specs.Sums.{sum_below}
use Rattle.word_columns.specs.Columns.{component_of, squared}

-- the square of (x * 2^f - c) - (u - 32768)
abbrev pub rest_gap : ℕ → ℕ → ℕ → ℕ → ℕ
rest_gap f x c u = abs_diff (x * 2 ^ f + 32768) (c + u) * abs_diff (x * 2 ^ f + 32768) (c + u)

-- the squared distance of what is left of x, when c is taken off, to a word
unfoldable pub rest_dist : ℕ → List ℕ → List ℕ → List ℕ → ℕ
rest_dist f x c word = sum_below (length x) (λ i. rest_gap f (slice_index x i) (slice_index c i) (slice_index word i))

-- the same to word w of the columns
abbrev pub column_rest : ℕ → List ℕ → List ℕ → List ℕ → ℕ → ℕ
column_rest f columns x c w = sum_below (length x) (λ i. rest_gap f (slice_index x i) (slice_index c i) (component_of columns (length x) w i))

-- what is left, 65536 higher and so above 0
abbrev pub lifted : ℕ → ℕ → ℕ → ℕ
lifted f x c = x * 2 ^ f + 65536 - c

-- the same as 256 times one number and another, each 128 higher and below 512
abbrev pub high_of : ℕ → ℕ
high_of t = t / 256

abbrev pub low_of : ℕ → ℕ
low_of t = t % 256 + 128

-- where sums of products of n numbers of this sum begin, so that they stay above 0
abbrev pub start_of : ℕ → ℕ → ℕ
start_of n total = total * 32768 + (1073741824 - n * 4194304)

-- the two numbers of each component, as signed numbers, with the sum of the squares of what is left and where sums of products begin
pub record IsSplit (f : ℕ) (x c high low : List ℕ) (total first second : ℕ) : Type 0 where
  pub high_long : length x ≤ length high
  pub low_long : length x ≤ length low
  pub highs : (i : ℕ) → i < length x → bit_xor (slice_index high i) 32768 ≡ high_of (lifted f (slice_index x i) (slice_index c i)) + 32640
  pub lows : (i : ℕ) → i < length x → bit_xor (slice_index low i) 32768 ≡ low_of (lifted f (slice_index x i) (slice_index c i)) + 32640
  pub squares : total ≡ sum_below (length x) (λ i. squared (abs_diff (lifted f (slice_index x i) (slice_index c i)) 32768))
  pub high_start : first ≡ start_of (length x) (sum_below (length x) (λ i. high_of (lifted f (slice_index x i) (slice_index c i))))
  pub low_start : second ≡ start_of (length x) (sum_below (length x) (λ i. low_of (lifted f (slice_index x i) (slice_index c i))))
