-- Words that are kept in blocks of 16, pair of components by pair of components, each component with its top bit turned.
use Rattle.std.specs.Prelude.{◌≡◌, ℕ, ◌+◌, ◌*◌, ◌/◌, ◌%◌, ◌<◌, ◌≤◌, List, length, map, take, drop, slice_index, bit_xor, nat_lt, if◌then◌else◌}
use Rattle.book_model.specs.Sums.{sum_below, numbers_below}
use Rattle.book_model.specs.Distance.{squared_gap}

-- words of n components that stand one after another
unfoldable pub words_in_row : ℕ → ℕ → List ℕ → List (List ℕ)
words_in_row count n components = map (λ w. take n (drop (w * n) components)) (numbers_below count)

-- what lane arithmetic makes of a component whose top bit is turned: it less 32768, in 32 bits that wrap
abbrev pub less_half : ℕ → ℕ
less_half c = (c + 4294934528) % 4294967296

-- what it makes of a signed number of 16 bits
abbrev pub signed : ℕ → ℕ
signed n = less_half (bit_xor n 32768)

-- how many pairs n components make
abbrev pub pairs_of : ℕ → ℕ
pairs_of n = (n + 1) / 2

-- how many blocks a list of words takes
abbrev pub blocks_of : ℕ → ℕ
blocks_of count = (count + 15) / 16

-- component i of word k of the 16 in a block that begins at `at`
abbrev pub component : List ℕ → ℕ → ℕ → ℕ → ℕ
component columns at k i = bit_xor (slice_index columns (at + 32 * (i / 2) + (2 * k + i % 2))) 32768

-- component i of word w, each word of n components
abbrev pub component_of : List ℕ → ℕ → ℕ → ℕ → ℕ
component_of columns n w i = component columns (w / 16 * (32 * pairs_of n)) (w % 16) i

-- the words of n components that columns keep
unfoldable pub words_kept : ℕ → ℕ → List ℕ → List (List ℕ)
words_kept count n columns = map (λ w. map (component_of columns n w) (numbers_below n)) (numbers_below count)

-- the squared distance of x at a scale to word w
abbrev pub column_distance : ℕ → List ℕ → List ℕ → ℕ → ℕ
column_distance scale columns x w = sum_below (length x) (λ i. squared_gap scale (slice_index x i) (component_of columns (length x) w i))

-- the square of a component
abbrev pub squared : ℕ → ℕ
squared c = c * c

-- columns for so many words of n components, whole blocks of them, with the sum of squares of each word
pub record AreColumns (n : ℕ) (columns norms : List ℕ) (count : ℕ) : Type 0 where
  pub room : blocks_of count * (32 * pairs_of n) ≤ length columns
  pub long : blocks_of count * 16 ≤ length norms
  pub squares : (w : ℕ) → w < blocks_of count * 16 → slice_index norms w ≡ sum_below n (λ i. squared (component_of columns n w i))

-- what is kept for component i of word w of `count` words that stand one after another, each of n components, and what fills up
abbrev pub kept : List ℕ → ℕ → ℕ → ℕ → ℕ → ℕ
kept words count n w i = if nat_lt w count then (if nat_lt i n then bit_xor (slice_index words (w * n + i)) 32768 else 32768) else 32768

-- what stands at place q of the columns
abbrev pub kept_at : List ℕ → ℕ → ℕ → ℕ → ℕ
kept_at words count n q = kept words count n (16 * (q / 32 / pairs_of n) + q % 32 / 2) (2 * (q / 32 % pairs_of n) + q % 2)
