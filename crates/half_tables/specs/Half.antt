-- The tables of one half: those of the sub-quantizers that lie in one part, for one coarse word of that part.
use Rattle.std.specs.Prelude.{◌≡◌, ℕ, zero, suc, ◌+◌, ◌-◌, ◌%◌, ◌<◌, ◌≤◌, List, [], length, map, filter, take, drop, nat_lt, nat_le, slice_index, slice_index_or, if◌then◌else◌}
use Rattle.book_model.specs.Sums.{sum_below, numbers_below, least}
use Rattle.book_model.specs.Book.{Book, part, sub_count, sub_words, start_of, length_of}
use Rattle.book_model.specs.Bound.{Tables, table_at, small}
use Rattle.lane_kernels.specs.Table.{Table}
use Rattle.lane_kernels.specs.Sums.{width_at, entries_at}
use Rattle.adc_tables.specs.Full.{table_size}
use Rattle.word_columns.specs.Left.{rest_dist}

-- the sub-quantizers of a half, in order
abbrev pub subs_of_half : Book → ℕ → List ℕ
subs_of_half book zero = filter (λ j. nat_lt (start_of book j) book.h) (numbers_below (sub_count book))
subs_of_half book (suc _) = filter (λ j. nat_le book.h (start_of book j)) (numbers_below (sub_count book))

-- a stretch of a coarse word, whose first component is component `from` of a vector
abbrev pub stretch_of : Book → ℕ → ℕ → List ℕ → List ℕ
stretch_of book j from word = take (length_of book j) (drop (start_of book j - from) word)

-- the distances of the query's residual to the words of sub-quantizer j, if this is the coarse word of its part, which begins at component `from`
abbrev pub distances_from : Book → List ℕ → ℕ → List ℕ → ℕ → List ℕ
distances_from book v from word j = map (rest_dist book.scale (part book j v) (stretch_of book j from word)) (sub_words book j)

-- the same for a half and the coarse word of that number
abbrev pub half_distances : Book → List ℕ → ℕ → ℕ → ℕ → List ℕ
half_distances book v zero word j = distances_from book v 0 (slice_index_or book.coarse0 word []) j
half_distances book v (suc _) word j = distances_from book v book.h (slice_index_or book.coarse1 word []) j

unfoldable pub half_of : Book → List ℕ → ℕ → ℕ → Tables
half_of book v half word = map (half_distances book v half word) (subs_of_half book half)

-- how many coarse words the part of a half has
abbrev pub coarse_count : Book → ℕ → ℕ
coarse_count book zero = book.k0
coarse_count book (suc _) = book.k1

-- how many of the first n sub-quantizers begin in part 0
abbrev pub split_below : Book → ℕ → ℕ
split_below book n = sum_below n (λ j. if nat_lt (start_of book j) book.h then 1 else 0)

-- how many sub-quantizers part 0 has
abbrev pub split_of : Book → ℕ
split_of book = split_below book (sub_count book)

-- the first sub-quantizer of a half, and how many it has, if part 0 has `split` of n
abbrev pub first_of : ℕ → ℕ → ℕ
first_of zero split = 0
first_of (suc _) split = split

abbrev pub count_of : ℕ → ℕ → ℕ → ℕ
count_of zero split n = split
count_of (suc _) split n = n - split

-- what callers see of a half's tables: the half, the number of words in a code, how many sub-quantizers part 0 has, and the tables
pub record HalfSeen : Type 0 where
  pub half : ℕ
  pub g : ℕ
  pub split : ℕ
  pub tables : Tables

-- the room was made for a book
abbrev pub IsRoomOf : Book → HalfSeen → Type 0
IsRoomOf book seen = (seen.g ≡ book.g) × (seen.split ≡ split_of book)

-- it is filled for a half of a query by a book
abbrev pub IsHalfOf : Book → List ℕ → ℕ → ℕ → HalfSeen → Type 0
IsHalfOf book v half word seen = (seen.half ≡ half) × (seen.g ≡ book.g) × (seen.split ≡ split_of book) × (seen.tables ≡ half_of book v half word)

-- the two halves of one book
pub record AreHalves (low high : HalfSeen) : Type 0 where
  pub low_half : low.half ≡ 0
  pub high_half : high.half ≡ 1
  pub g : high.g ≡ low.g
  pub split : high.split ≡ low.split

-- where table i begins among those from table `first` on
abbrev pub start_from : List ℕ → ℕ → ℕ → ℕ
start_from widths first i = sum_below i (λ k. table_size widths (first + k))

-- table i of those from table `first` on
abbrev pub table_from : List ℕ → ℕ → List ℕ → ℕ → List ℕ
table_from widths first entries i = take (table_size widths (first + i)) (drop (start_from widths first i) entries)

-- the tables from table `first` on, which stand one after another
unfoldable pub tables_from : List ℕ → ℕ → ℕ → List ℕ → Tables
tables_from widths first count entries = map (table_from widths first entries) (numbers_below count)

-- each number is at most this
abbrev pub Bounded : ℕ → List ℕ → Type 0
Bounded most xs = (i : ℕ) → slice_index xs i ≤ most

-- the least entry of each table from table `first` on
abbrev pub AreLeast : List ℕ → ℕ → ℕ → List ℕ → List ℕ → Type 0
AreLeast widths first count entries kept = (i : ℕ) → i < count → slice_index kept i ≡ least (table_from widths first entries i)

-- the sum of the entries that a code picks from the tables from table `first` on
abbrev pub picked_from : Tables → ℕ → List ℕ → ℕ
picked_from ts first code = sum_below (length ts) (λ i. slice_index (table_at ts i) (slice_index code (first + i)))

-- the sum of the small entries that it picks, in steps of this size
abbrev pub small_from : ℕ → Tables → ℕ → List ℕ → ℕ
small_from size ts first code = sum_below (length ts) (λ i. small size (table_at ts i) (slice_index code (first + i)))

-- parts for the tables from table `first` on, each of its field's width
pub record AreParts (widths : List ℕ) (first : ℕ) (parts : List Table) : Type 0 where
  pub each : (i : ℕ) → i < length parts → width_at parts i ≡ slice_index widths ((first + i) % length widths)
  pub sizes : (i : ℕ) → i < length parts → length (entries_at parts i) ≡ table_size widths (first + i)

-- a table of a half in steps of this size
abbrev pub small_part : List ℕ → ℕ → ℕ → Tables → ℕ → Table
small_part widths first size ts i = record {
  width = slice_index widths ((first + i) % length widths);
  entries = map (small size (table_at ts i)) (numbers_below (length (table_at ts i)));
}
