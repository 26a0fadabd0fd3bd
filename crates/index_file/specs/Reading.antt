-- Reading an index of either version, with the first fault that is met.
use Rattle.std.specs.Prelude.{ℕ, zero, suc, ◌+◌, ◌-◌, ◌*◌, ◌^◌, List, [], ◌∷◌, ◌++◌, length, sum, min, Result, Ok, Err, nat_lt, ◌==◌, bytes_eq, codes, take, drop, if◌then◌else◌}
use Rattle.std.specs.Int.{w16, w32}
use Rattle.adc_ports.specs.declared.What.TheVariants.{Bytes, Book as BookLength, Rows, Id}
use Rattle.adc_ports.specs.Reading.{Fault, Malformed, Limit, Read, ◌>>=◌, allowed_at, limited_at, ends_at}
use Rattle.shape_core.specs.Word.{code_of_words}
use Rattle.book_model.specs.Book.{Book}
use Rattle.book_model.specs.Rows.{Row, has_id}
use Rattle.codebook_core.specs.Reading.{book_at}
use Rattle.index_file.specs.declared.version.Version.{Version}
use Rattle.index_file.specs.declared.version.Version.TheVariants.{One, Two}

-- what an index file holds
pub record Indexed : Type 0 where
  pub book : Book
  pub rows : List Row

-- what rows are read by: the widths of a word, the words of a code and the number of cells
pub record Layout : Type 0 where
  pub widths : List ℕ
  pub g : ℕ
  pub cells : ℕ

abbrev pub layout_of : Book → Layout
layout_of book = record { widths = book.widths; g = book.g; cells = book.k0 * book.k1 }

-- as many words whose unused high bits are 0
abbrev pub words_at : List ℕ → ℕ → List ℕ → ℕ → Read (List ℕ)
words_at widths zero bytes at = Ok ([], at)
words_at widths (suc n) bytes at = do
  word ← allowed_at w16 0 (2 ^ sum widths - 1) bytes at
  words ← words_at widths n bytes word.1
  Ok (word.0 ∷ words.0, words.1)

-- an id that stands in none of these rows
unfoldable pub id_at : List Row → List ℕ → ℕ → Read ℕ
id_at rows bytes at = do
  id ← limited_at Id w32 0 2147483647 bytes at
  if has_id rows id.0 then Err (Malformed at) else Ok id

-- a row of version 1 behind these, of a cell from low on
unfoldable pub row_at : Layout → List Row → ℕ → List ℕ → ℕ → Read Row
row_at layout rows low bytes at = do
  id ← id_at rows bytes at
  cell ← allowed_at w32 low (layout.cells - 1) bytes id.1
  words ← words_at layout.widths layout.g bytes cell.1
  Ok (record { id = id.0; cell = cell.0; code = code_of_words layout.widths words.0 }, words.1)

-- so many rows of version 1 behind these, of cells that do not fall
abbrev pub rows_at : ℕ → Layout → List Row → ℕ → List ℕ → ℕ → Read (List Row)
rows_at zero layout rows low bytes at = Ok (rows, at)
rows_at (suc n) layout rows low bytes at = do
  row ← row_at layout rows low bytes at
  rows_at n layout (rows ++ row.0 ∷ []) row.0.cell bytes row.1

-- a row of a group behind these, which has its cell from the group
unfoldable pub member_at : Layout → ℕ → List Row → List ℕ → ℕ → Read Row
member_at layout cell rows bytes at = do
  id ← id_at rows bytes at
  words ← words_at layout.widths layout.g bytes id.1
  Ok (record { id = id.0; cell = cell; code = code_of_words layout.widths words.0 }, words.1)

abbrev pub members_at : ℕ → Layout → ℕ → List Row → List ℕ → ℕ → Read (List Row)
members_at zero layout cell rows bytes at = Ok (rows, at)
members_at (suc n) layout cell rows bytes at = do
  row ← member_at layout cell rows bytes at
  members_at n layout cell (rows ++ row.0 ∷ []) bytes row.1

-- the cell and the count at the front of a group, which leaves 1 or more rows for each group that comes; the last takes the rest
unfoldable pub head_at : ℕ → ℕ → ℕ → ℕ → List ℕ → ℕ → Read (ℕ × ℕ)
head_at cells low more left bytes at = do
  cell ← allowed_at w32 low (cells - 1) bytes at
  count ← allowed_at w32 (if more == 0 then left else 1) (left - more) bytes cell.1
  Ok ((cell.0, count.0), count.1)

-- so many groups of version 2 behind these rows, of so many rows together, and of cells from low on that rise
abbrev pub groups_at : ℕ → Layout → ℕ → List Row → ℕ → List ℕ → ℕ → Read (List Row)
groups_at zero layout left rows low bytes at = Ok (rows, at)
groups_at (suc more) layout left rows low bytes at = do
  head ← head_at layout.cells low more left bytes at
  members ← members_at head.0.1 layout head.0.0 rows bytes head.1
  groups_at more layout (left - head.0.1) members.0 (head.0.0 + 1) bytes members.1

-- the counts and what they count
unfoldable pub counted_at : Version → Layout → List ℕ → ℕ → Read (List Row)
counted_at One layout bytes at = do
  count ← limited_at Rows w32 0 4194304 bytes at
  rows_at count.0 layout [] 0 bytes count.1
counted_at Two layout bytes at = do
  count ← limited_at Rows w32 0 4194304 bytes at
  groups ← allowed_at w32 (min 1 count.0) (min count.0 layout.cells) bytes count.1
  groups_at groups.0 layout count.0 [] 0 bytes groups.1

-- all rows, with which the file ends
abbrev pub all_rows : Version → Layout → List ℕ → ℕ → Result (List Row) Fault
all_rows version layout bytes at = counted_at version layout bytes at >>= ends_at bytes

-- the eight letters at the front say which version it is
unfoldable pub version_at : List ℕ → ℕ → Read Version
version_at bytes at = if bytes_eq (take 8 (drop at bytes)) (codes "ADCINDX1") then Ok (One, at + 8)
    else (if bytes_eq (take 8 (drop at bytes)) (codes "ADCINDX2") then Ok (Two, at + 8) else Err (Malformed at))

-- the version, and the length of the book that stands from 12 on
unfoldable pub start_of : List ℕ → Result (Version × ℕ) Fault
start_of bytes = do
  version ← version_at bytes 0
  size ← limited_at BookLength w32 0 4194304 bytes version.1
  Ok (version.0, size.0)

-- the version, and a book of exactly as many bytes as its length says
unfoldable pub front_of : List ℕ → Read (Version × Book)
front_of bytes = do
  start ← start_of bytes
  book ← book_at (take (12 + start.1) bytes) 12
  if book.1 == 12 + start.1 then Ok ((start.0, book.0), book.1) else Err (Malformed book.1)

-- a whole file of either version
unfoldable pub index_outcome : List ℕ → Result Indexed Fault
index_outcome bytes = if nat_lt 2147483648 (length bytes) then Err (Limit Bytes (length bytes)) else do
  front ← front_of bytes
  rows ← all_rows front.0.0 (layout_of front.0.1) bytes front.1
  Ok (record { book = front.0.1; rows = rows })
