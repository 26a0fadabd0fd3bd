-- Full tables: the distances of a query to all words, one table after another.
use Rattle.std.specs.Prelude.{◌≡◌, ℕ, ◌+◌, ◌*◌, ◌^◌, ◌%◌, ◌<◌, ◌≤◌, List, length, map, take, drop, slice_index}
use Rattle.shape_core.specs.Word.{field_of}
use Rattle.book_model.specs.Sums.{sum_below, numbers_below}
use Rattle.book_model.specs.Book.{Book, IsGood}
use Rattle.book_model.specs.Bound.{Tables, tables, table_at}

-- how many entries table j has: one for each word of its sub-quantizer
abbrev pub table_size : List ℕ → ℕ → ℕ
table_size widths j = 2 ^ slice_index widths (j % length widths)

-- where table j begins: after the entries of the tables before it
abbrev pub table_start : List ℕ → ℕ → ℕ
table_start widths j = sum_below j (table_size widths)

-- table j
abbrev pub table_in : List ℕ → List ℕ → ℕ → List ℕ
table_in widths entries j = take (table_size widths j) (drop (table_start widths j) entries)

-- n tables that stand one after another
unfoldable pub tables_in : List ℕ → ℕ → List ℕ → Tables
tables_in widths n entries = map (table_in widths entries) (numbers_below n)

-- the entry that field f of a word picks, where the tables of the word begin at place `at`
abbrev pub entry_of_field : List ℕ → List ℕ → ℕ → ℕ → ℕ → ℕ
entry_of_field widths entries at word f = slice_index entries (at + table_start widths f + field_of widths word f)

-- what callers see of full tables: the number of words in a code, and a table for each of its fields
pub record Full : Type 0 where
  pub g : ℕ
  pub tables : Tables

-- at most 32 words, a table for each field of them, and an entry for each word of its sub-quantizer
pub record HasSizes (widths : List ℕ) (full : Full) : Type 0 where
  pub few : full.g ≤ 32
  pub count : length full.tables ≡ full.g * length widths
  pub each : (j : ℕ) → j < length full.tables → length (table_at full.tables j) ≡ table_size widths j

-- the full tables of a query
abbrev pub full_of : Book → List ℕ → Full
full_of book query = record { g = book.g; tables = tables book query }

-- full tables that are filled for a query by a good book of the shape
pub record IsFilledFor (widths : List ℕ) (book : Book) (query : List ℕ) (full : Full) : Type 0 where
  pub good : IsGood book
  pub shape : book.widths ≡ widths
  pub filled : full ≡ full_of book query

-- the entries of n tables, each at most the greatest distance of a stretch to a word: 1024 squares of 65535
pub record AreEntries (widths : List ℕ) (n : ℕ) (entries : List ℕ) : Type 0 where
  pub count : length entries ≡ table_start widths n
  pub small : (i : ℕ) → slice_index entries i ≤ 4397912294400
