-- Laws of index files.
use Rattle.std.specs.Prelude.{◌≡◌, ℕ, ◌*◌, ◌<◌, ◌≤◌, ◌⊎◌, ⊤, List, [], ◌∷◌, length, map, Ok, ◌==◌}
use Rattle.std.specs.List.{AllByRecursion, IsDistinct}
use Rattle.book_model.specs.Book.{Book, IsGood}
use Rattle.book_model.specs.Rows.{Row}
use Rattle.book_model.specs.Visit.{Query, visit}
use Rattle.book_model.specs.Answer.{answer, full_count}
use Rattle.file_fields.specs.Fields.{IsBytes}
use Rattle.cell_store.specs.Held.{IsRow}
use Rattle.index_file.specs.Reading.{index_outcome}
use Rattle.index_file.specs.Spelling.{by_cell, plain_bytes, index_bytes}

-- what a query finds is the same over rows and over these rows by rising cell
abbrev pub FindsSameByCell : Type 0
FindsSameByCell = (book : Book) (query : Query) (rows : List Row) → AllByRecursion (λ row. row.cell < book.k0 * book.k1) rows →
    (visit book query (by_cell (book.k0 * book.k1) rows) ≡ visit book query rows)
    × (answer book query (by_cell (book.k0 * book.k1) rows) ≡ answer book query rows)
    × (full_count book query (by_cell (book.k0 * book.k1) rows) ≡ full_count book query rows)

-- rows whose cells do not fall
abbrev pub AreByCell : List Row → Type 0
AreByCell [] = ⊤
AreByCell (row ∷ rows) = AllByRecursion (λ other. row.cell ≤ other.cell) rows × AreByCell rows

-- rows that may stand in an index of a book
pub record AreIndexed (book : Book) (rows : List Row) : Type 0 where
  pub few : length rows ≤ 4194304
  pub each : AllByRecursion (IsRow book.widths book.g (book.k0 * book.k1)) rows
  pub apart : IsDistinct (λ a b. a == b) (map (λ row. row.id) rows)
  pub ordered : AreByCell rows

-- an index is read from its spelling in either version
abbrev pub IndexesAreRead : Type 0
IndexesAreRead = (book : Book) (rows : List Row) → IsGood book → AreIndexed book rows →
    (index_outcome (plain_bytes book rows) ≡ Ok (record { book = book; rows = rows })) × (index_outcome (index_bytes book rows) ≡ Ok (record { book = book; rows = rows }))

-- a valid book, and rows that may stand in its index, in one of their spellings
pub record IsIndex (bytes : List ℕ) (book : Book) (rows : List Row) : Type 0 where
  pub good : IsGood book
  pub rows_are : AreIndexed book rows
  pub spelled : (bytes ≡ plain_bytes book rows) ⊎ (bytes ≡ index_bytes book rows)

-- what is read is spelled so
abbrev pub IndexesAreSpelled : Type 0
IndexesAreSpelled = (bytes : List ℕ) (book : Book) (rows : List Row) → IsBytes bytes → index_outcome bytes ≡ Ok (record { book = book; rows = rows }) → IsIndex bytes book rows
