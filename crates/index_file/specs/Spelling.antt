-- The bytes of an index of either version.
use Rattle.std.specs.Prelude.{ℕ, List, [], ◌∷◌, ◌++◌, length, codes, ◌==◌, if◌then◌else◌}
use Rattle.std.specs.Int.{w16, w32, to_le_bytes}
use Rattle.std.specs.List.{flat_map}
use Rattle.shape_core.specs.Word.{words_of}
use Rattle.book_model.specs.Sums.{numbers_below}
use Rattle.book_model.specs.Book.{Book}
use Rattle.book_model.specs.Rows.{Row, rows_in}
use Rattle.codebook_core.specs.Spelling.{spelled, book_bytes}

-- the rows by rising cell, in a cell in their order
abbrev pub by_cell : ℕ → List Row → List Row
by_cell cells rows = flat_map (λ cell. rows_in cell rows) (numbers_below cells)

-- a code by its words
abbrev pub code_bytes : List ℕ → ℕ → List ℕ → List ℕ
code_bytes widths g code = spelled w16 (words_of widths g code)

-- the book behind its length
abbrev pub front_bytes : Book → List ℕ
front_bytes book = to_le_bytes w32 (length (book_bytes book)) ++ book_bytes book

-- version 1, for rows whose cells do not fall
unfoldable pub plain_bytes : Book → List Row → List ℕ
plain_bytes book rows = codes "ADCINDX1" ++ front_bytes book ++ to_le_bytes w32 (length rows)
    ++ flat_map (λ row. to_le_bytes w32 row.id ++ to_le_bytes w32 row.cell ++ code_bytes book.widths book.g row.code) rows

-- neighbours of one cell together
abbrev pub Group : Type 0
Group = ℕ × List Row

abbrev pub joined : Row → List Group → List Group
joined row [] = (row.cell, row ∷ []) ∷ []
joined row (group ∷ groups) = if row.cell == group.0 then (group.0, row ∷ group.1) ∷ groups else (row.cell, row ∷ []) ∷ group ∷ groups

abbrev pub groups_of : List Row → List Group
groups_of [] = []
groups_of (row ∷ rows) = joined row (groups_of rows)

-- a row of a group, and a group, for these widths and so many words in a code
abbrev pub member_bytes : List ℕ → ℕ → Row → List ℕ
member_bytes widths g row = to_le_bytes w32 row.id ++ code_bytes widths g row.code

abbrev pub group_bytes : List ℕ → ℕ → Group → List ℕ
group_bytes widths g group = to_le_bytes w32 group.0 ++ to_le_bytes w32 (length group.1) ++ flat_map (member_bytes widths g) group.1

-- version 2, for the same rows
unfoldable pub index_bytes : Book → List Row → List ℕ
index_bytes book rows = codes "ADCINDX2" ++ front_bytes book ++ to_le_bytes w32 (length rows) ++ to_le_bytes w32 (length (groups_of rows))
    ++ flat_map (group_bytes book.widths book.g) (groups_of rows)
