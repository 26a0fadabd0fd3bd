-- Residuals. A residual is what is left of a vector when the coarse words of its cell are taken off: `rest_dist` is its distance to a word. A component u
-- of a sub-quantizer's word stands for u - 32768 there, so that residuals below 0 have near words too.
use Rattle.std.specs.Prelude.{◌≡◌, ℕ, ◌+◌, ◌*◌, ◌/◌, ◌%◌, ◌<◌, ◌≤◌, Bool, ◌&&◌, List, [], ◌++◌, length, map, take, drop, position, nat_lt, slice_index_or, Option, Some, ◌⊎◌, ◌==◌, if◌then◌else◌}
use Rattle.std.specs.Option.{option_map}
use Rattle.book_model.specs.Sums.{numbers_below, first_least}
use Rattle.book_model.specs.Book.{Book, IsGood, part, sub_count, sub_words, start_of, length_of}
use Rattle.book_model.specs.Bound.{Tables}
use Rattle.book_model.specs.Rows.{Row, cell_of}
use Rattle.word_columns.specs.Left.{rest_dist}

-- the distance to word i of these, which stand one after another and are each as long as x
abbrev pub residual_word : ℕ → List ℕ → List ℕ → List ℕ → ℕ → ℕ
residual_word f words x c i = rest_dist f x c (take (length x) (drop (i * length x) words))

-- the coarse word of part 0 and that of part 1, as one vector: the point from which the residuals of a cell are taken
abbrev pub center_of : Book → ℕ → List ℕ
center_of book cell = slice_index_or book.coarse0 (cell / book.k1) [] ++ slice_index_or book.coarse1 (cell % book.k1) []

-- the distances of the residual of a vector in a cell to the words of sub-quantizer j
abbrev pub residual_distances : Book → List ℕ → ℕ → ℕ → List ℕ
residual_distances book v cell j = map (rest_dist book.scale (part book j v) (part book j (center_of book cell))) (sub_words book j)

-- a list of them for each sub-quantizer
unfoldable pub residual_tables : Book → List ℕ → ℕ → Tables
residual_tables book v cell = map (residual_distances book v cell) (numbers_below (sub_count book))

-- the code of a vector in a cell: the nearest word of each sub-quantizer to its residual there
unfoldable pub residual_code : Book → List ℕ → ℕ → List ℕ
residual_code book v cell = map (λ j. first_least (residual_distances book v cell j)) (numbers_below (sub_count book))

-- the row of a vector under an id
abbrev pub residual_row : Book → ℕ → List ℕ → Row
residual_row book id v = record { id = id; cell = cell_of book v; code = residual_code book v (cell_of book v) }

-- whether the stretch of sub-quantizer j lies in both parts
abbrev pub crosses : Book → ℕ → Bool
crosses book j = nat_lt (start_of book j) book.h && nat_lt book.h (start_of book j + length_of book j)

-- where the file of a good book has its first field that a residual book may not have: the magic of version 1, or a length that crosses
unfoldable pub residual_fault : Book → Option ℕ
residual_fault book = if book.version == 1 then Some 0 else option_map (λ j. 19 + 2 * j) (position (crosses book) (numbers_below (sub_count book)))

-- a good book of version 2 in which each sub-quantizer lies in one part
pub record IsResidual (book : Book) : Type 0 where
  pub good : IsGood book
  pub version : book.version ≡ 2
  pub sides : (j : ℕ) → j < sub_count book → (start_of book j + length_of book j ≤ book.h) ⊎ (book.h ≤ start_of book j)
