-- What a sample prints: its rows are inserted in order, and then its queries are asked.
use Rattle.std.specs.Prelude.{ℕ, ◌*◌, List, [], ◌∷◌, ◌++◌, map, flat_map, min, Result, Ok}
use Rattle.std.specs.Result.{result_unwrap_or}
use Rattle.codebook_core.specs.Reading.{book_outcome}
use Rattle.book_model.specs.declared.limits.TheConstants.{MAX_ID}
use Rattle.book_model.specs.Order.{Pair}
use Rattle.book_model.specs.Sums.{numbers_below}
use Rattle.book_model.specs.Book.{Book}
use Rattle.book_model.specs.Rows.{Row}
use Rattle.book_model.specs.Visit.{Query}
use Rattle.book_model.specs.Answer.{answer}
use Rattle.play_script.specs.declared.Role.TheVariants as role
use Rattle.play_script.specs.Stream.{Drawn, sample_book, sample_row, sample_query}
use Rattle.play_script.specs.Texts.{sample_start, cells_line, best_line, sample_end}
use Rattle.play_script.specs.Play.{Counts, counts_of, query_line}
use Rattle.adc_inputs.specs.declared.stop.InputError.{InputError}
use Rattle.adc_inputs.specs.Inputs.{◌>>=◌, of_role}
use Rattle.adc_program.specs.Rows.{numbered_rows, cell_count}

abbrev pub sample_rows : Book → Drawn → List Row
sample_rows book sample = numbered_rows book (sample_row sample) sample.rows

-- each query asks for 10 of 100 rows, or of all if there are fewer
abbrev pub sample_asked : Drawn → ℕ → Query
sample_asked sample n = record { vector = sample_query sample n; k = 10; wanted = min sample.rows 100; ranges = (0, MAX_ID) ∷ [] }

-- the line of the first answer, if there is one
abbrev pub first_lines : List Pair → List (List ℕ)
first_lines [] = []
first_lines (pair ∷ pairs) = best_line pair.1 pair.0 ∷ []

-- the lines of a query over rows, and what its line tells
unfoldable pub asked_lines : Book → Drawn → List Row → ℕ → List (List ℕ)
asked_lines book sample rows n = query_line n (counts_of book (sample_asked sample n) rows) ∷ first_lines (answer book (sample_asked sample n) rows)

abbrev pub asked_counts : Book → Drawn → List Row → ℕ → Counts
asked_counts book sample rows n = counts_of book (sample_asked sample n) rows

-- all lines, and what those of its 16 queries tell
unfoldable pub sample_lines : Book → Drawn → List (List ℕ)
sample_lines book sample = (sample_start sample.start sample.rows ∷ cells_line (cell_count (book.k0 * book.k1) (sample_rows book sample)) ∷ [])
    ++ flat_map (asked_lines book sample (sample_rows book sample)) (numbers_below 16) ++ sample_end ∷ []

unfoldable pub sample_counts : Book → Drawn → List Counts
sample_counts book sample = map (asked_counts book sample (sample_rows book sample)) (numbers_below 16)

-- the sample's book is a book file like any other
abbrev pub book_of_sample : Drawn → Result Book InputError
book_of_sample sample = of_role role.Book (book_outcome (sample_book sample))

-- the lines of a sample by its book, and what those of its queries tell
unfoldable pub lines_of_sample : Drawn → Result (List (List ℕ)) InputError
lines_of_sample sample = book_of_sample sample >>= λ book. Ok (sample_lines book sample)

unfoldable pub counts_of_sample : Drawn → List Counts
counts_of_sample sample = result_unwrap_or (book_of_sample sample >>= λ book. Ok (sample_counts book sample)) []
