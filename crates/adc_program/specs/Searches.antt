-- What queries that are asked of an index are to write: a line for each, and a file with a row of ids for each.
use Rattle.std.specs.Prelude.{ℕ, ℤ, List, [], ◌∷◌, ◌++◌, length, map, Some, Result, Ok, slice_index_or}
use Rattle.adc_ports.specs.Files.{Files}
use Rattle.vec_files.specs.Rows.{ivecs}
use Rattle.book_model.specs.declared.limits.TheConstants.{MAX_ID}
use Rattle.book_model.specs.Sums.{numbers_below}
use Rattle.book_model.specs.Visit.{Query}
use Rattle.book_model.specs.Answer.{answer}
use Rattle.flat_truth.specs.Flat.{padded}
use Rattle.index_file.specs.Reading.{Indexed}
use Rattle.play_script.specs.declared.Role.TheVariants as role
use Rattle.play_script.specs.Texts.{search_done}
use Rattle.play_script.specs.Play.{Counts, counts_of, query_line}
use Rattle.adc_inputs.specs.declared.stop.InputError.{InputError}
use Rattle.adc_inputs.specs.Names.{Name}
use Rattle.adc_inputs.specs.Inputs.{◌>>=◌, rows_input}
use Rattle.adc_inputs.specs.Indexes.{index_input}
use Rattle.adc_program.specs.Outputs.{Output}

-- query rows, how many of the nearest are asked for, how many rows are wanted, and the ids that pass
pub record Questions : Type 0 where
  pub queries : List (List ℕ)
  pub k : ℕ
  pub wanted : ℕ
  pub ranges : List (ℕ × ℕ)

abbrev pub query_at : Questions → ℕ → Query
query_at questions n = record { vector = slice_index_or questions.queries n []; k = questions.k; wanted = questions.wanted; ranges = questions.ranges }

-- what the line of query n tells
abbrev pub counts_at : Indexed → Questions → ℕ → Counts
counts_at index questions n = counts_of index.book (query_at questions n) index.rows

-- its row of k numbers: the ids of the answer in order, and then -1
abbrev pub ids_at : Indexed → Questions → ℕ → List ℤ
ids_at index questions n = padded questions.k (map (λ pair. pair.1) (answer index.book (query_at questions n) index.rows))

-- the lines of the first n queries, their rows of ids as a file has them, and what the lines tell
abbrev pub lines_below : Indexed → Questions → ℕ → List (List ℕ)
lines_below index questions n = map (λ i. query_line i (counts_at index questions i)) (numbers_below n)

abbrev pub bytes_below : Indexed → Questions → ℕ → List ℕ
bytes_below index questions n = ivecs questions.k (map (ids_at index questions) (numbers_below n))

abbrev pub counts_below : Indexed → Questions → ℕ → List Counts
counts_below index questions n = map (counts_at index questions) (numbers_below n)

-- n queries and a last line
unfoldable pub asked_output : Name → Indexed → Questions → ℕ → List ℕ → Output
asked_output name index questions n last = record { lines = lines_below index questions n ++ last ∷ []; file = Some (record { role = role.Out; name = name; bytes = bytes_below index questions n }); queries = counts_below index questions n }

-- a search of these query rows over all ids, a search by its index, and a search
unfoldable pub searched : Name → Indexed → List (List ℕ) → ℕ → ℕ → Output
searched name index queries k wanted = asked_output name index (record { queries = queries; k = k; wanted = wanted; ranges = (0, MAX_ID) ∷ [] }) (length queries) (search_done (length queries))

unfoldable pub searched_by : Files → Name → ℕ → ℕ → Name → Indexed → Result Output InputError
searched_by files queries k wanted name index = rows_input files role.Queries queries index.book.d >>= λ rows. Ok (searched name index rows k wanted)

unfoldable pub search_output : Files → Name → Name → ℕ → ℕ → Name → Result Output InputError
search_output files index queries k wanted name = index_input files index >>= searched_by files queries k wanted name
