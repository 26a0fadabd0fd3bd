-- What queries by radius over an index print, and what their lines tell.
use Rattle.std.specs.Prelude.{ℕ, List, [], ◌∷◌, ◌++◌, length, map, flat_map, slice_index_or, Result, Ok}
use Rattle.std.specs.Result.{result_unwrap_or}
use Rattle.adc_ports.specs.Files.{Files}
use Rattle.book_model.specs.declared.limits.TheConstants.{MAX_ID}
use Rattle.book_model.specs.Sums.{numbers_below}
use Rattle.book_model.specs.Book.{Book}
use Rattle.book_model.specs.Rows.{Row}
use Rattle.book_model.specs.Visit.{Query, visit, visited}
use Rattle.radius_scan.specs.Radius.{within_radius, radius_full_count}
use Rattle.index_file.specs.Reading.{Indexed}
use Rattle.play_script.specs.declared.Role.TheVariants as role
use Rattle.play_script.specs.Texts.{radius_query_done, radius_done}
use Rattle.play_script.specs.Play.{Counts, hits}
use Rattle.adc_inputs.specs.declared.stop.InputError.{InputError}
use Rattle.adc_inputs.specs.Names.{Name}
use Rattle.adc_inputs.specs.Inputs.{◌>>=◌, rows_input, rows_held}
use Rattle.adc_inputs.specs.Indexes.{index_input}

-- a query visits so many rows, and its k is not looked at
abbrev pub radius_asked : ℕ → List ℕ → Query
radius_asked wanted vector = record { vector = vector; k = 0; wanted = wanted; ranges = (0, MAX_ID) ∷ [] }

-- what the line of a query tells
abbrev pub counts_within : Book → List Row → ℕ → Query → Counts
counts_within book rows r query = record { cells = length (visit book query rows); live = length (visited book query rows); full = radius_full_count book query r rows }

abbrev pub radius_line : ℕ → Counts → ℕ → List ℕ
radius_line n counts found = radius_query_done n counts.cells counts.live counts.full found

-- the line of query n, and a hit for each row that it finds
unfoldable pub lines_within : Book → List Row → ℕ → Query → ℕ → List (List ℕ)
lines_within book rows r query n = radius_line n (counts_within book rows r query) (length (within_radius book query r rows)) ∷ hits (within_radius book query r rows)

-- the same of one of these vectors
abbrev pub lines_of_query : Book → List Row → ℕ → ℕ → List (List ℕ) → ℕ → List (List ℕ)
lines_of_query book rows r wanted queries n = lines_within book rows r (radius_asked wanted (slice_index_or queries n [])) n

abbrev pub counts_of_query : Book → List Row → ℕ → ℕ → List (List ℕ) → ℕ → Counts
counts_of_query book rows r wanted queries n = counts_within book rows r (radius_asked wanted (slice_index_or queries n []))

-- the lines of all queries in order, and the last line
unfoldable pub lines_of_radius : Book → List Row → ℕ → ℕ → List (List ℕ) → List (List ℕ)
lines_of_radius book rows r wanted queries = flat_map (lines_of_query book rows r wanted queries) (numbers_below (length queries)) ++ radius_done (length queries) ∷ []

unfoldable pub counts_of_radius : Book → List Row → ℕ → ℕ → List (List ℕ) → List Counts
counts_of_radius book rows r wanted queries = map (counts_of_query book rows r wanted queries) (numbers_below (length queries))

-- the lines over an index: it is looked at first, and then the queries
unfoldable pub lines_over : Files → Name → ℕ → ℕ → Indexed → Result (List (List ℕ)) InputError
lines_over files queries r wanted index = rows_input files role.Queries queries index.book.d >>= λ rows. Ok (lines_of_radius index.book index.rows r wanted rows)

unfoldable pub radius_lines : Files → Name → Name → ℕ → ℕ → Result (List (List ℕ)) InputError
radius_lines files index queries r wanted = index_input files index >>= lines_over files queries r wanted

-- what the query lines tell
unfoldable pub counts_over : Files → Name → ℕ → ℕ → Indexed → List Counts
counts_over files queries r wanted index = counts_of_radius index.book index.rows r wanted (rows_held files role.Queries queries index.book.d)

unfoldable pub radius_counts : Files → Name → Name → ℕ → ℕ → List Counts
radius_counts files index queries r wanted = result_unwrap_or (index_input files index >>= λ i. Ok (counts_over files queries r wanted i)) []
