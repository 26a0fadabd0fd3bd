-- What a reranking is to write: a line for each query of an index, and its ids by the exact distances of their base rows.
use Rattle.std.specs.Prelude.{ℕ, ℤ, List, [], ◌∷◌, ◌++◌, length, map, Some, Result, Ok, slice_index_or}
use Rattle.adc_ports.specs.Files.{Files}
use Rattle.vec_files.specs.Rows.{ivecs}
use Rattle.book_model.specs.declared.limits.TheConstants.{MAX_ID}
use Rattle.book_model.specs.Sums.{numbers_below}
use Rattle.book_model.specs.Answer.{answer}
use Rattle.flat_truth.specs.Flat.{rerank, padded}
use Rattle.index_file.specs.Reading.{Indexed}
use Rattle.play_script.specs.declared.Role.TheVariants as role
use Rattle.play_script.specs.Texts.{rerank_done}
use Rattle.adc_inputs.specs.declared.stop.InputError.{InputError}
use Rattle.adc_inputs.specs.Names.{Name}
use Rattle.adc_inputs.specs.Inputs.{◌>>=◌, rows_input}
use Rattle.adc_inputs.specs.Indexes.{index_input}
use Rattle.adc_program.specs.Outputs.{Output}
use Rattle.adc_program.specs.Searches.{Questions, query_at, lines_below, counts_below}

-- the ids of the answer of query n
abbrev pub found_at : Indexed → Questions → ℕ → List ℕ
found_at index questions n = map (λ pair. pair.1) (answer index.book (query_at questions n) index.rows)

-- of these the k whose base rows are nearest, in order, and then -1; an id that numbers no base row is left out
abbrev pub reranked_at : Indexed → Questions → List (List ℕ) → ℕ → ℕ → List ℤ
reranked_at index questions base k n = padded k (map (λ pair. pair.1) (rerank base (slice_index_or questions.queries n []) (found_at index questions n) k))

-- those of the first n queries, as a file has them
abbrev pub reranked_below : Indexed → Questions → List (List ℕ) → ℕ → ℕ → List ℕ
reranked_below index questions base k n = ivecs k (map (reranked_at index questions base k) (numbers_below n))

-- n queries and a last line
unfoldable pub reranked : Name → Indexed → Questions → List (List ℕ) → ℕ → ℕ → Output
reranked name index questions base k n = record { lines = lines_below index questions n ++ rerank_done n ∷ []; file = Some (record { role = role.Out; name = name; bytes = reranked_below index questions base k n }); queries = counts_below index questions n }

-- a base, and then queries of as many components
unfoldable pub base_and_queries : Files → Name → Name → ℕ → Result (List (List ℕ) × List (List ℕ)) InputError
base_and_queries files base queries d = do
  rows ← rows_input files role.Base base d
  asked ← rows_input files role.Queries queries d
  Ok (rows, asked)

-- a reranking by its index, and a reranking
unfoldable pub reranked_by : Files → Name → Name → ℕ → ℕ → ℕ → Name → Indexed → Result Output InputError
reranked_by files base queries found k wanted name index = base_and_queries files base queries index.book.d >>= λ both.
    Ok (reranked name index (record { queries = both.1; k = found; wanted = wanted; ranges = (0, MAX_ID) ∷ [] }) both.0 k (length both.1))

unfoldable pub rerank_output : Files → Name → Name → Name → ℕ → ℕ → ℕ → Name → Result Output InputError
rerank_output files index base queries found k wanted name = index_input files index >>= reranked_by files base queries found k wanted name
