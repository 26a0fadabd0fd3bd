-- What an exact search is to write: the nearest base rows of each query.
use Rattle.std.specs.Prelude.{ℕ, ℤ, List, [], ◌∷◌, length, map, None, Some, Result, Ok, slice_index_or}
use Rattle.adc_ports.specs.Files.{Files}
use Rattle.vec_files.specs.Rows.{ivecs}
use Rattle.book_model.specs.Sums.{numbers_below}
use Rattle.flat_truth.specs.Flat.{exact, padded}
use Rattle.play_script.specs.declared.Role.TheVariants as role
use Rattle.play_script.specs.Texts.{exact_done}
use Rattle.adc_inputs.specs.declared.stop.InputError.{InputError}
use Rattle.adc_inputs.specs.Names.{Name}
use Rattle.adc_inputs.specs.Inputs.{◌>>=◌}
use Rattle.adc_inputs.specs.Vectors.{vectors_input, length_of_rows}
use Rattle.adc_program.specs.Outputs.{Output}

-- the numbers of the k nearest base rows of query n, and then -1
abbrev pub nearest_at : List (List ℕ) → List (List ℕ) → ℕ → ℕ → List ℤ
nearest_at base queries k n = padded k (map (λ pair. pair.1) (exact base (slice_index_or queries n []) k))

-- those of the first n queries, as a file has them
abbrev pub nearest_below : List (List ℕ) → List (List ℕ) → ℕ → ℕ → List ℕ
nearest_below base queries k n = ivecs k (map (nearest_at base queries k) (numbers_below n))

-- a line, and those of so many queries
unfoldable pub with_nearest : Name → List ℕ → List (List ℕ) → List (List ℕ) → ℕ → ℕ → Output
with_nearest name line base queries k n = record { lines = line ∷ []; file = Some (record { role = role.Out; name = name; bytes = nearest_below base queries k n }); queries = [] }

-- the queries have as many components as the base, if it has a row
unfoldable pub exact_output : Files → Name → Name → ℕ → Name → Result Output InputError
exact_output files base queries k name = do
  rows ← vectors_input files role.Base base None
  asked ← vectors_input files role.Queries queries (length_of_rows rows)
  Ok (with_nearest name (exact_done (length asked) (length rows)) rows asked k (length asked))
