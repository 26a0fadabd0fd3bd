-- What a search among listed ids is to write: that of a search, with the ids that the list allows.
use Rattle.std.specs.Prelude.{ℕ, List, length, Result, Ok}
use Rattle.adc_ports.specs.Files.{Files}
use Rattle.index_file.specs.Reading.{Indexed}
use Rattle.play_script.specs.declared.Role.TheVariants as role
use Rattle.play_script.specs.Texts.{allowed_done}
use Rattle.adc_inputs.specs.declared.stop.InputError.{InputError}
use Rattle.adc_inputs.specs.Names.{Name}
use Rattle.adc_inputs.specs.Inputs.{◌>>=◌, rows_input}
use Rattle.adc_inputs.specs.Indexes.{index_input}
use Rattle.adc_inputs.specs.Allows.{allow_input}
use Rattle.adc_program.specs.Outputs.{Output}
use Rattle.adc_program.specs.Searches.{asked_output}

-- these query rows among the ids of these ranges
unfoldable pub found_among : Name → Indexed → List (List ℕ) → ℕ → ℕ → List (ℕ × ℕ) → Output
found_among name index queries k wanted ranges = asked_output name index (record { queries = queries; k = k; wanted = wanted; ranges = ranges }) (length queries) (allowed_done (length queries))

-- the queries are looked at after the index, and then the list
unfoldable pub allowed_by : Files → Name → ℕ → ℕ → Name → Name → Indexed → Result Output InputError
allowed_by files queries k wanted allow name index = do
  rows ← rows_input files role.Queries queries index.book.d
  ranges ← allow_input files allow
  Ok (found_among name index rows k wanted ranges)

unfoldable pub allowed_output : Files → Name → Name → ℕ → ℕ → Name → Name → Result Output InputError
allowed_output files index queries k wanted allow name = index_input files index >>= allowed_by files queries k wanted allow name
