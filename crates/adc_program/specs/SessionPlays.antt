-- What a play with sessions is to write, and what its queries and sessions visited.
use Rattle.std.specs.Prelude.{ℕ, List, [], Result, Ok}
use Rattle.std.specs.Result.{result_unwrap_or}
use Rattle.adc_ports.specs.Files.{Files}
use Rattle.book_model.specs.Book.{Book}
use Rattle.play_script.specs.declared.Role.TheVariants as role
use Rattle.play_script.specs.Play.{Counts}
use Rattle.play_script.specs.Sessions.{session_play, session_counts}
use Rattle.adc_inputs.specs.declared.stop.InputError.{InputError}
use Rattle.adc_inputs.specs.Names.{Name}
use Rattle.adc_inputs.specs.Inputs.{◌>>=◌, book_input, rows_input, rows_held}
use Rattle.adc_inputs.specs.SessionInputs.{session_input}

-- the lines by a book: its other inputs are looked at in order, each whole before the next
unfoldable pub session_lines_by : Files → Name → Name → Name → Book → Result (List (List ℕ)) InputError
session_lines_by files base queries script b = do
  rows ← rows_input files role.Base base b.d
  asked ← rows_input files role.Queries queries b.d
  commands ← session_input files script
  Ok (session_play (record { book = b; base = rows; queries = asked }) commands)

-- the lines: the book is looked at first
unfoldable pub session_lines : Files → Name → Name → Name → Name → Result (List (List ℕ)) InputError
session_lines files book base queries script = book_input files book >>= session_lines_by files base queries script

-- what the queries and sessions of a play by a book visited
unfoldable pub session_counts_by : Files → Name → Name → Name → Book → List Counts
session_counts_by files base queries script b =
    session_counts (record { book = b; base = rows_held files role.Base base b.d; queries = rows_held files role.Queries queries b.d }) (result_unwrap_or (session_input files script) [])

-- what those of a play visited
unfoldable pub session_play_counts : Files → Name → Name → Name → Name → List Counts
session_play_counts files book base queries script = result_unwrap_or (book_input files book >>= λ b. Ok (session_counts_by files base queries script b)) []
