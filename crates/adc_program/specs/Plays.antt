-- What a play is to write, and what its query lines tell.
use Rattle.std.specs.Prelude.{ℕ, List, [], Result, Ok}
use Rattle.std.specs.Result.{result_unwrap_or}
use Rattle.adc_ports.specs.Files.{Files}
use Rattle.book_model.specs.Book.{Book}
use Rattle.play_script.specs.declared.Role.TheVariants as role
use Rattle.play_script.specs.Play.{Means, by_codes, Asking, Counts, play_by, asked_by, told_by}
use Rattle.adc_inputs.specs.declared.stop.InputError.{InputError}
use Rattle.adc_inputs.specs.Names.{Name}
use Rattle.adc_inputs.specs.Inputs.{◌>>=◌, book_input, rows_input, rows_held, script_input}

-- the lines of a play by a book: its other inputs are looked at in order, each whole before the next
unfoldable pub lines_by : Means → Files → Name → Name → Name → Book → Result (List (List ℕ)) InputError
lines_by means files base queries script b = do
  rows ← rows_input files role.Base base b.d
  asked ← rows_input files role.Queries queries b.d
  commands ← script_input files script
  Ok (play_by means (record { book = b; base = rows; queries = asked }) commands)

-- the lines of a play: the book is looked at first
unfoldable pub play_lines : Files → Name → Name → Name → Name → Result (List (List ℕ)) InputError
play_lines files book base queries script = book_input files book >>= lines_by by_codes files base queries script

-- what a play by a book asks
unfoldable pub asked_in : Means → Files → Name → Name → Name → Book → List Asking
asked_in means files base queries script b =
    asked_by means (record { book = b; base = rows_held files role.Base base b.d; queries = rows_held files role.Queries queries b.d }) (result_unwrap_or (script_input files script) [])

-- what its query lines tell, and what those of a play tell
abbrev pub counts_by : Files → Name → Name → Name → Book → List Counts
counts_by files base queries script b = told_by by_codes b (asked_in by_codes files base queries script b)

unfoldable pub play_counts : Files → Name → Name → Name → Name → List Counts
play_counts files book base queries script = result_unwrap_or (book_input files book >>= λ b. Ok (counts_by files base queries script b)) []
