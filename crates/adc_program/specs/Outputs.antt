-- What a run is to write: its text and its output file, or the stop line of what is wrong with its words or its files.
use Rattle.std.specs.Prelude.{ℕ, List, [], ◌∷◌, Option, Some, None, Result, Ok, Err}
use Rattle.play_script.specs.declared.Role.{Role}
use Rattle.play_script.specs.Texts.{stop_usage}
use Rattle.play_script.specs.Play.{Counts}
use Rattle.adc_inputs.specs.declared.stop.Status.{Status}
use Rattle.adc_inputs.specs.declared.stop.Status.TheVariants as status
use Rattle.adc_inputs.specs.declared.stop.InputError.{InputError}
use Rattle.adc_inputs.specs.Names.{Name}
use Rattle.adc_inputs.specs.Lines.{error_line, error_status}

-- an output file: its role, its name and its bytes
pub record OutFile : Type 0 where
  pub role : Role
  pub name : Name
  pub bytes : List ℕ

-- the role of an output file, if there is one
abbrev pub role_of : Option OutFile → Option Role
role_of None = None
role_of (Some file) = Some file.role

-- what a job is to write: its lines, its output file if it has one, and what its query lines tell
pub record Output : Type 0 where
  pub lines : List (List ℕ)
  pub file : Option OutFile
  pub queries : List Counts

-- lines alone
abbrev pub printed : List (List ℕ) → List Counts → Output
printed lines queries = record { lines = lines; file = None; queries = queries }

-- a wrong usage, or the first thing that is wrong with the inputs, or an output
pub data Verdict : Type 0 where
  Usage : Verdict
  Wrong : InputError → Verdict
  Good : Output → Verdict

abbrev pub verdict_of : Result Output InputError → Verdict
verdict_of (Ok output) = Good output
verdict_of (Err error) = Wrong error

-- the defined text, line by line, and the status that goes with it
abbrev pub lines_of_verdict : Verdict → List (List ℕ)
lines_of_verdict Usage = stop_usage ∷ []
lines_of_verdict (Wrong error) = error_line error ∷ []
lines_of_verdict (Good output) = output.lines

abbrev pub status_of_verdict : Verdict → Status
status_of_verdict Usage = status.Usage
status_of_verdict (Wrong error) = error_status error
status_of_verdict (Good output) = status.Done

-- the lines, the file and the counts of an output, if it is one
abbrev pub text_lines : Verdict → List (List ℕ)
text_lines Usage = []
text_lines (Wrong error) = []
text_lines (Good output) = output.lines

abbrev pub file_of : Verdict → Option OutFile
file_of Usage = None
file_of (Wrong error) = None
file_of (Good output) = output.file

abbrev pub counts_of_verdict : Verdict → List Counts
counts_of_verdict Usage = []
counts_of_verdict (Wrong error) = []
counts_of_verdict (Good output) = output.queries
