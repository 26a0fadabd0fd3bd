-- What one call did to the outside, as one fact.
use Rattle.std.specs.Prelude.{◌≡◌, ℕ, ◌≤◌, List, [], Option, Some, None, Result, Ok, Err, IfErr, OnOk, is_some, IfSome}
use Rattle.std.specs.Option.{ForSome}
use Rattle.std.specs.Result.{result_unwrap_or}
use Rattle.adc_ports.specs.Files.{Files, OthersStay}
use Rattle.adc_ports.specs.States.{ShelfState, SinkState, OnlyReads, OnlyPuts, SameReads}
use Rattle.play_script.specs.Play.{Counts}
use Rattle.adc_inputs.specs.declared.stop.InputError.{InputError}
use Rattle.adc_inputs.specs.Names.{Name}
use Rattle.adc_program.specs.declared.halts.Halted.{Halted}
use Rattle.adc_program.specs.Outputs.{OutFile, role_of, Output}
use Rattle.adc_program.specs.Ends.{IsUnwritten, Causes, Writes, WritesText, Saves, Ends, Leaves}

-- reads that changed no file and none of which was counted as failed
pub record ReadsWell (old new : ShelfState) : Type 0 where
  pub only : OnlyReads old new
  pub same : SameReads old new

-- a call that is to write these lines wrote them, or the first of their bytes if a put failed
pub record Puts (result : Result (Unit {0}) Halted) (lines : List (List ℕ)) (old new : SinkState) : Type 0 where
  pub only : OnlyPuts old new
  pub written : Writes result old.written new.written lines
  pub unwritten : IfErr result (λ halted. IsUnwritten halted old new)
  pub counts : OnOk result (new.faults ≡ old.faults)

-- a call that is to come to these lines wrote them, or halted with its cause. It changes no file
pub record Plays (result : Result (Unit {0}) Halted) (wanted : Files → Result (List (List ℕ)) InputError) (shelf shelf1 : ShelfState) (out out1 : SinkState) : Type 0 where
  pub reads : OnlyReads shelf shelf1
  pub puts : OnlyPuts out out1
  pub cause : Causes result shelf shelf1 out out1
  pub saves : Saves result None
  pub written : ForSome shelf.files (λ files. Writes result out.written out1.written (result_unwrap_or (wanted files) []))
  pub ends : ForSome shelf.files (λ files. Ends result (wanted files))

-- no file but this one changes, and no count of faults falls
pub record OnlyChanges (name : Name) (old new : ShelfState) : Type 0 where
  pub told : is_some new.files ≡ is_some old.files
  pub others : IfSome old.files (λ before. IfSome new.files (λ after. OthersStay before after name))
  pub reads : old.read_faults ≤ new.read_faults
  pub writes : old.write_faults ≤ new.write_faults

-- at most the output file changes; without one there are reads alone
abbrev pub ChangesAtMost : Option Name → ShelfState → ShelfState → Type 0
ChangesAtMost None old new = OnlyReads old new
ChangesAtMost (Some name) old new = OnlyChanges name old new

-- the lines, the file and the counts of an output, if it is one
abbrev pub lines_wanted : Result Output InputError → List (List ℕ)
lines_wanted (Ok output) = output.lines
lines_wanted (Err error) = []

abbrev pub file_wanted : Result Output InputError → Option OutFile
file_wanted (Ok output) = output.file
file_wanted (Err error) = None

abbrev pub counts_wanted : Result Output InputError → List Counts
counts_wanted (Ok output) = output.queries
counts_wanted (Err error) = []

-- a job that is to come to this output wrote it, or halted with its cause. Without an output file no file changes
pub record Makes (out : Option Name) (result : Result (Unit {0}) Halted) (wanted : Files → Result Output InputError) (shelf shelf1 : ShelfState) (text text1 : SinkState) : Type 0 where
  pub changes : ChangesAtMost out shelf shelf1
  pub puts : OnlyPuts text text1
  pub cause : Causes result shelf shelf1 text text1
  pub saves : ForSome shelf.files (λ files. Saves result (role_of (file_wanted (wanted files))))
  pub written : ForSome shelf.files (λ files. WritesText (is_some (file_wanted (wanted files))) result text.written text1.written (lines_wanted (wanted files)))
  pub ends : ForSome shelf.files (λ files. Ends result (wanted files))
  pub leaves : ForSome shelf.files (λ files. Leaves result (file_wanted (wanted files)) files shelf1)
  pub stays : ForSome shelf.files (λ files. file_wanted (wanted files) ≡ None → OnlyReads shelf shelf1)
