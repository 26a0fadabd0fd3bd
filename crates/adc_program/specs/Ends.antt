-- How a run may end, and what it has then written.
use Rattle.std.specs.Prelude.{◌≡◌, ℕ, ◌<◌, ◌⊎◌, Bool, true, List, [], ◌∷◌, ◌++◌, take, Option, Some, None, is_some, Result, Ok, Err}
use Rattle.std.specs.Io.KnownBytes.{Appends}
use Rattle.std.specs.List.{flat_map}
use Rattle.adc_ports.specs.Files.{Files, Rose, AddsPrefix}
use Rattle.adc_ports.specs.States.{ShelfState, SinkState, SameReads, SameWrites, Has}
use Rattle.adc_ports.specs.declared.Halt.{Halt}
use Rattle.adc_ports.specs.declared.Halt.TheVariants as halt
use Rattle.play_script.specs.declared.Role.{Role}
use Rattle.play_script.specs.Texts.{stop_read, stop_write, stop_memory}
use Rattle.adc_inputs.specs.declared.stop.Status.{Status}
use Rattle.adc_inputs.specs.declared.stop.Status.TheVariants as status
use Rattle.adc_inputs.specs.declared.stop.InputError.{InputError}
use Rattle.adc_inputs.specs.declared.stop.Stop.TheVariants.{Input, Unread, OutOfMemory}
use Rattle.adc_inputs.specs.Steps.{IsDue}
use Rattle.adc_program.specs.declared.halts.Halted.{Halted}
use Rattle.adc_program.specs.declared.halts.Halted.TheVariants.{Stopped, Unsaved, Unwritten}
use Rattle.adc_program.specs.Outputs.{OutFile, role_of, Verdict, Usage, Wrong, Good, lines_of_verdict, status_of_verdict, text_lines, file_of}

-- the lines, one after another
abbrev pub text_of : List (List ℕ) → List ℕ
text_of lines = flat_map (λ line. line) lines

-- a count did not rise in a call, and does not stand at its end
pub record IsStill (old new : ℕ) : Type 0 where
  pub same : new ≡ old
  pub below : new < 18446744073709551615

-- no read, no write and no put failed
pub record NothingFails (shelf shelf1 : ShelfState) (out out1 : SinkState) : Type 0 where
  pub reads : IsStill shelf.read_faults shelf1.read_faults
  pub writes : IsStill shelf.write_faults shelf1.write_faults
  pub puts : IsStill out.faults out1.faults

-- no read, no write and no put was counted as failed
pub record NoFault (shelf shelf1 : ShelfState) (out out1 : SinkState) : Type 0 where
  pub reads : SameReads shelf shelf1
  pub writes : SameWrites shelf shelf1
  pub puts : out1.faults ≡ out.faults

-- whole lines were added, from the first of these lines on
pub record AddsLines (old new : Option (List ℕ)) (lines : List (List ℕ)) : Type 0 where
  pub front : List (List ℕ)
  pub rest : List (List ℕ)
  pub are : front ++ rest ≡ lines
  pub added : Appends old new (text_of front)

-- the same of a text, which has an output file or none: with one a line at least is left, if there are any
pub record AddsText (filed : Bool) (old new : Option (List ℕ)) (lines : List (List ℕ)) : Type 0 where
  pub adds : AddsLines old new lines
  pub more : filed ≡ true → adds.rest ≡ [] → lines ≡ []

-- nothing is wrong
abbrev pub IsGood : {Y : Type 0} → Result Y InputError → Type 0
IsGood (Ok output) = Unit {0}
IsGood (Err error) = ⊥

-- a put failed only if its count rose, and ran out of memory only if it did not
abbrev pub PutFails : Halt → SinkState → SinkState → Type 0
PutFails halt.Failed old new = Rose old.faults new.faults
PutFails halt.Memory old new = new.faults ≡ old.faults

-- a halt that is a put that failed
abbrev pub IsUnwritten : Halted → SinkState → SinkState → Type 0
IsUnwritten (Unwritten halt) old new = PutFails halt old new
IsUnwritten (Unsaved role) old new = ⊥
IsUnwritten (Stopped stop) old new = ⊥

-- the cause of a halt, over any shelf and sink: memory ran out only if no count of faults rose
abbrev pub Halts : Halted → ShelfState → ShelfState → SinkState → SinkState → Type 0
Halts (Stopped (Input error)) shelf shelf1 out out1 = Unit {0}
Halts (Stopped (Unread role)) shelf shelf1 out out1 = Rose shelf.read_faults shelf1.read_faults
Halts (Stopped OutOfMemory) shelf shelf1 out out1 = NoFault shelf shelf1 out out1
Halts (Unsaved role) shelf shelf1 out out1 = Rose shelf.write_faults shelf1.write_faults
Halts (Unwritten halt.Failed) shelf shelf1 out out1 = Rose out.faults out1.faults
Halts (Unwritten halt.Memory) shelf shelf1 out out1 = NoFault shelf shelf1 out out1

-- a call that is done counted no fault, and a halt has its cause
abbrev pub Causes : {X : Type 0} → Result X Halted → ShelfState → ShelfState → SinkState → SinkState → Type 0
Causes (Ok x) shelf shelf1 out out1 = NoFault shelf shelf1 out out1
Causes (Err halted) shelf shelf1 out out1 = Halts halted shelf shelf1 out out1

-- what was written of these lines: all, whole ones from the first on, or bytes from the first on if a put failed
abbrev pub Writes : {X : Type 0} → Result X Halted → Option (List ℕ) → Option (List ℕ) → List (List ℕ) → Type 0
Writes (Ok x) old new lines = Appends old new (text_of lines)
Writes (Err (Stopped stop)) old new lines = AddsLines old new lines
Writes (Err (Unsaved role)) old new lines = AddsLines old new lines
Writes (Err (Unwritten halt)) old new lines = AddsPrefix old new (text_of lines)

-- the same of a text with an output file or with none
abbrev pub WritesText : {X : Type 0} → Bool → Result X Halted → Option (List ℕ) → Option (List ℕ) → List (List ℕ) → Type 0
WritesText filed (Ok x) old new lines = Appends old new (text_of lines)
WritesText filed (Err (Stopped stop)) old new lines = AddsText filed old new lines
WritesText filed (Err (Unsaved role)) old new lines = AddsText filed old new lines
WritesText filed (Err (Unwritten halt)) old new lines = AddsPrefix old new (text_of lines)

-- a file that could not be written is the one that is to be written: its role is this
abbrev pub Saves : {X : Type 0} → Result X Halted → Option Role → Type 0
Saves (Ok x) saved = Unit {0}
Saves (Err (Stopped stop)) saved = Unit {0}
Saves (Err (Unsaved role)) saved = saved ≡ Some role
Saves (Err (Unwritten halt)) saved = Unit {0}

-- how a job ends that was to come to this: at its end, at a stop that is due, or at a write that failed
abbrev pub Ends : {X Y : Type 0} → Result X Halted → Result Y InputError → Type 0
Ends (Ok x) wanted = IsGood wanted
Ends (Err (Stopped stop)) wanted = IsDue stop wanted
Ends (Err (Unsaved role)) wanted = IsGood wanted
Ends (Err (Unwritten halt)) wanted = IsGood wanted

-- a file of this name has these bytes, if there is to be one
abbrev pub HasFile : Option OutFile → ShelfState → Type 0
HasFile None new = Unit {0}
HasFile (Some file) new = Has new file.name (Some file.bytes)

-- it is as before, or has the first of these bytes
abbrev pub HasFront : Option OutFile → Files → ShelfState → Type 0
HasFront None before new = Unit {0}
HasFront (Some file) before new = Has new file.name (before file.name) ⊎ ((n : ℕ) × Has new file.name (Some (take n file.bytes)))

-- what a job leaves of its output file
abbrev pub Leaves : {X : Type 0} → Result X Halted → Option OutFile → Files → ShelfState → Type 0
Leaves (Ok x) file before new = HasFile file new
Leaves (Err halted) file before new = HasFront file before new

-- the status of a run with this verdict: its own, unless a call on shelf or sink failed or memory ran out
abbrev pub Comes : Status → Verdict → Type 0
Comes status.Done verdict = status_of_verdict verdict ≡ status.Done
Comes status.Usage verdict = status_of_verdict verdict ≡ status.Usage
Comes status.Malformed verdict = status_of_verdict verdict ≡ status.Malformed
Comes status.Limit verdict = status_of_verdict verdict ≡ status.Limit
Comes status.Missing verdict = status_of_verdict verdict ≡ status.Missing
Comes status.ReadFault verdict = Unit {0}
Comes status.WriteFault verdict = status_of_verdict verdict ≡ status.Done
Comes status.Memory verdict = Unit {0}

-- a run wrote its whole text and its whole output file, and ended with the status that goes with them
pub record IsWhole (end : Status) (verdict : Verdict) (shelf : ShelfState) (out out1 : SinkState) : Type 0 where
  pub text : Appends out.written out1.written (text_of (lines_of_verdict verdict))
  pub file : HasFile (file_of verdict) shelf
  pub goes : end ≡ status_of_verdict verdict

-- there is an output
abbrev pub HasOutput : Verdict → Type 0
HasOutput Usage = ⊥
HasOutput (Wrong error) = ⊥
HasOutput (Good output) = Unit {0}

-- a stop line and its status have their cause: the verdict, which is no output, a read fault whose count rose, a write fault of the
-- output file whose count rose, or memory that ran out while no count of the shelf rose
pub data IsStopLine (line : List ℕ) (end : Status) (verdict : Verdict) (shelf shelf1 : ShelfState) : Type 0 where
  OfVerdict : lines_of_verdict verdict ≡ line ∷ [] → text_lines verdict ≡ [] → file_of verdict ≡ None → end ≡ status_of_verdict verdict → IsStopLine line end verdict shelf shelf1
  OfRead : (role : Role) → line ≡ stop_read role → end ≡ status.ReadFault → Rose shelf.read_faults shelf1.read_faults → IsStopLine line end verdict shelf shelf1
  OfWrite : (role : Role) → line ≡ stop_write role → end ≡ status.WriteFault → role_of (file_of verdict) ≡ Some role → Rose shelf.write_faults shelf1.write_faults → IsStopLine line end verdict shelf shelf1
  OfMemory : line ≡ stop_memory → end ≡ status.Memory → SameReads shelf shelf1 → SameWrites shelf shelf1 → IsStopLine line end verdict shelf shelf1

-- whole lines from the first of the text on, and then a stop line, which goes with a status. If there is an output file, the last line
-- of the text is not among them
pub record IsStopText (text : List ℕ) (goes : Status) (verdict : Verdict) (shelf shelf1 : ShelfState) : Type 0 where
  pub line : List ℕ
  pub cause : IsStopLine line goes verdict shelf shelf1
  pub front : List (List ℕ)
  pub rest : List (List ℕ)
  pub are : front ++ rest ≡ text_lines verdict
  pub more : is_some (file_of verdict) ≡ true → rest ≡ [] → text_lines verdict ≡ []
  pub is : text ≡ text_of front ++ line

-- a put of the text failed: memory ran out and no count of faults rose, or its count rose
abbrev pub IsCut : Status → ShelfState → ShelfState → SinkState → SinkState → Type 0
IsCut end shelf shelf1 out out1 = ((end ≡ status.Memory) × NoFault shelf shelf1 out out1) ⊎ ((end ≡ status.WriteFault) × Rose out.faults out1.faults)

-- the status where memory ran out as a stop line was put: a fault of the shelf keeps its own
abbrev pub out_of_memory : Status → Status
out_of_memory status.ReadFault = status.ReadFault
out_of_memory status.WriteFault = status.WriteFault
out_of_memory _ = status.Memory

-- a put of a stop line, which goes with a status, failed: memory ran out, or its count rose and the run ends with this status
abbrev pub IsStopCut : Status → Status → SinkState → SinkState → Type 0
IsStopCut end goes old new = (end ≡ out_of_memory goes) ⊎ ((end ≡ goes) × Rose old.faults new.faults)

-- what a run wrote: the whole text, whole lines and a stop line, or the first bytes of either if a put failed
pub data Wrote (end : Status) (verdict : Verdict) (shelf shelf1 : ShelfState) (out out1 : SinkState) : Type 0 where
  All : HasOutput verdict → end ≡ status.Done → Appends out.written out1.written (text_of (text_lines verdict)) → Wrote end verdict shelf shelf1 out out1
  ToStop : (text : List ℕ) → IsStopText text end verdict shelf shelf1 → Appends out.written out1.written text → Wrote end verdict shelf shelf1 out out1
  CutText : AddsPrefix out.written out1.written (text_of (text_lines verdict)) → IsCut end shelf shelf1 out out1 → Wrote end verdict shelf shelf1 out out1
  CutStop : (text : List ℕ) (goes : Status) → IsStopText text goes verdict shelf shelf1 → AddsPrefix out.written out1.written text → IsStopCut end goes out out1 → Wrote end verdict shelf shelf1 out out1

-- how a stop line was told, which goes with a status
abbrev pub Tells : Status → List ℕ → Status → SinkState → SinkState → Type 0
Tells end line goes old new = ((end ≡ goes) × Appends old.written new.written line) ⊎ (AddsPrefix old.written new.written line × IsStopCut end goes old new)
