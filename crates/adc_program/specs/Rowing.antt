-- What one call adds to the text and to a file that is there.
use Rattle.std.specs.Prelude.{◌≡◌, ℕ, true, List, [], ◌++◌, take, Option, Some, Result, Ok, Err, ◌⊎◌}
use Rattle.std.specs.Option.{ForSome}
use Rattle.adc_ports.specs.Files.{Files, Rose}
use Rattle.adc_ports.specs.States.{ShelfState, SinkState, OnlyWrites, OnlyPuts, SameReads, SameWrites, Has}
use Rattle.play_script.specs.declared.Role.{Role}
use Rattle.play_script.specs.declared.Role.TheVariants.{Out}
use Rattle.adc_inputs.specs.declared.stop.Stop.TheVariants.{Input, Unread, OutOfMemory}
use Rattle.adc_inputs.specs.Names.{Name}
use Rattle.adc_inputs.specs.Steps.{nothing_wrong}
use Rattle.adc_program.specs.declared.halts.Halted.{Halted}
use Rattle.adc_program.specs.declared.halts.Halted.TheVariants.{Stopped, Unsaved, Unwritten}
use Rattle.adc_program.specs.Ends.{Causes, WritesText, Saves, Ends}
use Rattle.adc_program.specs.Steps.{OnlyChanges}

-- no read and no write was counted as failed
abbrev pub NoFaultOfFiles : ShelfState → ShelfState → Type 0
NoFaultOfFiles old new = SameReads old new × SameWrites old new

-- a halt at a write of the file of this role: it failed and its count rose, or memory ran out and no count did
abbrev pub IsUnsaved : Role → Halted → ShelfState → ShelfState → Type 0
IsUnsaved role (Stopped OutOfMemory) old new = NoFaultOfFiles old new
IsUnsaved role (Stopped (Input error)) old new = ⊥
IsUnsaved role (Stopped (Unread part)) old new = ⊥
IsUnsaved role (Unsaved part) old new = (part ≡ role) × Rose old.write_faults new.write_faults
IsUnsaved role (Unwritten halt) old new = ⊥

-- a file after it was begun: empty at the end, and after a halt as before or empty
abbrev pub HasBegun : {X : Type 0} → Result X Halted → Name → Option (List ℕ) → ShelfState → Type 0
HasBegun (Ok x) name before new = Has new name (Some [])
HasBegun (Err halted) name before new = Has new name before ⊎ Has new name (Some [])

-- a call that is to begin a file did so and counted no fault, or halted with its cause
abbrev pub BeginsFor : {X : Type 0} → Role → Result X Halted → ShelfState → ShelfState → Type 0
BeginsFor role (Ok x) old new = NoFaultOfFiles old new
BeginsFor role (Err halted) old new = IsUnsaved role halted old new

pub record Begins (role : Role) (name : Name) (result : Result (Unit {0}) Halted) (old new : ShelfState) : Type 0 where
  pub only : OnlyWrites name old new
  pub cause : BeginsFor role result old new
  pub begun : (before : Option (List ℕ)) → Has old name before → HasBegun result name before new

-- a file that held some bytes and was to get more: all of them at the end, and after a halt the first of them
abbrev pub Grows : {X : Type 0} → Result X Halted → Name → List ℕ → List ℕ → ShelfState → Type 0
Grows (Ok x) name held bytes new = Has new name (Some (held ++ bytes))
Grows (Err halted) name held bytes new = (n : ℕ) × Has new name (Some (held ++ take n bytes))

-- a call that is to write these lines and to add these bytes to a file that is there did so, or halted with its cause. No other file changes
pub record Adds (name : Name) (result : Result (Unit {0}) Halted) (lines : Files → List (List ℕ)) (bytes : Files → List ℕ) (shelf shelf1 : ShelfState) (text text1 : SinkState) : Type 0 where
  pub changes : OnlyChanges name shelf shelf1
  pub puts : OnlyPuts text text1
  pub cause : Causes result shelf shelf1 text text1
  pub saves : Saves result (Some Out)
  pub ends : ForSome shelf.files (λ files. Ends result (nothing_wrong files))
  pub written : ForSome shelf.files (λ files. WritesText true result text.written text1.written (lines files))
  pub grown : ForSome shelf.files (λ files. (held : List ℕ) → files name ≡ Some held → Grows result name held (bytes files) shelf1)
