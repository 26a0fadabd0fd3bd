-- What a call leaves of a file that it writes by pieces.
use Rattle.std.specs.Prelude.{◌≡◌, ℕ, List, ◌++◌, take, Some, Result, Err, OnOk, OnErr}
use Rattle.adc_ports.specs.Files.{Rose}
use Rattle.adc_ports.specs.States.{ShelfState, OnlyWrites, SameWrites, Has, IsThere}
use Rattle.vec_files.specs.declared.WriteError.{WriteError}
use Rattle.vec_files.specs.declared.WriteError.TheVariants.{WriteFault, Memory}

-- a file of the name holds the first of these bytes
abbrev pub HoldsFront : ShelfState → List ℕ → List ℕ → Type 0
HoldsFront state name bytes = (n : ℕ) × Has state name (Some (take n bytes))

-- the file and the bytes that wait are this text
pub record Holds (name : List ℕ) (state : ShelfState) (waiting text : List ℕ) : Type 0 where
  pub file : List ℕ
  pub has : Has state name (Some file)
  pub whole : file ++ waiting ≡ text

-- a call adds these bytes behind the text, by pieces; after a refusal the file holds the first of what it would hold
pub record Adds (name : List ℕ) (result : Result (Unit {0}) WriteError) (old new : ShelfState) (before after bytes : List ℕ) : Type 0 where
  pub only : OnlyWrites name old new
  pub there : IsThere new name
  pub ok : (text : List ℕ) → Holds name old before text → OnOk result (Holds name new after (text ++ bytes))
  pub err : (text : List ℕ) → Holds name old before text → OnErr result (HoldsFront new name (text ++ bytes))
  pub failed : result ≡ Err WriteFault → Rose old.write_faults new.write_faults
  pub memory : result ≡ Err Memory → SameWrites old new
  pub counts : OnOk result (SameWrites old new)
