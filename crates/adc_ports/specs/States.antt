-- What a shelf and a sink tell of themselves, and what a call may change of it.
use Rattle.std.specs.Prelude.{◌≡◌, ℕ, ◌≤◌, List, Option, is_some, IfSome, IsSome}
use Rattle.adc_ports.specs.Files.{Files, OthersStay}

-- the bytes of the file of each name, where the shelf tells them, and how many reads and how many writes failed
pub record ShelfState : Type 0 where
  pub files : Option Files
  pub read_faults : ℕ
  pub write_faults : ℕ

-- the bytes that were written, where the sink tells them, and how many calls failed
pub record SinkState : Type 0 where
  pub written : Option (List ℕ)
  pub faults : ℕ

-- no file changes, and reads alone can have failed
pub record OnlyReads (old new : ShelfState) : Type 0 where
  pub files : new.files ≡ old.files
  pub writes : new.write_faults ≡ old.write_faults
  pub reads : old.read_faults ≤ new.read_faults

-- no file but this one changes, and writes alone can have failed
pub record OnlyWrites (name : List ℕ) (old new : ShelfState) : Type 0 where
  pub told : is_some new.files ≡ is_some old.files
  pub others : IfSome old.files (λ before. IfSome new.files (λ after. OthersStay before after name))
  pub reads : new.read_faults ≡ old.read_faults
  pub writes : old.write_faults ≤ new.write_faults

-- a sink goes on to tell or not to tell, and no count of faults falls
pub record OnlyPuts (old new : SinkState) : Type 0 where
  pub told : is_some new.written ≡ is_some old.written
  pub faults : old.faults ≤ new.faults

-- no read was counted as failed, and no write
abbrev pub SameReads : ShelfState → ShelfState → Type 0
SameReads old new = new.read_faults ≡ old.read_faults

abbrev pub SameWrites : ShelfState → ShelfState → Type 0
SameWrites old new = new.write_faults ≡ old.write_faults

-- a shelf that tells has this of a name
abbrev pub Has : ShelfState → List ℕ → Option (List ℕ) → Type 0
Has state name file = IfSome state.files (λ files. files name ≡ file)

-- a shelf that tells has a file of this name
abbrev pub IsThere : ShelfState → List ℕ → Type 0
IsThere state name = IfSome state.files (λ files. IsSome (files name))
