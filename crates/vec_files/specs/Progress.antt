-- What is left to find from where a check has come.
use Rattle.std.specs.Prelude.{◌≡◌, ℕ, List, Some, Result, Ok, Err}
use Rattle.adc_ports.specs.Reading.{Fault}
use Rattle.vec_files.specs.declared.Checked.{Checked}
use Rattle.vec_files.specs.declared.VecError.{VecError}
use Rattle.vec_files.specs.declared.progress.Progress.{Progress}
use Rattle.vec_files.specs.Found.{Refuses}
use Rattle.vec_files.specs.Rest.{rest_of}

-- where a component has this many bytes
abbrev pub rest : ℕ → Progress → List ℕ → Result Checked Fault
rest width progress bytes = rest_of width progress.rows progress.d bytes progress.at

-- a step of the check leaves the same to find, or refuses the file for what there is to find
abbrev pub KeepsRest : ℕ → Progress → List ℕ → Result Progress VecError → Type 0
KeepsRest width from bytes (Ok next) = rest width next bytes ≡ rest width from bytes
KeepsRest width from bytes (Err e) = Refuses e (Some (rest width from bytes))
