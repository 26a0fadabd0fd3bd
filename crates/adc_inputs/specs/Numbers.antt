-- The rows of numbers of an input.
use Rattle.std.specs.Prelude.{◌≡◌, ℤ, List, [], length, None, Result, Ok}
use Rattle.std.specs.Result.{result_unwrap_or}
use Rattle.adc_ports.specs.Files.{Files, bytes_of}
use Rattle.vec_files.specs.Rows.{ivecs_outcome}
use Rattle.vec_files.specs.Found.{found}
use Rattle.vec_files.specs.declared.Checked.{Checked}
use Rattle.play_script.specs.declared.Role.{Role}
use Rattle.adc_inputs.specs.declared.stop.InputError.{InputError}
use Rattle.adc_inputs.specs.Names.{Name}
use Rattle.adc_inputs.specs.Inputs.{◌>>=◌, of_role, bytes_or_missing}

-- the rows of an input
unfoldable pub numbers_input : Files → Role → Name → Result (List (List ℤ)) InputError
numbers_input files role name = bytes_or_missing role (files name) >>= λ bytes. of_role role (ivecs_outcome bytes)

-- those of a good input
abbrev pub numbers_held : Files → Role → Name → List (List ℤ)
numbers_held files role name = result_unwrap_or (numbers_input files role name) []

-- what a check found is the rows of the input
pub record IsNumbersCheckOf (files : Files) (role : Role) (name : Name) (checked : Checked) : Type 0 where
  pub input : numbers_input files role name ≡ Ok (numbers_held files role name)
  pub outcome : ivecs_outcome (bytes_of files name) ≡ Ok (numbers_held files role name)
  pub finds : found None (numbers_held files role name) ≡ checked
  pub rows : checked.rows ≡ length (numbers_held files role name)
