-- The rows of an input whose length may be wanted, or is its own.
use Rattle.std.specs.Prelude.{◌≡◌, ℕ, List, [], ◌∷◌, length, Option, Some, None, Result, Ok}
use Rattle.adc_ports.specs.Files.{Files}
use Rattle.vec_files.specs.Rows.{bvecs_outcome}
use Rattle.vec_files.specs.declared.Checked.{Checked}
use Rattle.play_script.specs.declared.Role.{Role}
use Rattle.adc_inputs.specs.declared.stop.InputError.{InputError}
use Rattle.adc_inputs.specs.Names.{Name}
use Rattle.adc_inputs.specs.Inputs.{◌>>=◌, of_role, bytes_or_missing, rows_held, IsCheckOf}

-- the rows of an input
unfoldable pub vectors_input : Files → Role → Name → Option ℕ → Result (List (List ℕ)) InputError
vectors_input files role name wanted = bytes_or_missing role (files name) >>= λ bytes. of_role role (bvecs_outcome wanted bytes)

-- the length that these rows have, if there is one
abbrev pub length_of_rows : List (List ℕ) → Option ℕ
length_of_rows [] = None
length_of_rows (row ∷ rows) = Some (length row)

-- what a check found is the rows of the input, each of the length that was found
pub record IsVectorsCheckOf (files : Files) (role : Role) (name : Name) (wanted : Option ℕ) (checked : Checked) : Type 0 where
  pub input : vectors_input files role name wanted ≡ Ok (rows_held files role name checked.d)
  pub check : IsCheckOf files role name checked.d checked
