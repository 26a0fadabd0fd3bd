-- What a check finds of a file.
use Rattle.std.specs.Prelude.{◌≡◌, ℕ, ◌<◌, ◌≤◌, List, [], ◌∷◌, length, Option, Some, None, unwrap_or, Result, Ok, Err}
use Rattle.adc_ports.specs.Reading.{Fault}
use Rattle.adc_ports.specs.Reading as read
use Rattle.vec_files.specs.Rows.{bvecs_outcome, ivecs_outcome}
use Rattle.vec_files.specs.declared.Checked.{Checked}
use Rattle.vec_files.specs.declared.TheConstants.{MAX_D, MAX_ROWS}
use Rattle.vec_files.specs.declared.VecError.{VecError}
use Rattle.vec_files.specs.declared.VecError.TheVariants.{Missing, Malformed, Limit, ReadFault, Memory}

-- of rows: the length of the first, or the wanted one, or 0; and how many there are
abbrev pub found : {A : Type 0} → Option ℕ → List (List A) → Checked
found wanted [] = record { d = unwrap_or wanted 0; rows = 0 }
found wanted (row ∷ rows) = record { d = length row; rows = length (row ∷ rows) }

abbrev pub found_of : {A : Type 0} → Option ℕ → Result (List (List A)) Fault → Result Checked Fault
found_of wanted (Ok rows) = Ok (found wanted rows)
found_of wanted (Err fault) = Err fault

-- of a file: its rows, or its first fault
unfoldable pub found_of_bvecs : Option ℕ → List ℕ → Result Checked Fault
found_of_bvecs wanted bytes = found_of wanted (bvecs_outcome wanted bytes)

unfoldable pub found_of_ivecs : List ℕ → Result Checked Fault
found_of_ivecs bytes = found_of None (ivecs_outcome bytes)

-- a refusal is the file's first fault, or the file is not there, unless a call on the shelf stopped
abbrev pub Refuses : VecError → Option (Result Checked Fault) → Type 0
Refuses Missing outcome = outcome ≡ None
Refuses (Malformed at) outcome = outcome ≡ Some (Err (read.Malformed at))
Refuses (Limit what value) outcome = outcome ≡ Some (Err (read.Limit what value))
Refuses ReadFault outcome = Unit {0}
Refuses Memory outcome = Unit {0}

-- a check's answer is what there is to find of the file, where it is there
abbrev pub Answers : Result Checked VecError → Option (Result Checked Fault) → Type 0
Answers (Ok checked) outcome = outcome ≡ Some (Ok checked)
Answers (Err e) outcome = Refuses e outcome

-- a check of any shelf finds no more than the limits allow
pub record IsWithinLimits (checked : Checked) : Type 0 where
  pub d : checked.d ≤ MAX_D
  pub some : 0 < checked.rows → 1 ≤ checked.d
  pub rows : checked.rows ≤ MAX_ROWS
