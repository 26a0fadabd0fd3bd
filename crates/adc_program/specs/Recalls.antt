-- What recall prints.
use Rattle.std.specs.Prelude.{ℕ, ◌+◌, ◌*◌, ℤ, List, [], ◌∷◌, length, min, Result, Ok, Err, ◌==◌, if◌then◌else◌}
use Rattle.adc_ports.specs.Files.{Files}
use Rattle.flat_truth.specs.Flat.{hits_in}
use Rattle.play_script.specs.declared.Role.TheVariants as role
use Rattle.play_script.specs.Texts.{recall_done}
use Rattle.adc_inputs.specs.declared.stop.InputError.{InputError}
use Rattle.adc_inputs.specs.declared.stop.InputError.TheVariants.{Malformed}
use Rattle.adc_inputs.specs.Names.{Name}
use Rattle.adc_inputs.specs.Inputs.{◌>>=◌}
use Rattle.adc_inputs.specs.Numbers.{numbers_input}

-- how many numbers the rows have
abbrev pub width_of : List (List ℤ) → ℕ
width_of [] = 0
width_of (row ∷ rows) = length row

-- the place in the truth, whose rows have d numbers, behind as many rows as the shorter of both has
abbrev pub unpaired_at : ℕ → ℕ → ℕ → ℕ
unpaired_at founds truths d = min founds truths * (4 + 4 * d)

-- how many of the rows are hits, if there is a true row for each that was found
unfoldable pub recalled : ℕ → List (List ℤ) → List (List ℤ) → Result (List (List ℕ)) InputError
recalled k founds truths =
    if length founds == length truths then Ok (recall_done k (hits_in k founds truths) (length founds) ∷ [])
    else Err (Malformed role.Truth (unpaired_at (length founds) (length truths) (width_of truths)))

-- both inputs are looked at in order, and then compared
unfoldable pub recall_lines : Files → Name → Name → ℕ → Result (List (List ℕ)) InputError
recall_lines files found truth k = do
  founds ← numbers_input files role.Found found
  truths ← numbers_input files role.Truth truth
  recalled k founds truths
