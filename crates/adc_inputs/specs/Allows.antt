-- The list of allowed ids of an input.
use Rattle.std.specs.Prelude.{◌≡◌, ℕ, ℤ, List, length, Result, Ok, Err, nat_lt, if◌then◌else◌}
use Rattle.std.specs.List.{sum_by}
use Rattle.adc_ports.specs.Files.{Files}
use Rattle.adc_ports.specs.declared.What.TheVariants as what
use Rattle.vec_files.specs.declared.Checked.{Checked}
use Rattle.id_filter.specs.Allowed.{allowed_ranges}
use Rattle.play_script.specs.declared.Role.TheVariants as role
use Rattle.adc_inputs.specs.declared.stop.InputError.{InputError}
use Rattle.adc_inputs.specs.declared.stop.InputError.TheVariants.{Limit}
use Rattle.adc_inputs.specs.Names.{Name}
use Rattle.adc_inputs.specs.Inputs.{◌>>=◌}
use Rattle.adc_inputs.specs.Numbers.{numbers_input, numbers_held, IsNumbersCheckOf}

-- how many numbers rows have in all
abbrev pub number_count : List (List ℤ) → ℕ
number_count rows = sum_by length rows

-- what rows of numbers allow, negative ones counted, if they are not too many
abbrev pub ranges_allowed : List (List ℤ) → Result (List (ℕ × ℕ)) InputError
ranges_allowed rows = if nat_lt 4194304 (number_count rows) then Err (Limit role.Allow what.Rows (number_count rows)) else Ok (allowed_ranges rows)

-- the ranges of an input, one for each id that it allows
unfoldable pub allow_input : Files → Name → Result (List (ℕ × ℕ)) InputError
allow_input files name = numbers_input files role.Allow name >>= ranges_allowed

-- what a check found is the rows of the input, which are not too long
pub record IsAllowCheckOf (files : Files) (name : Name) (checked : Checked) : Type 0 where
  pub numbers : IsNumbersCheckOf files role.Allow name checked
  pub input : allow_input files name ≡ Ok (allowed_ranges (numbers_held files role.Allow name))
