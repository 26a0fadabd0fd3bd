-- Inputs of numbers that were checked, and two of them that were found to have as many rows.
use Rattle.std.specs.Prelude.{◌≡◌, ℤ, List}
use Rattle.adc_ports.specs.Files.{Files}
use Rattle.play_script.specs.declared.Role.TheVariants as role
use Rattle.adc_inputs.specs.declared.rows.Rows.{Rows}
use Rattle.adc_inputs.specs.Names.{Name}
use Rattle.adc_inputs.specs.Numbers.{numbers_held, IsNumbersCheckOf}

-- the rows of an input, by the name that a call has for it
abbrev pub numbers_in : Files → Rows → List (List ℤ)
numbers_in files input = numbers_held files input.role input.name.now

-- it was checked
abbrev pub AreNumbers : Files → Rows → Type 0
AreNumbers files input = IsNumbersCheckOf files input.role input.name.now input.checked

-- inputs of these names were checked
pub record AreCompared (files : Files) (found truth : Name) (founds truths : Rows) : Type 0 where
  pub found_role : founds.role ≡ role.Found
  pub truth_role : truths.role ≡ role.Truth
  pub found_name : founds.name.now ≡ found
  pub truth_name : truths.name.now ≡ truth
  pub founds_are : AreNumbers files founds
  pub truths_are : AreNumbers files truths
