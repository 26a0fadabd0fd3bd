-- An input of rows that was checked, by the name and the length of row that a call has for it.
use Rattle.std.specs.Prelude.{ℕ, List}
use Rattle.adc_ports.specs.Files.{Files}
use Rattle.adc_inputs.specs.declared.rows.Rows.{Rows}
use Rattle.adc_inputs.specs.Inputs.{rows_held, IsCheckOf}

-- its rows
abbrev pub rows_in : Files → Rows → List (List ℕ)
rows_in files input = rows_held files input.role input.name.now input.checked.d

-- it was checked
abbrev pub IsChecked : Files → Rows → Type 0
IsChecked files input = IsCheckOf files input.role input.name.now input.checked.d input.checked
