-- A base and queries that were checked one after the other.
use Rattle.std.specs.Prelude.{◌≡◌, ℕ, List, Result, Ok}
use Rattle.adc_ports.specs.Files.{Files}
use Rattle.adc_inputs.specs.declared.rows.Rows.{Rows}
use Rattle.adc_inputs.specs.declared.stop.InputError.{InputError}
use Rattle.adc_program.specs.Asking.{rows_in, IsChecked}

-- both were checked, and these are their rows
pub record AreChecked (files : Files) (wanted : Result (List (List ℕ) × List (List ℕ)) InputError) (base queries : Rows) : Type 0 where
  pub base_is : IsChecked files base
  pub queries_are : IsChecked files queries
  pub rows : wanted ≡ Ok (rows_in files base, rows_in files queries)
