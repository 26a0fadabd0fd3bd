-- The nearest rows of an exact search as the code has them.
use Rattle.std.specs.Prelude.{◌≡◌, ℕ, ℤ, negsuc, List, map, Result, Ok, slice_index_or}
use Rattle.std.specs.Int.{w32, cast_signed}
use Rattle.adc_ports.specs.Files.{Files}
use Rattle.flat_truth.specs.Pairs.{key_of}
use Rattle.flat_truth.specs.declared.TruePair.{TruePair}
use Rattle.play_script.specs.Texts.{exact_done}
use Rattle.adc_inputs.specs.declared.rows.Rows.{Rows}
use Rattle.adc_inputs.specs.declared.stop.InputError.{InputError}
use Rattle.adc_inputs.specs.Names.{Name}
use Rattle.adc_program.specs.Asking.{rows_in, IsChecked}
use Rattle.adc_program.specs.Exacts.{with_nearest}
use Rattle.adc_program.specs.Outputs.{Output}

-- the numbers of their rows
abbrev pub row_numbers : List TruePair → List ℕ
row_numbers pairs = map (λ pair. pair.1) (map key_of pairs)

-- the one of a place as a signed number, and -1 behind them
abbrev pub number_of : List ℕ → ℕ → ℤ
number_of numbers n = slice_index_or (map (cast_signed w32) numbers) n (negsuc 0)

-- base and queries were checked, and this is what is to be written of them
pub record IsOpened (files : Files) (wanted : Result Output InputError) (name : Name) (base queries : Rows) (k : ℕ) : Type 0 where
  pub base_is : IsChecked files base
  pub queries_are : IsChecked files queries
  pub output : wanted ≡ Ok (with_nearest name (exact_done queries.checked.rows base.checked.rows) (rows_in files base) (rows_in files queries) k queries.checked.rows)
