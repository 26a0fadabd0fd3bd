-- What the answer of a check of rows of numbers tells of an input.
use Rattle.std.proofs.Common.{◌≡◌, ◌∙◌, ℕ, ℤ, List, [], length, Ok, Err, refl, sym, ap}
use Rattle.std.specs.Prelude.{Option, Some, None, option_map, unwrap_or}
use Rattle.adc_ports.specs.Files.{Files}
use Rattle.adc_ports.specs.Reading as fields
use Rattle.vec_files.specs.Rows.{ivecs_outcome}
use Rattle.vec_files.specs.Found.{found, found_of_ivecs, Refuses}
use Rattle.vec_files.specs.declared.Checked.{Checked}
use Rattle.vec_files.specs.declared.VecError.{VecError}
use Rattle.vec_files.specs.declared.VecError.TheVariants as rows
use Rattle.vec_files.proofs.Callers.{is_absent, is_of, rows_found, fault_found}
use Rattle.play_script.specs.declared.Role.{Role}
use Rattle.adc_inputs.specs.declared.stop.InputError.TheVariants.{Missing}
use Rattle.adc_inputs.specs.Names.{Name}
use Rattle.adc_inputs.specs.Inputs.{of_role}
use Rattle.adc_inputs.specs.Numbers.{numbers_input, numbers_held, IsNumbersCheckOf}
use Rattle.adc_inputs.specs.Causes.{stop_of_rows}
use Rattle.adc_inputs.specs.Steps.{IsDue}
use Rattle.adc_inputs.proofs.CheckLemmas.{row_count}

ivecs_found : (bytes : List ℕ) (checked : Checked) → found_of_ivecs bytes ≡ Ok checked → (all : List (List ℤ)) × (ivecs_outcome bytes ≡ Ok all) × (found None all ≡ checked)
unfolding found_of_ivecs
ivecs_found bytes checked e = rows_found None (ivecs_outcome bytes) checked e

ivecs_fault : (bytes : List ℕ) (fault : fields.Fault) → found_of_ivecs bytes ≡ Err fault → ivecs_outcome bytes ≡ Err fault
unfolding found_of_ivecs
ivecs_fault bytes fault e = fault_found None (ivecs_outcome bytes) fault e

module _ (files : Files) (role : Role) (name : Name) where
  input_there : (bytes : List ℕ) → files name ≡ Some bytes → numbers_input files role name ≡ of_role role (ivecs_outcome bytes)
  unfolding numbers_input
  input_there bytes there = rw there refl

  held : (all : List (List ℤ)) → numbers_input files role name ≡ Ok all → numbers_held files role name ≡ all
  held all e = rw e refl

  pub numbers_ok : (checked : Checked) → option_map found_of_ivecs (files name) ≡ Some (Ok checked) → IsNumbersCheckOf files role name checked
  numbers_ok checked answers =
      let file = is_of found_of_ivecs (files name) (Ok checked) answers in
      let there : files name ≡ Some file.0 = file.1 in
      let all = ivecs_found file.0 checked file.2 in
      let input : numbers_input files role name ≡ Ok all.0 = input_there file.0 there ∙ ap (of_role role) all.1 in
      let are : numbers_held files role name ≡ all.0 = held all.0 input in
      record {
        input = input ∙ ap Ok (sym are);
        outcome = ap ivecs_outcome (ap (λ (o : Option (List ℕ)). unwrap_or o []) there) ∙ all.1 ∙ ap Ok (sym are);
        finds = ap (found None) are ∙ all.2;
        rows = row_count None all.0 checked all.2 ∙ ap length (sym are);
      }

  fault_there : (fault : fields.Fault) → option_map found_of_ivecs (files name) ≡ Some (Err fault) → numbers_input files role name ≡ of_role role (Err fault)
  fault_there fault answers =
      let file = is_of found_of_ivecs (files name) (Err fault) answers in
      input_there file.0 file.1 ∙ ap (of_role role) (ivecs_fault file.0 fault file.2)

  absent : files name ≡ None → numbers_input files role name ≡ Err (Missing role)
  unfolding numbers_input
  absent e = rw e refl

  pub numbers_err : (error : VecError) → Refuses error (option_map found_of_ivecs (files name)) → IsDue (stop_of_rows role error) (numbers_input files role name)
  numbers_err rows.Missing refuses = absent (is_absent found_of_ivecs (files name) refuses)
  numbers_err (rows.Malformed at) refuses = fault_there (fields.Malformed at) refuses
  numbers_err (rows.Limit what value) refuses = fault_there (fields.Limit what value) refuses
  numbers_err rows.ReadFault refuses = tt
  numbers_err rows.Memory refuses = tt
