-- What the answer of a check of rows tells of an input.
use Rattle.std.proofs.Common.{◌≡◌, ℕ, List, [], ◌∷◌, length, Ok, Err, refl, sym, ap, ◌∙◌}
use Rattle.std.specs.Prelude.{Option, Some, None, option_map, unwrap_or, Result}
use Rattle.adc_ports.specs.Files.{Files, Rose}
use Rattle.adc_ports.specs.declared.Halt.{Halt}
use Rattle.adc_ports.specs.declared.Halt.TheVariants as halt
use Rattle.adc_ports.specs.States.{ShelfState, OnlyReads, SameReads}
use Rattle.adc_ports.specs.Reading as fields
use Rattle.vec_files.specs.Rows.{bvecs_outcome}
use Rattle.vec_files.specs.Places.{GivesRow}
use Rattle.vec_files.specs.Found.{found, found_of_bvecs, Refuses}
use Rattle.vec_files.specs.declared.Checked.{Checked}
use Rattle.vec_files.specs.declared.VecError.{VecError}
use Rattle.vec_files.specs.declared.VecError.TheVariants as rows
use Rattle.vec_files.proofs.Callers.{is_absent, is_of, bvecs_found, bvecs_fault}
use Rattle.play_script.specs.declared.Role.{Role}
use Rattle.adc_inputs.specs.declared.stop.InputError.{InputError}
use Rattle.adc_inputs.specs.declared.stop.InputError.TheVariants.{Missing}
use Rattle.adc_inputs.specs.Names.{Name}
use Rattle.adc_inputs.specs.Inputs.{of_role, rows_input, rows_held, IsCheckOf}
use Rattle.adc_inputs.specs.Causes.{stop_of_halt, stop_of_rows}
use Rattle.adc_inputs.specs.Steps.{Stops, IsDue, nothing_wrong}

pub row_count : {A : Type 0} (wanted : Option ℕ) (all : List (List A)) (checked : Checked) → found wanted all ≡ checked → checked.rows ≡ length all
row_count wanted [] checked e = ap (λ (c : Checked). c.rows) (sym e)
row_count wanted (row ∷ more) checked e = ap (λ (c : Checked). c.rows) (sym e)

module _ (files : Files) (role : Role) (name : Name) (d : ℕ) where
  input_there : (bytes : List ℕ) → files name ≡ Some bytes → rows_input files role name d ≡ of_role role (bvecs_outcome (Some d) bytes)
  unfolding rows_input
  input_there bytes there = rw there refl

  held : (all : List (List ℕ)) → rows_input files role name d ≡ Ok all → rows_held files role name d ≡ all
  held all e = rw e refl

  pub check_ok : (checked : Checked) → option_map (found_of_bvecs (Some d)) (files name) ≡ Some (Ok checked) → IsCheckOf files role name d checked
  check_ok checked answers =
      let file = is_of (found_of_bvecs (Some d)) (files name) (Ok checked) answers in
      let there : files name ≡ Some file.0 = file.1 in
      let all = bvecs_found (Some d) file.0 checked file.2 in
      let input : rows_input files role name d ≡ Ok all.0 = input_there file.0 there ∙ ap (of_role role) all.1 in
      let are : rows_held files role name d ≡ all.0 = held all.0 input in
      record {
        input = input ∙ ap Ok (sym are);
        outcome = ap (bvecs_outcome (Some d)) (ap (λ (o : Option (List ℕ)). unwrap_or o []) there) ∙ all.1 ∙ ap Ok (sym are);
        finds = ap (found (Some d)) are ∙ all.2;
        rows = row_count (Some d) all.0 checked all.2 ∙ ap length (sym are);
      }

  fault_there : (fault : fields.Fault) → option_map (found_of_bvecs (Some d)) (files name) ≡ Some (Err fault) → rows_input files role name d ≡ of_role role (Err fault)
  fault_there fault answers =
      let file = is_of (found_of_bvecs (Some d)) (files name) (Err fault) answers in
      input_there file.0 file.1 ∙ ap (of_role role) (bvecs_fault (Some d) file.0 fault file.2)

  absent : files name ≡ None → rows_input files role name d ≡ Err (Missing role)
  unfolding rows_input
  absent e = rw e refl

  pub check_err : (error : VecError) → Refuses error (option_map (found_of_bvecs (Some d)) (files name)) → IsDue (stop_of_rows role error) (rows_input files role name d)
  check_err rows.Missing refuses = absent (is_absent (found_of_bvecs (Some d)) (files name) refuses)
  check_err (rows.Malformed at) refuses = fault_there (fields.Malformed at) refuses
  check_err (rows.Limit what value) refuses = fault_there (fields.Limit what value) refuses
  check_err rows.ReadFault refuses = tt
  check_err rows.Memory refuses = tt

-- what vec_files calls a read fault is one, and what it calls out of memory is none
pub rows_cause : (role : Role) (error : VecError) (old new : ShelfState) → OnlyReads old new → (error ≡ rows.ReadFault → Rose old.read_faults new.read_faults) → (error ≡ rows.Memory → SameReads old new)
    → Stops (stop_of_rows role error) old new
rows_cause role rows.Missing old new only rose same = tt
rows_cause role (rows.Malformed at) old new only rose same = tt
rows_cause role (rows.Limit what value) old new only rose same = tt
rows_cause role rows.ReadFault old new only rose same = rose refl
rows_cause role rows.Memory old new only rose same = (same refl, only.writes)

-- the same of a call on the shelf
pub halt_cause : (role : Role) (h : Halt) (old new : ShelfState) → OnlyReads old new → (h ≡ halt.Failed → Rose old.read_faults new.read_faults) → (h ≡ halt.Memory → SameReads old new)
    → Stops (stop_of_halt role h) old new
halt_cause role halt.Failed old new only rose same = rose refl
halt_cause role halt.Memory old new only rose same = (same refl, only.writes)

-- such a stop says nothing of an input
pub halt_due : {Y : Type 0} (role : Role) (h : Halt) (wanted : Result Y InputError) → IsDue (stop_of_halt role h) wanted
halt_due role halt.Failed wanted = tt
halt_due role halt.Memory wanted = tt

-- nothing is wrong with a row of a checked input
pub row_sound : {A : Type 0} (files : Files) (role : Role) (error : VecError) (into : List A) (all : List (List A)) (row : ℕ) → GivesRow {T = Unit {0}} (Err error) into all row → IsDue (stop_of_rows role error) (nothing_wrong files)
row_sound files role rows.Missing into all row gives = elim gives [ ]
row_sound files role (rows.Malformed at) into all row gives = elim gives [ ]
row_sound files role (rows.Limit what value) into all row gives = elim gives [ ]
row_sound files role rows.ReadFault into all row gives = tt
row_sound files role rows.Memory into all row gives = tt
