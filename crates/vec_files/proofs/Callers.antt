-- What a caller learns from a check's answer.
use Rattle.std.proofs.Common.{◌≡◌, ℕ, List, Option, Some, None, Ok, Err, refl, Result, option_map}
use Rattle.adc_ports.specs.Reading.{Fault}
use Rattle.vec_files.specs.declared.Checked.{Checked}
use Rattle.vec_files.specs.Rows.{bvecs_outcome}
use Rattle.vec_files.specs.Found.{found, found_of, found_of_bvecs}

module _ {B : Type 0} (find : List ℕ → B) where
  -- there is no file
  pub is_absent : (file : Option (List ℕ)) → option_map find file ≡ None → file ≡ None
  is_absent None e = refl
  is_absent (Some bytes) e = cc

  -- there is a file, of which this is what there is to find
  pub is_of : (file : Option (List ℕ)) (outcome : B) → option_map find file ≡ Some outcome → (bytes : List ℕ) × (file ≡ Some bytes) × (find bytes ≡ outcome)
  is_of None outcome e = cc
  is_of (Some bytes) outcome e = (bytes, refl, cc)

-- the rows that were found
pub rows_found : {A : Type 0} (wanted : Option ℕ) (reading : Result (List (List A)) Fault) (checked : Checked) → found_of wanted reading ≡ Ok checked
    → (rows : List (List A)) × (reading ≡ Ok rows) × (found wanted rows ≡ checked)
rows_found wanted (Ok rows) checked e = (rows, refl, cc)
rows_found wanted (Err fault) checked e = cc

-- the fault that was met
pub fault_found : {A : Type 0} (wanted : Option ℕ) (reading : Result (List (List A)) Fault) (fault : Fault) → found_of wanted reading ≡ Err fault → reading ≡ Err fault
fault_found wanted (Ok rows) fault e = cc
fault_found wanted (Err met) fault e = cc

pub bvecs_found : (wanted : Option ℕ) (bytes : List ℕ) (checked : Checked) → found_of_bvecs wanted bytes ≡ Ok checked
    → (rows : List (List ℕ)) × (bvecs_outcome wanted bytes ≡ Ok rows) × (found wanted rows ≡ checked)
unfolding found_of_bvecs
bvecs_found wanted bytes checked e = rows_found wanted (bvecs_outcome wanted bytes) checked e

pub bvecs_fault : (wanted : Option ℕ) (bytes : List ℕ) (fault : Fault) → found_of_bvecs wanted bytes ≡ Err fault → bvecs_outcome wanted bytes ≡ Err fault
unfolding found_of_bvecs
bvecs_fault wanted bytes fault e = fault_found wanted (bvecs_outcome wanted bytes) fault e
