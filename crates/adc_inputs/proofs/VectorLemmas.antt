-- What the answer of a check of rows tells whose length may be wanted, or is their own.
use Rattle.std.proofs.Common.{◌≡◌, ◌∙◌, ℕ, zero, suc, ◌+◌, ◌*◌, List, [], ◌∷◌, length, Bool, true, false, not, inl, inr, Ok, Err, refl, sym, ap, subst}
use Rattle.std.specs.Prelude.{Option, Some, None, Result, option_map, unwrap_or, nat_lt, ◌==◌, if◌then◌else◌, IfSome}
use Rattle.std.proofs.lemmas.Bool.{cases_lt, eq-eqb}
use Rattle.adc_ports.specs.Files.{Files}
use Rattle.adc_ports.specs.Reading as fields
use Rattle.adc_ports.specs.Reading.{Fault, ◌>>=◌, bytes_at}
use Rattle.vec_files.specs.Rows.{differs, header_at, rows_from, bvecs_outcome}
use Rattle.vec_files.specs.Found.{found, found_of_bvecs, Refuses}
use Rattle.vec_files.specs.declared.Checked.{Checked}
use Rattle.vec_files.specs.declared.VecError.{VecError}
use Rattle.vec_files.specs.declared.VecError.TheVariants as rows
use Rattle.vec_files.proofs.Headers.{header_cases, stops, passes, good_header}
use Rattle.vec_files.proofs.Components.{RowAt, bytes_are_read}
use Rattle.vec_files.proofs.Callers.{is_absent, is_of, bvecs_found, bvecs_fault}
use Rattle.play_script.specs.declared.Role.{Role}
use Rattle.adc_inputs.specs.declared.stop.InputError.TheVariants.{Missing}
use Rattle.adc_inputs.specs.Names.{Name}
use Rattle.adc_inputs.specs.Inputs.{of_role, rows_input, rows_held}
use Rattle.adc_inputs.specs.Vectors.{vectors_input, IsVectorsCheckOf}
use Rattle.adc_inputs.specs.Causes.{stop_of_rows}
use Rattle.adc_inputs.specs.Steps.{IsDue}
use Rattle.adc_inputs.proofs.CheckLemmas.{row_count}

differs_not : (d n : ℕ) → d ≡ n → differs (Some d) n ≡ false
differs_not d n e = ap not (eq-eqb d n e)

-- rows that are read with any length are read with their own
module _ (bytes : List ℕ) where
  d_of_first : (n : ℕ) (row : List ℕ) (rest : Result (List (List ℕ)) Fault) (all : List (List ℕ)) → length row ≡ n → (rest >>= λ more. Ok (row ∷ more)) ≡ Ok all → (found None all).d ≡ n
  d_of_first n row (Ok more) all long e =
      let same : row ∷ more ≡ all = cc in
      ap (λ (l : List (List ℕ)). (found None l).d) (sym same) ∙ long
  d_of_first n row (Err fault) all long e = cc

  named_by : (left at : ℕ) (all : List (List ℕ)) (b : Bool) → (at == length bytes) ≡ b → rows_from bytes_at (suc left) None bytes at ≡ Ok all → rows_from bytes_at (suc left) (Some (found None all).d) bytes at ≡ Ok all
  named_by left at all true e h =
      let none : ◌≡◌ {A = Result (List (List ℕ)) Fault} (Ok []) (Ok all) = rw e at h in
      rw e none
  named_by left at all false e h = elim (header_cases None bytes at) [
    | stops fault f ↦ (let bad : ◌≡◌ {A = Result (List (List ℕ)) Fault} (Err fault) (Ok all) = rw (e, f) at h in cc)
    | passes n whole is low high same f ↦ elim (cases_lt (length bytes) (at + 4 + 1 * n)) [
      | inl short ↦ (let bad : ◌≡◌ {A = Result (List (List ℕ)) Fault} (Err _) (Ok all) = rw (e, f, bytes_are_read.cut n bytes (at + 4) whole short) at h in cc)
      | inr there ↦
          let row : RowAt bytes_at 1 n bytes (at + 4) = bytes_are_read.there n bytes (at + 4) there in
          let rest : Result (List (List ℕ)) Fault = rows_from bytes_at left (Some n) bytes (at + 4 + 1 * n) in
          let read : (rest >>= λ more. Ok (row.row ∷ more)) ≡ Ok all = rw (e, f, row.is) at h in
          let d : (found None all).d ≡ n = d_of_first n row.row rest all row.long read in
          let header : header_at (Some (found None all).d) bytes at ≡ Ok (n, at + 4) = good_header (Some (found None all).d) bytes at n whole is low high (differs_not (found None all).d n d) in
          rw (e, header, row.is) read
    ]
  ]

  named : (left at : ℕ) (all : List (List ℕ)) → rows_from bytes_at left None bytes at ≡ Ok all → rows_from bytes_at left (Some (found None all).d) bytes at ≡ Ok all
  named zero at all h = h
  named (suc left) at all h = named_by left at all (at == length bytes) refl h

  named_whole : (left : ℕ) (fault : Fault) (all : List (List ℕ)) (b : Bool) → (if b then Err fault else rows_from bytes_at left None bytes 0) ≡ Ok all → (if b then Err fault else rows_from bytes_at left (Some (found None all).d) bytes 0) ≡ Ok all
  named_whole left fault all true h = cc
  named_whole left fault all false h = named left 0 all h

  own_length : (all : List (List ℕ)) → bvecs_outcome None bytes ≡ Ok all → bvecs_outcome (Some (found None all).d) bytes ≡ Ok all
  unfolding bvecs_outcome
  own_length all e = named_whole 4194304 (fields.Limit _ (length bytes)) all (nat_lt 2147483648 (length bytes)) e

-- what was found is found again with the length that was found
found_again : (wanted : Option ℕ) (all : List (List ℕ)) (checked : Checked) → found wanted all ≡ checked → found (Some checked.d) all ≡ checked
found_again wanted [] checked e =
    let d : checked.d ≡ unwrap_or wanted 0 = ap (λ (c : Checked). c.d) (sym e) in
    ap (λ (n : ℕ). record { d = n; rows = 0 }) d ∙ e
found_again wanted (row ∷ more) checked e = e

outcome_again : (wanted : Option ℕ) (bytes : List ℕ) (all : List (List ℕ)) (checked : Checked) → bvecs_outcome wanted bytes ≡ Ok all → found wanted all ≡ checked → IfSome wanted (λ d. checked.d ≡ d) → bvecs_outcome (Some checked.d) bytes ≡ Ok all
outcome_again None bytes all checked e finds size = subst (λ (c : Checked). bvecs_outcome (Some c.d) bytes ≡ Ok all) finds (own_length bytes all e)
outcome_again (Some d) bytes all checked e finds size = subst (λ (n : ℕ). bvecs_outcome (Some n) bytes ≡ Ok all) (sym size) e

module _ (files : Files) (role : Role) (name : Name) (wanted : Option ℕ) where
  vectors_there : (bytes : List ℕ) → files name ≡ Some bytes → vectors_input files role name wanted ≡ of_role role (bvecs_outcome wanted bytes)
  unfolding vectors_input
  vectors_there bytes there = rw there refl

  rows_there : (d : ℕ) (bytes : List ℕ) → files name ≡ Some bytes → rows_input files role name d ≡ of_role role (bvecs_outcome (Some d) bytes)
  unfolding rows_input
  rows_there d bytes there = rw there refl

  held : (d : ℕ) (all : List (List ℕ)) → rows_input files role name d ≡ Ok all → rows_held files role name d ≡ all
  held d all e = rw e refl

  pub vectors_ok : (checked : Checked) → option_map (found_of_bvecs wanted) (files name) ≡ Some (Ok checked) → IfSome wanted (λ d. checked.d ≡ d) → IsVectorsCheckOf files role name wanted checked
  vectors_ok checked answers size =
      let file = is_of (found_of_bvecs wanted) (files name) (Ok checked) answers in
      let there : files name ≡ Some file.0 = file.1 in
      let all = bvecs_found wanted file.0 checked file.2 in
      let again : bvecs_outcome (Some checked.d) file.0 ≡ Ok all.0 = outcome_again wanted file.0 all.0 checked all.1 all.2 size in
      let input : rows_input files role name checked.d ≡ Ok all.0 = rows_there checked.d file.0 there ∙ ap (of_role role) again in
      let are : rows_held files role name checked.d ≡ all.0 = held checked.d all.0 input in
      let finds : found (Some checked.d) (rows_held files role name checked.d) ≡ checked = ap (found (Some checked.d)) are ∙ found_again wanted all.0 checked all.2 in
      record {
        input = vectors_there file.0 there ∙ ap (of_role role) all.1 ∙ ap Ok (sym are);
        check = record {
          input = input ∙ ap Ok (sym are);
          outcome = ap (bvecs_outcome (Some checked.d)) (ap (λ (o : Option (List ℕ)). unwrap_or o []) there) ∙ again ∙ ap Ok (sym are);
          finds = finds;
          rows = row_count (Some checked.d) (rows_held files role name checked.d) checked finds;
        };
      }

  fault_there : (fault : Fault) → option_map (found_of_bvecs wanted) (files name) ≡ Some (Err fault) → vectors_input files role name wanted ≡ of_role role (Err fault)
  fault_there fault answers =
      let file = is_of (found_of_bvecs wanted) (files name) (Err fault) answers in
      vectors_there file.0 file.1 ∙ ap (of_role role) (bvecs_fault wanted file.0 fault file.2)

  absent : files name ≡ None → vectors_input files role name wanted ≡ Err (Missing role)
  unfolding vectors_input
  absent e = rw e refl

  pub vectors_err : (error : VecError) → Refuses error (option_map (found_of_bvecs wanted) (files name)) → IsDue (stop_of_rows role error) (vectors_input files role name wanted)
  vectors_err rows.Missing refuses = absent (is_absent (found_of_bvecs wanted) (files name) refuses)
  vectors_err (rows.Malformed at) refuses = fault_there (fields.Malformed at) refuses
  vectors_err (rows.Limit what value) refuses = fault_there (fields.Limit what value) refuses
  vectors_err rows.ReadFault refuses = tt
  vectors_err rows.Memory refuses = tt
