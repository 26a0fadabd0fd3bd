-- What checks and reads tell of a list of allowed ids.
use Rattle.std.proofs.Common.{◌≡◌, ◌∙◌, ℕ, suc, ◌*◌, ◌<◌, ◌≤◌, ℤ, List, [], ◌∷◌, length, Ok, Err, refl, sym, ap, arith}
use Rattle.std.specs.Prelude.{Some, slice_get}
use Rattle.std.proofs.lemmas.List.Sums.{sum_by-cons}
use Rattle.std.proofs.lemmas.Bool.{lt-ltb, le-ltb}
use Rattle.adc_ports.specs.Files.{Files, bytes_of}
use Rattle.adc_ports.specs.declared.What.TheVariants as what
use Rattle.vec_files.specs.declared.Checked.{Checked}
use Rattle.vec_files.proofs.Listing.{is_listed_ivecs}
use Rattle.play_script.specs.declared.Role.TheVariants as role
use Rattle.adc_inputs.specs.declared.stop.InputError.{InputError}
use Rattle.adc_inputs.specs.declared.stop.InputError.TheVariants.{Limit}
use Rattle.adc_inputs.specs.Names.{Name}
use Rattle.adc_inputs.specs.Numbers.{numbers_input, numbers_held, IsNumbersCheckOf}
use Rattle.adc_inputs.specs.Allows.{number_count, ranges_allowed, allow_input, IsAllowCheckOf}

-- rows of one length
count_of : (d : ℕ) (rows : List (List ℤ)) → ((i : ℕ) → i < length rows → (row : List ℤ) × (slice_get rows i ≡ Some row) × (length row ≡ d)) → number_count rows ≡ length rows * d
count_of d [] each =
    let none : 0 * d ≡ 0 = omega arith in
    sym none
count_of d (row ∷ rows) each =
    let first = each 0 (omega arith) in
    let same : row ≡ first.0 = cc in
    let rest = count_of d rows (λ i lt. each (suc i) (omega (arith, lt))) in
    omega (arith, sum_by-cons length row rows, ap length same, first.2, rest)

module _ (files : Files) (name : Name) where
  pub allow_at : (error : InputError) → numbers_input files role.Allow name ≡ Err error → allow_input files name ≡ Err error
  unfolding allow_input
  allow_at error e = rw e refl

  by_rows : (rows : List (List ℤ)) → numbers_input files role.Allow name ≡ Ok rows → allow_input files name ≡ ranges_allowed rows
  unfolding allow_input
  by_rows rows e = rw e refl

  module _ (checked : Checked) (check : IsNumbersCheckOf files role.Allow name checked) where
    count_is : number_count (numbers_held files role.Allow name) ≡ checked.rows * checked.d
    count_is =
        let held = numbers_held files role.Allow name in
        count_of checked.d held (λ i lt. (let row = is_listed_ivecs (bytes_of files name) held checked i check.outcome check.finds (omega (arith, lt, check.rows)) in (row.row, row.got, row.there.long)))
        ∙ ap (λ (n : ℕ). n * checked.d) (sym check.rows)

    pub allow_many : (n : ℕ) → n ≡ checked.rows * checked.d → 4194304 < n → allow_input files name ≡ Err (Limit role.Allow what.Rows n)
    allow_many n e big =
        let held = numbers_held files role.Allow name in
        let is : number_count held ≡ n = count_is ∙ sym e in
        by_rows held check.input ∙ rw is (simp (lt-ltb 4194304 n big) refl)

    pub allow_few : (n : ℕ) → n ≡ checked.rows * checked.d → n ≤ 4194304 → IsAllowCheckOf files name checked
    allow_few n e few =
        let held = numbers_held files role.Allow name in
        let is : number_count held ≡ n = count_is ∙ sym e in
        record {
          numbers = check;
          input = by_rows held check.input ∙ rw is (simp (le-ltb 4194304 n few) refl);
        }
