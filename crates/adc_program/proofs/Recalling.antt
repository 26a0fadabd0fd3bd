-- Hits row by row, and what recall prints, told from what was read.
use Rattle.std.proofs.Common.{◌≡◌, ◌≢◌, ◌∙◌, ℕ, zero, suc, ◌+◌, ◌<◌, ◌≤◌, Bool, ℤ, List, [], ◌∷◌, length, take, slice_index_or, true, false, inl, inr, Ok, Err, refl, sym, ap, ap₂, arith}
use Rattle.std.specs.Prelude.{None, ◌==◌, if◌then◌else◌}
use Rattle.std.specs.Int.{from_bool}
use Rattle.std.proofs.lemmas.Bool.{cases_Bool, eqb-true, eqb-false}
use Rattle.adc_ports.specs.Files.{Files}
use Rattle.vec_files.specs.Found.{found}
use Rattle.vec_files.specs.declared.Checked.{Checked}
use Rattle.flat_truth.specs.Flat.{is_hit, hits_in}
use Rattle.play_script.specs.declared.Role.{Role}
use Rattle.play_script.specs.declared.Role.TheVariants as role
use Rattle.play_script.specs.Texts.{recall_done}
use Rattle.adc_inputs.specs.declared.stop.InputError.{InputError}
use Rattle.adc_inputs.specs.declared.stop.InputError.TheVariants.{Malformed}
use Rattle.adc_inputs.specs.declared.rows.Rows.{Rows}
use Rattle.adc_inputs.specs.Names.{Name}
use Rattle.adc_inputs.specs.Words.{Recall}
use Rattle.adc_inputs.specs.Numbers.{numbers_input}
use Rattle.adc_program.specs.Recalls.{width_of, unpaired_at, recalled, recall_lines}
use Rattle.adc_program.specs.Comparing.{numbers_in, AreCompared}
use Rattle.adc_program.specs.Verdict.{output_of}
use Rattle.adc_program.proofs.Making.{output_by}

-- one row more
pub hits_more : (k n : ℕ) (founds truths : List (List ℤ)) → n < length founds → n < length truths
    → hits_in k (take (n + 1) founds) (take (n + 1) truths) ≡ hits_in k (take n founds) (take n truths) + (if is_hit k (slice_index_or founds n []) (slice_index_or truths n []) then 1 else 0)
hits_more k zero (f ∷ fs) (t ∷ ts) p q = omega arith
hits_more k (suc n) (f ∷ fs) (t ∷ ts) p q =
    let e : suc n + 1 ≡ suc (n + 1) = omega arith in
    rw e (omega (arith, hits_more k n fs ts (omega (arith, p)) (omega (arith, q))))
hits_more k n [] truths p q = absurd (omega (arith, p))
hits_more k n (f ∷ fs) [] p q = absurd (omega (arith, q))

-- a hit counts one
pub one_hit : (hit : Bool) → from_bool hit ≡ (if hit then 1 else 0)
one_hit true = refl
one_hit false = refl

pub few_hits : (hit : Bool) → from_bool hit ≤ 1
few_hits true = omega arith
few_hits false = omega arith

-- the place by what the checks found
width_is : (rows : List (List ℤ)) → width_of rows ≡ (found None rows).d
width_is [] = refl
width_is (row ∷ rows) = refl

pub unpaired_is : (founds truths : List (List ℤ)) (checked checked1 : Checked) → checked.rows ≡ length founds → checked1.rows ≡ length truths → found None truths ≡ checked1
    → unpaired_at (length founds) (length truths) (width_of truths) ≡ unpaired_at checked.rows checked1.rows checked1.d
unpaired_is founds truths checked checked1 e e2 finds = rw (e, e2) (ap (unpaired_at (length founds) (length truths)) (width_is truths ∙ ap (λ (c : Checked). c.d) finds))

pub recalled_paired : (k : ℕ) (founds truths : List (List ℤ)) → length founds ≡ length truths → recalled k founds truths ≡ Ok (recall_done k (hits_in k founds truths) (length founds) ∷ [])
unfolding recalled
recalled_paired k founds truths same = elim (cases_Bool (length founds == length truths)) [
  | inl is ↦ simp is refl
  | inr apart ↦ absurd (eqb-false (length founds) (length truths) apart same)
]

pub recalled_unpaired : (k : ℕ) (founds truths : List (List ℤ)) → length founds ≢ length truths → recalled k founds truths ≡ Err (Malformed role.Truth (unpaired_at (length founds) (length truths) (width_of truths)))
unfolding recalled
recalled_unpaired k founds truths differ = elim (cases_Bool (length founds == length truths)) [
  | inl is ↦ absurd (differ (eqb-true (length founds) (length truths) is))
  | inr apart ↦ simp apart refl
]

module _ (files : Files) (found truth : Name) (k : ℕ) where
  pub at_found : (error : InputError) → numbers_input files role.Found found ≡ Err error → recall_lines files found truth k ≡ Err error
  unfolding recall_lines
  at_found error e = rw e refl

  pub at_truth : (founds : List (List ℤ)) (error : InputError) → numbers_input files role.Found found ≡ Ok founds → numbers_input files role.Truth truth ≡ Err error → recall_lines files found truth k ≡ Err error
  unfolding recall_lines
  at_truth founds error e e2 = rw e (rw e2 refl)

  pub by_both : (founds truths : List (List ℤ)) → numbers_input files role.Found found ≡ Ok founds → numbers_input files role.Truth truth ≡ Ok truths → recall_lines files found truth k ≡ recalled k founds truths
  unfolding recall_lines
  by_both founds truths e e2 = rw e (rw e2 refl)

  pub recall_is : output_of files (Recall found truth k) ≡ output_by (recall_lines files found truth k) []
  unfolding output_of
  recall_is = refl

-- what is printed of two inputs that were checked
pub compared_is : (files : Files) (found truth : Name) (k hits : ℕ) (founds truths : Rows) → AreCompared files found truth founds truths → truths.checked.rows ≡ founds.checked.rows → hits ≡ hits_in k (numbers_in files founds) (numbers_in files truths)
    → recall_lines files found truth k ≡ Ok (recall_done k hits founds.checked.rows ∷ [])
compared_is files found truth k hits founds truths are paired count =
    let first : numbers_input files role.Found found ≡ Ok (numbers_in files founds) = ap₂ (λ (r : Role) (n : Name). numbers_input files r n) (sym are.found_role) (sym are.found_name) ∙ are.founds_are.input in
    let second : numbers_input files role.Truth truth ≡ Ok (numbers_in files truths) = ap₂ (λ (r : Role) (n : Name). numbers_input files r n) (sym are.truth_role) (sym are.truth_name) ∙ are.truths_are.input in
    by_both files found truth k (numbers_in files founds) (numbers_in files truths) first second
    ∙ recalled_paired k (numbers_in files founds) (numbers_in files truths) (sym are.founds_are.rows ∙ sym paired ∙ are.truths_are.rows)
    ∙ ap₂ (λ (h n : ℕ). Ok (recall_done k h n ∷ [])) (sym count) (sym are.founds_are.rows)
