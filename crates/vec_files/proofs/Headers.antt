-- Reading a header, and what is found of the rest of a file, one row after another.
use Rattle.std.proofs.Common.{◌≡◌, ℕ, ◌+◌, ◌≤◌, List, length, take, drop, Option, Ok, Err, false, refl, inl, inr, zero, suc, ◌-◌, ◌*◌, ◌/◌, ◌<◌, Some, ◌∙◌, arith, eq-eqb, unwrap_or}
use Rattle.std.specs.Int.{w32, from_le_bytes}
use Rattle.std.proofs.lemmas.Bool.{lt-ltb, le-ltb, cases_lt, cases_Bool, ne_eqb}
use Rattle.adc_ports.specs.declared.What.TheVariants.{D, Rows}
use Rattle.adc_ports.specs.Reading.{Fault, Malformed, Limit, limited_at, ◌>>=◌}
use Rattle.file_fields.proofs.Many.{number_there, number_cut}
use Rattle.vec_files.specs.Rows.{header_at, differs}
use Rattle.vec_files.specs.Rest.{after_components, found_from, rest_of}

pub good_header : (wanted : Option ℕ) (bytes : List ℕ) (at n : ℕ) → at + 4 ≤ length bytes → n ≡ from_le_bytes w32 (take 4 (drop at bytes)) → 1 ≤ n → n ≤ 1024 → differs wanted n ≡ false
    → header_at wanted bytes at ≡ Ok (n, at + 4)
unfolding header_at limited_at
good_header wanted bytes at n whole is low high same = rw (number_there w32 bytes at whole, ← is, le-ltb n 1 low, le-ltb 1024 n high, same) refl

-- a header is refused, or it is a length of row
pub data HeaderCases (wanted : Option ℕ) (bytes : List ℕ) (at : ℕ) : Type 0 where
  stops : (fault : Fault) → header_at wanted bytes at ≡ Err fault → HeaderCases wanted bytes at
  passes : (n : ℕ) → at + 4 ≤ length bytes → n ≡ from_le_bytes w32 (take 4 (drop at bytes)) → 1 ≤ n → n ≤ 1024 → differs wanted n ≡ false
      → header_at wanted bytes at ≡ Ok (n, at + 4) → HeaderCases wanted bytes at

pub header_cases : (wanted : Option ℕ) (bytes : List ℕ) (at : ℕ) → HeaderCases wanted bytes at
unfolding header_at limited_at
header_cases wanted bytes at = elim (cases_lt (length bytes) (at + 4)) [
  | inl short ↦ stops (Malformed at) (rw (number_cut w32 bytes at short) refl)
  | inr whole ↦
      let n : ℕ = from_le_bytes w32 (take 4 (drop at bytes)) in
      let read = number_there w32 bytes at whole in
      elim (cases_lt n 1) [
        | inl none ↦ stops (Malformed at) (rw (read, lt-ltb n 1 none) refl)
        | inr low ↦ elim (cases_lt 1024 n) [
          | inl long ↦ stops (Limit D n) (rw (read, le-ltb n 1 low, lt-ltb 1024 n long) refl)
          | inr high ↦ elim (cases_Bool (differs wanted n)) [
            | inl other ↦ stops (Malformed at) (rw (read, le-ltb n 1 low, le-ltb 1024 n high, other) refl)
            | inr same ↦ passes n whole refl low high same (good_header wanted bytes at n whole refl low high same)
          ]
        ]
      ]
]

abbrev header : List ℕ → ℕ → ℕ
header bytes at = from_le_bytes w32 (take 4 (drop at bytes))

module _ (width seen : ℕ) (wanted : Option ℕ) (bytes : List ℕ) (at : ℕ) where
  at_the_end : (left : ℕ) → at ≡ length bytes → found_from width left seen wanted bytes at ≡ Ok (record { d = unwrap_or wanted 0; rows = seen })
  at_the_end zero e = rw (eq-eqb at (length bytes) e) refl
  at_the_end (suc left) e = rw (eq-eqb at (length bytes) e) refl

  pub rest_ends : at ≡ length bytes → rest_of width seen wanted bytes at ≡ Ok (record { d = unwrap_or wanted 0; rows = seen })
  unfolding rest_of
  rest_ends e = at_the_end (4194304 - seen) e

  pub rest_is_full : at < length bytes → seen ≡ 4194304 → rest_of width seen wanted bytes at ≡ Err (Limit Rows 4194305)
  unfolding rest_of
  rest_is_full lt e = rw (e, ne_eqb at (length bytes) (omega arith)) refl

  module _ (few : seen < 4194304) where
    pub goes_on : at < length bytes → rest_of width seen wanted bytes at
        ≡ (header_at wanted bytes at >>= λ d. after_components width d.0 bytes d.1 >>= λ next. rest_of width (seen + 1) (Some d.0) bytes next)
    unfolding rest_of
    goes_on lt =
        let left : 4194304 - seen ≡ suc (4194304 - (seen + 1)) = omega arith in
        rw (left, ne_eqb at (length bytes) (omega arith)) refl

    pub cut_header_stops : at < length bytes → length bytes < at + 4 → rest_of width seen wanted bytes at ≡ Err (Malformed at)
    unfolding header_at limited_at
    cut_header_stops lt cut = goes_on lt ∙ rw (number_cut w32 bytes at cut) refl

    module _ (whole : at + 4 ≤ length bytes) (low : 1 ≤ header bytes at) (high : header bytes at ≤ 1024) (same : differs wanted (header bytes at) ≡ false) where
      pub cut_row_stops : length bytes < at + 4 + width * header bytes at → rest_of width seen wanted bytes at ≡ Err (Malformed (at + 4 + (length bytes - (at + 4)) / width * width))
      unfolding after_components
      cut_row_stops cut = goes_on (omega arith) ∙ rw (good_header wanted bytes at (header bytes at) whole refl low high same, lt-ltb (length bytes) (at + 4 + width * header bytes at) cut) refl

      pub row_passes : at + 4 + width * header bytes at ≤ length bytes → rest_of width seen wanted bytes at ≡ rest_of width (seen + 1) (Some (header bytes at)) bytes (at + 4 + width * header bytes at)
      unfolding after_components
      row_passes there = goes_on (omega arith) ∙ rw (good_header wanted bytes at (header bytes at) whole refl low high same, le-ltb (length bytes) (at + 4 + width * header bytes at) there) refl

pub ruleset row_steps = (goes_on, number_there, cut_row_stops, row_passes)
