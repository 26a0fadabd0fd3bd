-- The rows of a file that was read without a fault, by their numbers.
use Rattle.std.proofs.Common.{◌≡◌, ℕ, ◌+◌, ◌*◌, ◌≤◌, ◌<◌, ◌^◌, List, [], ◌++◌, length, take, drop, get_or, Option, Some, None, Ok, Err, refl, sym, ap, ◌∙◌, arith, zero-add, Bool, true, false, ℤ, slice_get, nat_lt, if◌then◌else◌, FitsSigned, All, le-ltb, ltb-false}
use Rattle.std.specs.Int.{w32, from_le_bytes, to_le_bytes}
use Rattle.std.proofs.lemmas.List.{drop-take, length-take, length-drop, length-append}
use Rattle.std.proofs.lemmas.Nat.{from_le_bytes-to_le_bytes_4}
use Rattle.std.proofs.lemmas.Option.{slice_get-get_or}
use Rattle.std.proofs.Math.Seq.{take-take, drop-drop}
use Rattle.adc_ports.specs.declared.What.TheVariants.{Bytes}
use Rattle.adc_ports.specs.Reading.{Fault, Limit, Read, bytes_at}
use Rattle.vec_files.specs.declared.Checked.{Checked}
use Rattle.vec_files.specs.declared.VecError.{VecError}
use Rattle.vec_files.specs.declared.VecError.TheVariants as vec_error
use Rattle.vec_files.specs.Rows.{rows_from, rows_of_file, bvecs_outcome, ivecs_outcome, signed_at, spelled_signed}
use Rattle.vec_files.specs.Found.{found}
use Rattle.vec_files.specs.Places.{StandsAt, RefusesRow, OnMalformed, GivesRow}
use Rattle.vec_files.proofs.Components.{ReadsRows, bytes_are_read, numbers_are_read, signed_read}
use Rattle.vec_files.proofs.Standing.{IsRowAt, AreRead, good, faulty, reading, row_at, found_rows}

-- the row of this number, where it stands
pub record IsListed {A : Type 0} (components : ℕ → List ℕ → ℕ → Read (List A)) (width : ℕ) (bytes : List ℕ) (rows : List (List A)) (d i at : ℕ) : Type 0 where
  pub row : List A
  pub got : slice_get rows i ≡ Some row
  pub there : IsRowAt components width bytes d at row

module _ {A : Type 0} (components : ℕ → List ℕ → ℕ → Read (List A)) (width : ℕ) (reads : ReadsRows components width) (bytes : List ℕ) where
  file_by : (left : ℕ) (fault : Fault) (wanted : Option ℕ) (rows : List (List A)) (b : Bool) → nat_lt 2147483648 (length bytes) ≡ b → (if b then Err fault else rows_from components left wanted bytes 0) ≡ Ok rows
      → (length bytes ≤ 2147483648) × AreRead components width bytes left wanted 0 rows
  file_by left fault wanted rows true long is = cc
  file_by left fault wanted rows false short is = elim (reading components width bytes reads left wanted 0) [
    | good others all ↦ let same : others ≡ rows = cc in (ltb-false 2147483648 (length bytes) short, rw same at all)
    | faulty met is_met finds ↦ cc
  ]

  -- what is known of a file that was read without a fault
  pub file_is : (wanted : Option ℕ) (rows : List (List A)) → rows_of_file components wanted bytes ≡ Ok rows → (length bytes ≤ 2147483648) × AreRead components width bytes 4194304 wanted 0 rows
  file_is wanted rows is = file_by 4194304 (Limit Bytes (length bytes)) wanted rows (nat_lt 2147483648 (length bytes)) refl is

  pub is_listed : (wanted : Option ℕ) (rows : List (List A)) (checked : Checked) (i : ℕ) → rows_of_file components wanted bytes ≡ Ok rows → found wanted rows ≡ checked
      → i < checked.rows → IsListed components width bytes rows checked.d i (i * (4 + width * checked.d))
  is_listed wanted rows checked i is e lt =
      let d : (found wanted rows).d ≡ checked.d = ap (λ (c : Checked). c.d) e in
      let got = slice_get-get_or rows i [] (omega (arith, lt, found_rows wanted rows, ap (λ (c : Checked). c.rows) e)) in
      record { row = get_or rows i []; got = got; there = rw zero-add at (row_at components width bytes checked.d rows 0 i (get_or rows i []) (rw d at (file_is wanted rows is).1.stand) got) }

pub is_listed_bvecs : (wanted : Option ℕ) (bytes : List ℕ) (rows : List (List ℕ)) (checked : Checked) (i : ℕ) → bvecs_outcome wanted bytes ≡ Ok rows → found wanted rows ≡ checked
    → i < checked.rows → IsListed bytes_at 1 bytes rows checked.d i (i * (4 + checked.d))
unfolding bvecs_outcome
is_listed_bvecs wanted bytes rows checked i is found lt =
    let place : i * (4 + 1 * checked.d) ≡ i * (4 + checked.d) = omega arith in
    rw place at (is_listed bytes_at 1 bytes_are_read bytes wanted rows checked i is found lt)

pub is_listed_ivecs : (bytes : List ℕ) (rows : List (List ℤ)) (checked : Checked) (i : ℕ) → ivecs_outcome bytes ≡ Ok rows → found None rows ≡ checked
    → i < checked.rows → IsListed signed_at 4 bytes rows checked.d i (i * (4 + 4 * checked.d))
unfolding ivecs_outcome
is_listed_ivecs bytes rows checked i is = is_listed signed_at 4 numbers_are_read bytes None rows checked i is

-- a row that a check found is refused only where a call on the shelf stopped
pub gives_listed : {A : Type 0} (components : ℕ → List ℕ → ℕ → Read (List A)) (width : ℕ) (bytes : List ℕ) (rows : List (List A)) (d i at size : ℕ) (e : VecError) (into : List A)
    → size ≡ 4 + width * d → IsListed components width bytes rows d i at → RefusesRow e at → OnMalformed e (at + size ≤ length bytes → from_le_bytes w32 (take 4 (drop at bytes)) ≡ d → ⊥)
    → GivesRow {A = A} {T = Unit {0}} (Err e) into rows i
gives_listed components width bytes rows d i at size (vec_error.Malformed place) into long row refuses never = never (omega (arith, long, row.there.whole)) (sym row.there.header)
gives_listed components width bytes rows d i at size e into long row refuses never = refuses

-- what stands there begins with its header
is_there : (bytes part : List ℕ) (at d : ℕ) → d < 2 ^ 32 → StandsAt bytes at (to_le_bytes w32 d ++ part)
    → (at + (4 + length part) ≤ length bytes) × (from_le_bytes w32 (take 4 (drop at bytes)) ≡ d)
is_there bytes part at d fits is =
    let size : length (to_le_bytes w32 d ++ part) ≡ 4 + length part = length-append (to_le_bytes w32 d) part in
    let as_long = sym (length-take (length (to_le_bytes w32 d ++ part)) (drop at bytes)) ∙ ap length is ∙ size in
    let front : take 4 (drop at bytes) ≡ to_le_bytes w32 d = sym (take-take 4 (length (to_le_bytes w32 d ++ part)) (drop at bytes) (omega arith)) ∙ ap (take 4) is in
    (omega (arith, as_long, size, length-drop at bytes), ap (from_le_bytes w32) front ∙ from_le_bytes-to_le_bytes_4 d fits)

-- no row stands where a header or bytes are not there
pub not_there : {A : Type 0} (spell : List A → List ℕ) (bytes : List ℕ) (at d size : ℕ) (e : VecError) → d < 2 ^ 32 → ((row : List A) → length row ≡ d → size ≡ 4 + length (spell row))
    → OnMalformed e (at + size ≤ length bytes → from_le_bytes w32 (take 4 (drop at bytes)) ≡ d → ⊥) → OnMalformed e ((row : List A) → length row ≡ d → StandsAt bytes at (to_le_bytes w32 d ++ spell row) → ⊥)
not_there spell bytes at d size (vec_error.Malformed place) fits long never = λ row e is. let there = is_there bytes (spell row) at d fits is in never (omega (arith, there.0, long row e)) there.1
not_there spell bytes at d size e fits long never = tt

-- the bytes behind a header that were fetched
behind : (bytes spelled : List ℕ) (at n size : ℕ) → spelled ≡ take n (drop at bytes) → n ≡ 4 + size → drop 4 spelled ≡ take size (drop (at + 4) bytes)
behind bytes spelled at n size is e = ap (drop 4) (is ∙ ap (λ (k : ℕ). take k (drop at bytes)) e) ∙ drop-take 4 size (drop at bytes) ∙ ap (take size) (drop-drop 4 at bytes)

row_same : {A : Type 0} (reading : Read (List A)) (row other : List A) (next : ℕ) → reading ≡ Ok (row, next) → reading ≡ Ok (other, next) → row ≡ other
row_same {A} reading row other next one two =
    let pair : ◌≡◌ {A = List A × ℕ} (row, next) (other, next) = cc in
    ap (λ (p : List A × ℕ). p.0) pair

-- a row of bytes is what stands behind its header
pub row_bytes : (bytes row : List ℕ) (at d : ℕ) → IsRowAt bytes_at 1 bytes d at row → take d (drop (at + 4) bytes) ≡ row
unfolding bytes_at
row_bytes bytes row at d there =
    let next : at + 4 + d ≡ at + 4 + 1 * d = omega arith in
    row_same (bytes_at d bytes (at + 4)) (take d (drop (at + 4) bytes)) row (at + 4 + 1 * d) (rw (le-ltb (length bytes) (at + 4 + d) (omega (arith, there.whole)), next) refl) there.is

pub got_bytes : (bytes spelled row : List ℕ) (at n d : ℕ) → spelled ≡ take n (drop at bytes) → n ≡ 4 + d → IsRowAt bytes_at 1 bytes d at row → drop 4 spelled ≡ row
got_bytes bytes spelled row at n d is e there = behind bytes spelled at n d is e ∙ row_bytes bytes row at d there

pub got_numbers : (bytes spelled : List ℕ) (row into : List ℤ) (at n d : ℕ) → spelled ≡ take n (drop at bytes) → n ≡ 4 + 4 * d → IsRowAt signed_at 4 bytes d at row
    → length into ≡ d → All (FitsSigned w32) into → spelled_signed into ≡ drop 4 spelled → into ≡ row
got_numbers bytes spelled row into at n d is e there long fits read =
    let it : take (4 * length into) (drop (at + 4) bytes) ≡ spelled_signed into = rw long (sym (read ∙ behind bytes spelled at n (4 * d) is e)) in
    row_same (signed_at d bytes (at + 4)) into row (at + 4 + 4 * d) (rw long at (signed_read into bytes (at + 4) fits (omega (arith, there.whole)) it)) there.is
