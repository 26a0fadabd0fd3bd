-- Reading a row's components, bytes or signed numbers, and the spelling of signed numbers.
use Rattle.std.proofs.Common.{◌≡◌, ℕ, zero, suc, ◌+◌, ◌-◌, ◌*◌, ◌/◌, ◌≤◌, ◌<◌, List, [], ◌∷◌, length, take, drop, Ok, Err, refl, ap, ◌∙◌, arith, ◌^◌, ◌++◌, get_or, sym, subst, ℤ, pos, map, FitsSigned, All, lt-ltb, le-ltb}
use Rattle.std.specs.Int.{w32, cast_signed, from_le_bytes, to_le_bytes, cast_unsigned}
use Rattle.std.proofs.lemmas.List.{length-take, length-drop, length-map, append-nil, get_or-take, take-append-drop, drop-drop, nil_from_length}
use Rattle.adc_ports.specs.Reading.{Malformed, Read, numbers_at, bytes_at}
use Rattle.file_fields.proofs.Many.{number_there, numbers_cut}
use Rattle.vec_files.specs.Rows.{signed_at, spelled_signed}
use Rattle.std.specs.List.{flat_map, AllByRecursion}
use Rattle.std.proofs.Math.Facts.{Fits-of_z, Fits-lt-pow, sfits_to_z, Fits-of_lt}
use Rattle.std.proofs.lemmas.Int.{to_z-of_z, of_z-to_z}
use Rattle.std.proofs.lemmas.List.Concat.{flat_map-cons}
use Rattle.std.proofs.lemmas.List.Folds.{flat_map-map}
use Rattle.std.proofs.lemmas.List.Elements.{All-from_recursion, recursion_from_All}
use Rattle.byteorder.specs.Endian.{little_number}
use Rattle.file_fields.specs.Fields.{IsBytes, IsField, AreMany}
use Rattle.file_fields.proofs.Closure.{end_field, alike_field, then_field}
use Rattle.file_fields.proofs.Numbers.{wide32, numbers_field, text_spells, bytes-take, bytes-drop}

-- a row of n components of this many bytes each stands there
pub record RowAt {A : Type 0} (components : ℕ → List ℕ → ℕ → Read (List A)) (width n : ℕ) (bytes : List ℕ) (at : ℕ) : Type 0 where
  pub row : List A
  pub long : length row ≡ n
  pub is : components n bytes at ≡ Ok (row, at + width * n)

-- rows are read there, or cut at the component that is cut or missing
pub record ReadsRows {A : Type 0} (components : ℕ → List ℕ → ℕ → Read (List A)) (width : ℕ) : Type 0 where
  pub there : (n : ℕ) (bytes : List ℕ) (at : ℕ) → at + width * n ≤ length bytes → RowAt components width n bytes at
  pub cut : (n : ℕ) (bytes : List ℕ) (at : ℕ) → at ≤ length bytes → length bytes < at + width * n
      → components n bytes at ≡ Err (Malformed (at + (length bytes - at) / width * width))

bytes_there : (n : ℕ) (bytes : List ℕ) (at : ℕ) → at + 1 * n ≤ length bytes → RowAt bytes_at 1 n bytes at
unfolding bytes_at
bytes_there n bytes at le =
    let next : at + n ≡ at + 1 * n = omega arith in
    record { row = take n (drop at bytes); long = omega (arith, length-take n (drop at bytes), length-drop at bytes); is = rw (le-ltb (length bytes) (at + n) (omega arith), next) refl }

bytes_cut : (n : ℕ) (bytes : List ℕ) (at : ℕ) → at ≤ length bytes → length bytes < at + 1 * n → bytes_at n bytes at ≡ Err (Malformed (at + (length bytes - at) / 1 * 1))
unfolding bytes_at
bytes_cut n bytes at le cut =
    let place : at + (length bytes - at) / 1 * 1 ≡ length bytes = omega arith in
    rw (lt-ltb (length bytes) (at + n) (omega arith), place) refl

pub bytes_are_read : ReadsRows bytes_at 1
bytes_are_read = record { there = bytes_there; cut = bytes_cut }

numbers_there : (n : ℕ) (bytes : List ℕ) (at : ℕ) → at + 4 * n ≤ length bytes → RowAt (numbers_at w32) 4 n bytes at
numbers_there zero bytes at le = record { row = []; long = refl; is = ap (λ (k : ℕ). Ok ([], k)) (omega arith) }
numbers_there (suc n) bytes at le =
    let others : RowAt (numbers_at w32) 4 n bytes (at + 4) = numbers_there n bytes (at + 4) (omega arith) in
    let next : at + 4 + 4 * n ≡ at + 4 * suc n = omega arith in
    record { row = from_le_bytes w32 (take 4 (drop at bytes)) ∷ others.row; long = ap suc others.long; is = rw (number_there w32 bytes at (omega arith), others.is, next) refl }

signed_there : (n : ℕ) (bytes : List ℕ) (at : ℕ) → at + 4 * n ≤ length bytes → RowAt signed_at 4 n bytes at
unfolding signed_at
signed_there n bytes at le =
    let numbers : RowAt (numbers_at w32) 4 n bytes at = numbers_there n bytes at le in
    record { row = map (cast_signed w32) numbers.row; long = length-map numbers.row (cast_signed w32) ∙ numbers.long; is = rw numbers.is refl }

signed_cut : (n : ℕ) (bytes : List ℕ) (at : ℕ) → at ≤ length bytes → length bytes < at + 4 * n → signed_at n bytes at ≡ Err (Malformed (at + (length bytes - at) / 4 * 4))
unfolding signed_at
signed_cut n bytes at le cut = rw (numbers_cut w32 n ((length bytes - at) / 4) bytes at (omega arith) (omega arith) (omega arith)) refl

pub numbers_are_read : ReadsRows signed_at 4
numbers_are_read = record { there = signed_there; cut = signed_cut }

-- the bytes of one number
abbrev pub four : ℤ → List ℕ
four x = to_le_bytes w32 (cast_unsigned w32 x)

pub length_spelled : (xs : List ℤ) → length (spelled_signed xs) ≡ 4 * length xs
length_spelled [] = refl
length_spelled (x ∷ xs) = omega (arith, length_spelled xs)

-- ---- signed numbers as a field

unsigned : (xs : List ℤ) → AllByRecursion (FitsSigned w32) xs → AllByRecursion (λ n. n < 2 ^ 32) (map (cast_unsigned w32) xs) × (map (cast_signed w32) (map (cast_unsigned w32) xs) ≡ xs)
unsigned [] fits = (tt, refl)
unsigned (x ∷ xs) fits = let rest = unsigned xs fits.1 in ((Fits-lt-pow (Fits-of_z fits.0), rest.0), rw (to_z-of_z w32 x fits.0, rest.1) refl)

signed : (ns : List ℕ) → AllByRecursion (λ n. n < 2 ^ 32) ns → AllByRecursion (FitsSigned w32) (map (cast_signed w32) ns) × (map (cast_unsigned w32) (map (cast_signed w32) ns) ≡ ns)
signed [] small = (tt, refl)
signed (n ∷ ns) small = let rest = signed ns small.1 in ((sfits_to_z (Fits-of_lt small.0), rest.0), rw (of_z-to_z w32 n small.0, rest.1) refl)

pub signed_field : (n : ℕ) → IsField (signed_at n) spelled_signed (λ row. (length row ≡ n) × All (FitsSigned w32) row)
unfolding signed_at
signed_field n = alike_field (λ bytes at. refl) (λ row is. sym (append-nil (flat_map (to_le_bytes w32) (map (cast_unsigned w32) row)) ∙ flat_map-map (to_le_bytes w32) (cast_unsigned w32) row)) there back
    (then_field (map (cast_unsigned w32)) (numbers_field w32 (2 ^ 32) wide32 n) (λ ns are. end_field (map (cast_signed w32) ns)) (λ ns row are e. ap (map (cast_unsigned w32)) e ∙ (signed ns are.each).1))
  where
    there : (row : List ℤ) → AreMany n (λ x. x < 2 ^ 32) (map (cast_unsigned w32) row) × (row ≡ map (cast_signed w32) (map (cast_unsigned w32) row)) → (length row ≡ n) × All (FitsSigned w32) row
    there row is = (
      sym (length-map row (cast_unsigned w32)) ∙ is.0.count,
      All-from_recursion (FitsSigned w32) row (subst (λ (xs : List ℤ). AllByRecursion (FitsSigned w32) xs) (sym is.1) (signed (map (cast_unsigned w32) row) is.0.each).0),
    )

    back : (row : List ℤ) → (length row ≡ n) × All (FitsSigned w32) row → AreMany n (λ x. x < 2 ^ 32) (map (cast_unsigned w32) row) × (row ≡ map (cast_signed w32) (map (cast_unsigned w32) row))
    back row is =
        let it = unsigned row (recursion_from_All (FitsSigned w32) row is.1) in
        (record { count = length-map row (cast_unsigned w32) ∙ is.0; each = it.0 }, sym it.1)

-- what is spelled there is read there
pub signed_read : (xs : List ℤ) (bytes : List ℕ) (at : ℕ) → All (FitsSigned w32) xs → at + 4 * length xs ≤ length bytes
    → take (4 * length xs) (drop at bytes) ≡ spelled_signed xs → signed_at (length xs) bytes at ≡ Ok (xs, at + 4 * length xs)
signed_read xs bytes at fits le is =
    let size = length_spelled xs in
    let text = text_spells bytes at (spelled_signed xs) (ap (λ (k : ℕ). take k (drop at bytes)) size ∙ is) in
    (signed_field (length xs)).read bytes at (at + length (spelled_signed xs)) xs (omega arith) (refl, fits) text ∙ ap (λ (k : ℕ). Ok (xs, at + k)) size

-- the number of the first four bytes, as byteorder tells it
four_is : (xs : List ℕ) → little_number 4 xs ≡ from_le_bytes w32 (take 4 xs)
four_is xs = rw (get_or-take 4 xs 0 0 (omega arith), get_or-take 4 xs 1 0 (omega arith), get_or-take 4 xs 2 0 (omega arith), get_or-take 4 xs 3 0 (omega arith)) (omega arith)

-- numbers of which each is read at its place are spelled by the bytes
pub numbers_spelled : (xs : List ℤ) (bytes : List ℕ) → IsBytes bytes → length bytes ≡ 4 * length xs
    → ((k : ℕ) → k < length xs → get_or xs k (pos 0) ≡ cast_signed w32 (little_number 4 (drop (4 * k) bytes))) → (spelled_signed xs ≡ bytes) × AllByRecursion (FitsSigned w32) xs
numbers_spelled [] bytes are e each = (sym (nil_from_length bytes e), tt)
numbers_spelled (x ∷ xs) bytes are e each =
    let n : ℕ = from_le_bytes w32 (take 4 bytes) in
    let front = bytes-take 4 bytes are in
    let small : n < 2 ^ 32 = wide32.below (take 4 bytes) front in
    let is : x ≡ cast_signed w32 n = each 0 (omega arith) ∙ ap (cast_signed w32) (four_is bytes) in
    let text : four x ≡ take 4 bytes = ap four is ∙ ap (to_le_bytes w32) (of_z-to_z w32 n small) ∙ wide32.back (take 4 bytes) (omega (arith, length-take 4 bytes, e)) front in
    let next : (k : ℕ) → 4 * suc k ≡ 4 + 4 * k = λ k. omega arith in
    let rest = numbers_spelled xs (drop 4 bytes) (bytes-drop 4 bytes are) (omega (arith, length-drop 4 bytes, e))
    (λ k lt. each (suc k) (omega arith) ∙ ap (λ (ys : List ℕ). cast_signed w32 (little_number 4 ys)) (ap (λ (j : ℕ). drop j bytes) (next k) ∙ sym (drop-drop (4 * k) 4 bytes))) in
    let P : ℤ → Type 0 = λ y. FitsSigned w32 y in
    (flat_map-cons four x xs ∙ ap (λ (t : List ℕ). t ++ spelled_signed xs) text ∙ ap (λ (t : List ℕ). take 4 bytes ++ t) rest.0 ∙ take-append-drop 4 bytes, (subst P (sym is) (sfits_to_z (Fits-of_lt small)), rest.1))
