-- Rows that stand one after another in a file, what a file is read as, and what is found of it by headers and lengths alone.
use Rattle.std.proofs.Common.{◌≡◌, ℕ, zero, suc, ◌+◌, ◌-◌, ◌*◌, ◌/◌, ◌≤◌, List, [], ◌∷◌, length, take, drop, Option, Some, None, Ok, Err, refl, sym, ◌∙◌, arith, inl, inr, Bool, true, false, subst, eq-eqb, add-zero, zero-add, ◌==◌, IfSome, slice_get, nat_lt, if◌then◌else◌, unwrap_or}
use Rattle.std.specs.Int.{w32, from_le_bytes}
use Rattle.std.proofs.lemmas.Bool.{lt-ltb, le-ltb, cases_lt, eqb-true, ne_eqb}
use Rattle.std.proofs.lemmas.Bool.Decides.{nat_tests}
use Rattle.adc_ports.specs.declared.What.TheVariants.{Bytes, Rows}
use Rattle.adc_ports.specs.Reading.{Fault, Malformed, Limit, Read, bytes_at}
use Rattle.vec_files.specs.Rows.{differs, rows_from, rows_of_file, bvecs_outcome, ivecs_outcome, signed_at}
use Rattle.vec_files.specs.Found.{found, found_of, found_of_bvecs, found_of_ivecs}
use Rattle.vec_files.specs.Rest.{after_components, found_from, rest_of, whole_of}
use Rattle.vec_files.proofs.Headers.{header_cases, stops, passes, good_header}
use Rattle.vec_files.proofs.Components.{RowAt, ReadsRows, bytes_are_read, numbers_are_read}

pub found_rows : {A : Type 0} (wanted : Option ℕ) (rows : List (List A)) → (found wanted rows).rows ≡ length rows
found_rows wanted [] = refl
found_rows wanted (row ∷ rows) = refl

as_wanted : (wanted : Option ℕ) (n : ℕ) → differs wanted n ≡ false → IfSome wanted (λ w. w ≡ n)
as_wanted None n same = tt
as_wanted (Some w) n same = grind (arith, nat_tests)

none_wanted : (wanted : Option ℕ) → IfSome wanted (λ w. w ≡ unwrap_or wanted 0)
none_wanted None = tt
none_wanted (Some w) = refl

module _ {A : Type 0} (components : ℕ → List ℕ → ℕ → Read (List A)) (width : ℕ) (bytes : List ℕ) where
  -- a row of d components stands there behind its header
  pub record IsRowAt (d at : ℕ) (row : List A) : Type 0 where
    pub whole : at + 4 + width * d ≤ length bytes
    pub header : d ≡ from_le_bytes w32 (take 4 (drop at bytes))
    pub low : 1 ≤ d
    pub high : d ≤ 1024
    pub long : length row ≡ d
    pub is : components d bytes (at + 4) ≡ Ok (row, at + 4 + width * d)

  -- these rows of d components stand from there to the end
  abbrev pub StandFrom : ℕ → List (List A) → ℕ → Type 0
  StandFrom d [] at = at ≡ length bytes
  StandFrom d (row ∷ rows) at = IsRowAt d at row × StandFrom d rows (at + 4 + width * d)

  -- these rows are read from there on, where so many may begin, and found
  pub record AreRead (left : ℕ) (wanted : Option ℕ) (at : ℕ) (rows : List (List A)) : Type 0 where
    pub is : rows_from components left wanted bytes at ≡ Ok rows
    pub as_wanted : IfSome wanted (λ w. w ≡ (found wanted rows).d)
    pub stand : StandFrom (found wanted rows).d rows at
    pub few : length rows ≤ left
    pub finds : (seen : ℕ) → found_from width left seen wanted bytes at ≡ Ok (record { d = (found wanted rows).d; rows = seen + length rows })

  pub data Reading (left : ℕ) (wanted : Option ℕ) (at : ℕ) : Type 0 where
    good : (rows : List (List A)) → AreRead left wanted at rows → Reading left wanted at
    faulty : (fault : Fault) → rows_from components left wanted bytes at ≡ Err fault → ((seen : ℕ) → found_from width left seen wanted bytes at ≡ Err fault) → Reading left wanted at

  module _ (reads : ReadsRows components width) where
    none : (left : ℕ) (wanted : Option ℕ) (at : ℕ) → rows_from components left wanted bytes at ≡ Ok [] → ((seen : ℕ) → found_from width left seen wanted bytes at ≡ Ok (record { d = unwrap_or wanted 0; rows = seen }))
        → at ≡ length bytes → Reading left wanted at
    none left wanted at is finds ends = good [] (record { is = is; as_wanted = none_wanted wanted; stand = ends; few = omega arith; finds = λ seen. rw add-zero (finds seen) })

    read_by : (left : ℕ) (wanted : Option ℕ) (at : ℕ) (b : Bool) → (at == length bytes) ≡ b → Reading left wanted at
    unfolding after_components
    read_by zero wanted at true e = none zero wanted at (rw e refl) (λ seen. rw e refl) (eqb-true at (length bytes) e)
    read_by zero wanted at false e = faulty (Limit Rows 4194305) (rw e refl) (λ seen. rw e refl)
    read_by (suc left) wanted at true e = none (suc left) wanted at (rw e refl) (λ seen. rw e refl) (eqb-true at (length bytes) e)
    read_by (suc left) wanted at false e = elim (header_cases wanted bytes at) [
      | stops fault h ↦ faulty fault (rw (e, h) refl) (λ seen. rw (e, h) refl)
      | passes n whole header low high same h ↦ elim (cases_lt (length bytes) (at + 4 + width * n)) [
        | inl short ↦ faulty (Malformed (at + 4 + (length bytes - (at + 4)) / width * width)) (rw (e, h, reads.cut n bytes (at + 4) whole short) refl)
            (λ seen. rw (e, h, lt-ltb (length bytes) (at + 4 + width * n) short) refl)
        | inr there ↦
            let row : RowAt components width n bytes (at + 4) = reads.there n bytes (at + 4) there in
            let next = le-ltb (length bytes) (at + 4 + width * n) there in
            elim (read_by left (Some n) (at + 4 + width * n) (at + 4 + width * n == length bytes) refl) [
              | faulty fault is finds ↦ faulty fault (rw (e, h, row.is, is) refl) (λ seen. rw (e, h, next, finds (seen + 1)) refl)
              | good rows rest ↦
                  let d : (found (Some n) rows).d ≡ n = sym rest.as_wanted in
                  let here : IsRowAt n at row.row = record { whole = there; header = header; low = low; high = high; long = row.long; is = row.is } in
                  good (row.row ∷ rows) (record {
                    is = rw (e, h, row.is, rest.is) refl;
                    as_wanted = subst (λ (k : ℕ). IfSome wanted (λ w. w ≡ k)) (sym row.long) (as_wanted wanted n same);
                    stand = subst (λ (k : ℕ). StandFrom k (row.row ∷ rows) at) (sym row.long) (here, rw d at rest.stand);
                    few = omega (arith, rest.few);
                    finds = λ seen. let more : seen + 1 + length rows ≡ seen + suc (length rows) = omega arith in rw (e, h, next, rest.finds (seen + 1), d, row.long, more) refl;
                  })
            ]
      ]
    ]

    pub reading : (left : ℕ) (wanted : Option ℕ) (at : ℕ) → Reading left wanted at
    reading left wanted at = read_by left wanted at (at == length bytes) refl

    by_length : (left : ℕ) (wanted : Option ℕ) (fault : Fault) (b : Bool)
        → found_of wanted (if b then Err fault else rows_from components left wanted bytes 0) ≡ (if b then Err fault else found_from width left 0 wanted bytes 0)
    by_length left wanted fault true = refl
    by_length left wanted fault false = elim (reading left wanted 0) [
      | good rows all ↦ rw (all.is, all.finds 0) (λ i. Ok (record { d = (found wanted rows).d; rows = (found_rows wanted rows ∙ sym (zero-add (length rows))) i }))
      | faulty fault is finds ↦ rw (is, finds 0) refl
    ]

    pub whole : (wanted : Option ℕ) → found_of wanted (rows_of_file components wanted bytes) ≡ whole_of width wanted bytes
    unfolding whole_of rest_of
    whole wanted = by_length 4194304 wanted (Limit Bytes (length bytes)) (nat_lt 2147483648 (length bytes))

  -- what stands there is read
  pub is_read : (left d : ℕ) (wanted : Option ℕ) (rows : List (List A)) (at : ℕ) → length rows ≤ left → differs wanted d ≡ false → StandFrom d rows at
      → rows_from components left wanted bytes at ≡ Ok rows
  is_read zero d wanted [] at few same end = rw (eq-eqb at (length bytes) end) refl
  is_read (suc left) d wanted [] at few same end = rw (eq-eqb at (length bytes) end) refl
  is_read zero d wanted (row ∷ rows) at few same stand = absurd (omega arith)
  is_read (suc left) d wanted (row ∷ rows) at few same stand =
      let first : IsRowAt d at row = stand.0 in
      let rest = is_read left d (Some d) rows (at + 4 + width * d) (omega arith) (rw (eq-eqb d d refl) refl) stand.1 in
      let open_end : at ≡ length bytes → ⊥ = λ e. omega (arith, first.whole, e) in
      rw (ne_eqb at (length bytes) open_end, good_header wanted bytes at d (omega (arith, first.whole)) first.header first.low first.high same, first.is, rest) refl

  -- a row by its number
  pub row_at : (d : ℕ) (rows : List (List A)) (at i : ℕ) (row : List A) → StandFrom d rows at → slice_get rows i ≡ Some row → IsRowAt d (at + i * (4 + width * d)) row
  row_at d [] at i row stand got = cc
  row_at d (first ∷ rows) at zero row stand got =
      let same : first ≡ row = cc in
      let place : at + 0 * (4 + width * d) ≡ at = omega arith in
      rw (place, sym same) stand.0
  row_at d (first ∷ rows) at (suc i) row stand got =
      let place : at + suc i * (4 + width * d) ≡ at + 4 + width * d + i * (4 + width * d) = omega arith in
      rw place (row_at d rows (at + 4 + width * d) i row stand.1 got)

  -- how long the rows are in all
  pub rows_length : (d : ℕ) (rows : List (List A)) (at : ℕ) → StandFrom d rows at → at + length rows * (4 + width * d) ≡ length bytes
  rows_length d [] at end = omega arith
  rows_length d (row ∷ rows) at stand = omega (arith, rows_length d rows (at + 4 + width * d) stand.1)

pub found_of_bvecs_is : (wanted : Option ℕ) → found_of_bvecs wanted ≡ whole_of 1 wanted
unfolding found_of_bvecs bvecs_outcome
found_of_bvecs_is wanted = λ i bytes. whole bytes_at 1 bytes bytes_are_read wanted i

pub found_of_ivecs_is : found_of_ivecs ≡ whole_of 4 None
unfolding found_of_ivecs ivecs_outcome
found_of_ivecs_is = λ i bytes. whole signed_at 4 bytes numbers_are_read None i
