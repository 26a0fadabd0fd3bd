-- Rows that stand one after another are spelled so and the other way round, and the laws of both kinds of files.
use Rattle.std.proofs.Common.{◌≡◌, ℕ, suc, ◌+◌, ◌*◌, ◌≤◌, ◌<◌, ◌^◌, List, [], ◌∷◌, ◌++◌, length, take, drop, Ok, sym, ap, subst, ◌∙◌, arith, inl, inr, Option, Some, None, Err, refl, false, flat_map, All, FitsSigned, Result, nat_lt, if◌then◌else◌, IfSome}
use Rattle.std.specs.Int.{w32, from_le_bytes, to_le_bytes}
use Rattle.std.proofs.lemmas.List.{length-append, get_or_past}
use Rattle.std.proofs.lemmas.List.Concat.{flat_map-cons}
use Rattle.std.proofs.lemmas.List.Elements.{All-cons}
use Rattle.std.proofs.lemmas.Bool.{cases_lt, le-ltb, eq-eqb}
use Rattle.std.proofs.Math.Nat.{one-mul}
use Rattle.std.proofs.lemmas.Nat.{from_le_bytes-to_le_bytes_4}
use Rattle.adc_ports.specs.Reading.{Read, number_at, Fault, Limit, bytes_at}
use Rattle.file_fields.specs.Fields.{IsBytes, Spells, IsField}
use Rattle.file_fields.proofs.Steps.{spells_then, spells_split, spells_within, tells_same, spells_all, all_spells}
use Rattle.file_fields.proofs.Numbers.{wide32, number_field, spells_stretch, bytes_field}
use Rattle.file_fields.proofs.Many.{number_there}
use Rattle.vec_files.specs.Laws.{AreBytes, AreRows, BvecsAreRead, BvecsAreSpelled, IvecsAreRead, IvecsAreSpelled}
use Rattle.vec_files.proofs.Standing.{IsRowAt, StandFrom, is_read, rows_length, found_rows}
use Rattle.adc_ports.specs.declared.What.TheVariants.{Bytes}
use Rattle.vec_files.specs.declared.Checked.{Checked}
use Rattle.vec_files.specs.Rows.{bvecs, ivecs, bvecs_outcome, ivecs_outcome, rows_from, rows_of_file, signed_at, spelled_signed, differs}
use Rattle.vec_files.specs.Found.{found, found_of, found_of_bvecs, found_of_ivecs}
use Rattle.vec_files.proofs.Callers.{rows_found}
use Rattle.vec_files.proofs.Components.{ReadsRows, bytes_are_read, numbers_are_read, signed_field, length_spelled}
use Rattle.file_fields.proofs.Closure.{allowed_field}
use Rattle.vec_files.proofs.Listing.{file_is}

-- a row's components are a field
pub record SpellsRows {A : Type 0} (components : ℕ → List ℕ → ℕ → Read (List A)) (width : ℕ) (spell : List A → List ℕ) (MayBe : List A → Type 0) : Type 0 where
  pub size : (row : List A) → length (spell row) ≡ width * length row
  pub field : (n : ℕ) → IsField (components n) spell (λ row. (length row ≡ n) × MayBe row)

-- also past their end
pub all_bytes : (bytes : List ℕ) → AreBytes bytes → IsBytes bytes
all_bytes bytes are i = elim (cases_lt i (length bytes)) [ inl lt ↦ are i 0 lt | inr past ↦ rw (get_or_past bytes i 0 past) (omega arith) ]

header_spells : (bytes : List ℕ) (at d : ℕ) → IsBytes bytes → at + 4 ≤ length bytes → d ≡ from_le_bytes w32 (take 4 (drop at bytes)) → Spells bytes at (to_le_bytes w32 d) (at + 4)
header_spells bytes at d are le is =
    let read : number_at w32 bytes at ≡ Ok (d, at + 4) = number_there w32 bytes at le ∙ ap (λ (n : ℕ). Ok (n, at + 4)) (sym is) in
    (tells_same (to_le_bytes w32) (λ n. n < 2 ^ 32) bytes at (number_at w32 bytes at) ((number_field w32 (2 ^ 32) wide32).tells bytes at are (omega arith)) (d, at + 4) read).1

module _ {A : Type 0} (components : ℕ → List ℕ → ℕ → Read (List A)) (width : ℕ) (spell : List A → List ℕ) (MayBe : List A → Type 0)
    (spells : SpellsRows components width spell MayBe) (bytes : List ℕ) where
  -- a row behind its header, and rows
  abbrev pub row_text : ℕ → List A → List ℕ
  row_text d row = to_le_bytes w32 d ++ spell row

  pub stand_spelled : IsBytes bytes → (d : ℕ) (rows : List (List A)) (at : ℕ) → StandFrom components width bytes d rows at
      → Spells bytes at (flat_map (row_text d) rows) (length bytes) × All (λ row. length row ≡ d) rows × All MayBe rows
  stand_spelled are d [] at stand = (record { ends = omega (arith, stand); part = ap (λ (k : ℕ). drop k bytes) stand }, λ k row lt. absurd (omega arith), λ k row lt. absurd (omega arith))
  stand_spelled are d (row ∷ rows) at stand =
      let first : IsRowAt components width bytes d at row = stand.0 in
      let rest = stand_spelled are d rows (at + 4 + width * d) stand.1 in
      let head = header_spells bytes at d are (omega (arith, first.whole)) first.header in
      let part = tells_same spell (λ row. (length row ≡ d) × MayBe row) bytes (at + 4) (components d bytes (at + 4)) ((spells.field d).tells bytes (at + 4) are (omega (arith, first.whole))) (row, at + 4 + width * d) first.is in
      (rw (flat_map-cons (row_text d) row rows) (spells_then (spells_then head part.1) rest.0), All-cons (λ row. length row ≡ d) row rows first.long rest.1, All-cons MayBe row rows part.0.1 rest.2)

  pub spelled_stand : (d : ℕ) → (0 < length bytes → 1 ≤ d) → (0 < length bytes → d ≤ 1024) → (rows : List (List A)) (at : ℕ) → at ≤ length bytes → All (λ row. length row ≡ d) rows → All MayBe rows
      → Spells bytes at (flat_map (row_text d) rows) (length bytes) → StandFrom components width bytes d rows at
  spelled_stand d low high [] at le long may p = omega (arith, p.ends)
  spelled_stand d low high (row ∷ rows) at le long may p =
      let all = spells_split (row_text d row) (flat_map (row_text d) rows) (rw (flat_map-cons (row_text d) row rows) at p) in
      let here = spells_split (to_le_bytes w32 d) (spell row) all.0 in
      let d_long : length row ≡ d = long 0 row (omega arith) in
      let size : length (spell row) ≡ width * d = spells.size row ∙ ap (λ (k : ℕ). width * k) d_long in
      let next : at + length (row_text d row) ≡ at + 4 + width * d = omega (arith, length-append (to_le_bytes w32 d) (spell row), size) in
      let ends = spells_within le all.0 in
      let whole : at + 4 + width * d ≤ length bytes = omega (arith, ends.1, next) in
      let fits : d < 2 ^ 32 = omega (arith, high (omega (arith, whole))) in
      let P : ℕ → Type 0 = λ k. Spells bytes (at + 4) (spell row) k in
      let Q : ℕ → Type 0 = λ k. Spells bytes k (flat_map (row_text d) rows) (length bytes) in (
        record {
          whole = whole;
          header = sym (ap (from_le_bytes w32) (spells_stretch here.0) ∙ from_le_bytes-to_le_bytes_4 d fits);
          low = low (omega (arith, whole));
          high = high (omega (arith, whole));
          long = d_long;
          is = (spells.field d).read bytes (at + 4) (at + 4 + width * d) row (omega (arith, whole)) (d_long, may 0 row (omega arith)) (subst P next here.1);
        },
        spelled_stand d low high rows (at + 4 + width * d) whole (λ k e lt. long (suc k) e (omega arith)) (λ k e lt. may (suc k) e (omega arith)) (subst Q next all.1),
      )

spells_bytes : SpellsRows bytes_at 1 (λ row. row) (λ _. Unit {0})
spells_bytes = record { size = λ row. omega arith; field = λ n. allowed_field (λ row long. (long, tt)) (λ row is. is.0) (bytes_field n) }

spells_signed : SpellsRows signed_at 4 spelled_signed (All (FitsSigned w32))
spells_signed = record { size = length_spelled; field = signed_field }

-- of rows, whose components are read so and spelled so
module _ {A : Type 0} (components : ℕ → List ℕ → ℕ → Read (List A)) (width : ℕ) (spell : List A → List ℕ) (MayBe : List A → Type 0)
    (reads : ReadsRows components width) (spells : SpellsRows components width spell MayBe) (bytes : List ℕ) where
  bounds : (d : ℕ) (rows : List (List A)) (at : ℕ) → StandFrom components width bytes d rows at → 0 < length rows → (1 ≤ d) × (d ≤ 1024)
  bounds d [] at stand lt = absurd (omega arith)
  bounds d (row ∷ rows) at stand lt = (stand.0.low, stand.0.high)

  read_is_spelled : (wanted : Option ℕ) (rows : List (List A)) → AreBytes bytes → rows_of_file components wanted bytes ≡ Ok rows
      → (bytes ≡ flat_map (λ row. to_le_bytes w32 (found wanted rows).d ++ spell row) rows) × AreRows (found wanted rows).d rows bytes × All MayBe rows × IfSome wanted (λ w. w ≡ (found wanted rows).d)
  read_is_spelled wanted rows are is =
      let file = file_is components width reads bytes wanted rows is in
      let it = stand_spelled components width spell MayBe spells bytes (all_bytes bytes are) (found wanted rows).d rows 0 file.1.stand in
      let within = bounds (found wanted rows).d rows 0 file.1.stand in
      (spells_all it.0, record { low = λ lt. (within lt).0; high = λ lt. (within lt).1; each = it.1; few = file.1.few; short = file.0 }, it.2, file.1.as_wanted)

  not_empty : (d : ℕ) (rows : List (List A)) → 0 < length (flat_map (λ row. to_le_bytes w32 d ++ spell row) rows) → 0 < length rows
  not_empty d [] lt = absurd (omega arith)
  not_empty d (row ∷ rows) lt = omega arith

  does_not_differ : (wanted : Option ℕ) (d : ℕ) → IfSome wanted (λ w. w ≡ d) → differs wanted d ≡ false
  does_not_differ None d e = refl
  does_not_differ (Some w) d e = rw (eq-eqb w d e) refl

  under_limit : (reading : Result (List (List A)) Fault) (rows : List (List A)) → length bytes ≤ 2147483648 → reading ≡ Ok rows → (if nat_lt 2147483648 (length bytes) then Err (Limit Bytes (length bytes)) else reading) ≡ Ok rows
  under_limit reading rows short is = rw (le-ltb 2147483648 (length bytes) short) is

  spelled_is_read : (wanted : Option ℕ) (d : ℕ) (rows : List (List A)) → bytes ≡ flat_map (λ row. to_le_bytes w32 d ++ spell row) rows → AreRows d rows bytes → All MayBe rows
      → IfSome wanted (λ w. w ≡ d) → rows_of_file components wanted bytes ≡ Ok rows
  spelled_is_read wanted d rows is allowed may as_wanted =
      let some : 0 < length bytes → 0 < length rows = λ lt. not_empty d rows (omega (arith, ap length is)) in
      let stand = spelled_stand components width spell MayBe spells bytes d (λ lt. allowed.low (some lt)) (λ lt. allowed.high (some lt)) rows 0 (omega arith) allowed.each may (all_spells is) in
      under_limit (rows_from components 4194304 wanted bytes 0) rows allowed.short (is_read components width bytes 4194304 d wanted rows 0 allowed.few (does_not_differ wanted d as_wanted) stand)

  -- how long the rows are in all
  length_by : (wanted : Option ℕ) (rows : List (List A)) (checked : Checked) → found wanted rows ≡ checked → StandFrom components width bytes (found wanted rows).d rows 0
      → checked.rows * (4 + width * checked.d) ≡ length bytes
  length_by wanted rows checked e stand = rw (← e, found_rows wanted rows) (omega (arith, rows_length components width bytes (found wanted rows).d rows 0 stand))

  file_length : (wanted : Option ℕ) (checked : Checked) → found_of wanted (rows_of_file components wanted bytes) ≡ Ok checked → checked.rows * (4 + width * checked.d) ≡ length bytes
  file_length wanted checked is =
      let it = rows_found wanted (rows_of_file components wanted bytes) checked is in
      length_by wanted it.0 checked it.2 (file_is components width reads bytes wanted it.0 it.1).1.stand

pub bvecs_are_read : BvecsAreRead
unfolding bvecs_outcome
bvecs_are_read wanted d rows allowed as_wanted =
    spelled_is_read bytes_at 1 (λ row. row) (λ _. Unit {0}) bytes_are_read spells_bytes (bvecs d rows) wanted d rows refl allowed (λ k row lt. tt) as_wanted

pub bvecs_are_spelled : BvecsAreSpelled
unfolding bvecs_outcome
bvecs_are_spelled wanted bytes rows are is =
    let it = read_is_spelled bytes_at 1 (λ row. row) (λ _. Unit {0}) bytes_are_read spells_bytes bytes wanted rows are is in
    record { spelled = it.0; allowed = it.1; as_wanted = it.3 }

pub ivecs_are_read : IvecsAreRead
unfolding ivecs_outcome
ivecs_are_read d rows allowed signed =
    spelled_is_read signed_at 4 spelled_signed (All (FitsSigned w32)) numbers_are_read spells_signed (ivecs d rows) None d rows refl allowed signed tt

pub ivecs_are_spelled : IvecsAreSpelled
unfolding ivecs_outcome
ivecs_are_spelled bytes rows are is =
    let it = read_is_spelled signed_at 4 spelled_signed (All (FitsSigned w32)) numbers_are_read spells_signed bytes None rows are is in
    record { spelled = it.0; allowed = it.1; signed = it.2 }

pub bvecs_length : (wanted : Option ℕ) (bytes : List ℕ) (checked : Checked) → found_of_bvecs wanted bytes ≡ Ok checked → checked.rows * (4 + checked.d) ≡ length bytes
unfolding bvecs_outcome found_of_bvecs
bvecs_length wanted bytes checked is =
    rw one-mul at (file_length bytes_at 1 (λ row. row) (λ _. Unit {0}) bytes_are_read spells_bytes bytes wanted checked is)

pub ivecs_length : (bytes : List ℕ) (checked : Checked) → found_of_ivecs bytes ≡ Ok checked → checked.rows * (4 + 4 * checked.d) ≡ length bytes
unfolding ivecs_outcome found_of_ivecs
ivecs_length bytes checked is = file_length signed_at 4 spelled_signed (All (FitsSigned w32)) numbers_are_read spells_signed bytes None checked is
