-- Rows that stand in a stretch of a file, and the rows of a file that was read without a fault.
use Rattle.std.proofs.Common.{◌≡◌, ℕ, zero, suc, ◌+◌, ◌-◌, ◌*◌, ◌≤◌, ◌<◌, List, [], ◌∷◌, ◌++◌, length, take, drop, Option, Ok, refl, sym, ap, ◌∙◌, subst, min, arith, zero-add}
use Rattle.std.specs.Int.{w32, from_le_bytes}
use Rattle.std.proofs.lemmas.List.{drop-take, length-take, length-drop, take_all, take_at, drop_at}
use Rattle.std.proofs.Math.Seq.{take-take, drop-drop}
use Rattle.std.proofs.Math.Nat.{mul-le-mul_right, zero-mul}
use Rattle.adc_ports.specs.Reading.{bytes_at}
use Rattle.vec_files.specs.declared.Checked.{Checked}
use Rattle.vec_files.specs.Rows.{bvecs_outcome}
use Rattle.vec_files.specs.Found.{found}
use Rattle.vec_files.specs.Standing.{rows_standing, IsRowThere, FirstMissing}
use Rattle.vec_files.proofs.Components.{bytes_are_read}
use Rattle.vec_files.proofs.Standing.{StandFrom, found_rows}
use Rattle.vec_files.proofs.Listing.{file_is, is_listed_bvecs, row_bytes}
use Rattle.vec_files.proofs.Stretches.{inside, to_its_length}

pub length-rows_standing : (d n : ℕ) (bytes : List ℕ) → length (rows_standing d n bytes) ≡ n
unfolding rows_standing
length-rows_standing d zero bytes = refl
length-rows_standing d (suc n) bytes = ap suc (length-rows_standing d n (drop (4 + d) bytes))

-- the first rows, and the rows behind them
pub rows_standing-add : (d f c : ℕ) (bytes : List ℕ) → rows_standing d (f + c) bytes ≡ rows_standing d f bytes ++ rows_standing d c (drop (f * (4 + d)) bytes)
unfolding rows_standing
rows_standing-add d zero c bytes = rw (zero-add, zero-mul) refl
rows_standing-add d (suc f) c bytes =
    let n : suc f + c ≡ suc (f + c) = omega arith in
    let place : (4 + d) + f * (4 + d) ≡ suc f * (4 + d) = omega arith in
    rw n (ap (λ (rows : List (List ℕ)). take d (drop 4 bytes) ∷ rows)
    (rows_standing-add d f c (drop (4 + d) bytes)
    ∙ ap (λ (rest : List ℕ). rows_standing d f (drop (4 + d) bytes) ++ rows_standing d c rest) (drop-drop (f * (4 + d)) (4 + d) bytes ∙ ap (λ (k : ℕ). drop k bytes) place)))

-- bytes behind the rows do not matter
pub rows_standing-take : (d c n : ℕ) (bytes : List ℕ) → c * (4 + d) ≤ n → rows_standing d c (take n bytes) ≡ rows_standing d c bytes
unfolding rows_standing
rows_standing-take d zero n bytes le = refl
rows_standing-take d (suc c) n bytes le =
    let all : n ≡ (4 + d) + (n - (4 + d)) = omega arith in
    let head : n ≡ 4 + (n - 4) = omega arith in
    let front : take d (drop 4 (take n bytes)) ≡ take d (drop 4 bytes) =
    ap (λ (k : ℕ). take d (drop 4 (take k bytes))) head ∙ ap (take d) (drop-take 4 (n - 4) bytes) ∙ take-take d (n - 4) (drop 4 bytes) (omega arith) in
    let behind : drop (4 + d) (take n bytes) ≡ take (n - (4 + d)) (drop (4 + d) bytes) =
    ap (λ (k : ℕ). drop (4 + d) (take k bytes)) all ∙ drop-take (4 + d) (n - (4 + d)) bytes in
    (λ i. front i ∷ rows_standing d c (behind i))
    ∙ ap (λ (rows : List (List ℕ)). take d (drop 4 bytes) ∷ rows) (rows_standing-take d c (n - (4 + d)) (drop (4 + d) bytes) (omega arith))

-- some rows among all
some_rows : (d f c r : ℕ) (bytes : List ℕ) → take c (drop f (rows_standing d (f + (c + r)) bytes)) ≡ rows_standing d c (drop (f * (4 + d)) bytes)
some_rows d f c r bytes =
    let rest = drop (f * (4 + d)) bytes in
    rw (
      rows_standing-add d f (c + r) bytes,
      drop_at (rows_standing d f bytes) (rows_standing d (c + r) rest) f (length-rows_standing d f bytes),
      rows_standing-add d c r rest,
      take_at (rows_standing d c rest) (rows_standing d r (drop (c * (4 + d)) rest)) c (length-rows_standing d c rest),
    ) refl

module _ (bytes xs : List ℕ) (d f c : ℕ) (is : xs ≡ take (c * (4 + d)) (drop (f * (4 + d)) bytes)) where
  long : length xs ≡ min (c * (4 + d)) (length bytes - f * (4 + d))
  long = ap length is ∙ length-take (c * (4 + d)) (drop (f * (4 + d)) bytes) ∙ ap (min (c * (4 + d))) (length-drop (f * (4 + d)) bytes)

  same_header : (i : ℕ) → i * (4 + d) + 4 ≤ length xs → take 4 (drop (i * (4 + d)) xs) ≡ take 4 (drop ((f + i) * (4 + d)) bytes)
  same_header i fits =
      let place : f * (4 + d) + i * (4 + d) ≡ (f + i) * (4 + d) = omega arith in
      inside bytes xs (f * (4 + d)) (i * (4 + d)) 4 (to_its_length xs (drop (f * (4 + d)) bytes) (c * (4 + d)) is) fits ∙ ap (λ (k : ℕ). take 4 (drop k bytes)) place

  -- a row that stands in a stretch of the file stands in the file
  there_in_file : (i j : ℕ) → f + i ≡ j → IsRowThere xs d i → IsRowThere bytes d j
  there_in_file i j e there =
      let it : IsRowThere bytes d (f + i) = record {
        whole = omega (arith, long, there.whole);
        header = ap (from_le_bytes w32) (sym (same_header i (omega (arith, there.whole)))) ∙ there.header;
      } in
      subst (λ (k : ℕ). IsRowThere bytes d k) e it

  -- and the other way round
  there_in_stretch : (i : ℕ) → i < c → IsRowThere bytes d (f + i) → IsRowThere xs d i
  there_in_stretch i lt there =
      let room : suc i * (4 + d) ≤ c * (4 + d) = mul-le-mul_right (4 + d) lt in
      let fits : i * (4 + d) + (4 + d) ≤ length xs = omega (arith, long, there.whole, room) in
      record {
        whole = fits;
        header = ap (from_le_bytes w32) (same_header i (omega (arith, fits))) ∙ there.header;
      }

  module _ (n : ℕ) (each : (i : ℕ) → i < n → IsRowThere xs d i) where
    pub each_in_file : (i : ℕ) → f ≤ i → i < f + n → IsRowThere bytes d i
    each_in_file i low high = there_in_file (i - f) i (omega arith) (each (i - f) (omega arith))

    pub first_in_file : (at : ℕ) → at ≡ (f + n) * (4 + d) → n < c → (IsRowThere xs d n → ⊥) → FirstMissing bytes d f (f + c) at
    first_in_file at place lt ends = record { row = f + n; low = omega arith; high = omega arith; place = place; before = each_in_file; missing = λ it. ends (there_in_stretch n lt it) }

-- rows that are there are as long as they are
as_long : (xs : List ℕ) (d n : ℕ) → ((i : ℕ) → i < n → IsRowThere xs d i) → n * (4 + d) ≤ length xs
as_long xs d zero each = omega arith
as_long xs d (suc n) each = omega (arith, (each n (omega arith)).whole)

-- a stretch that was fetched has all rows if all are there
pub fetched_whole : (bytes new : List ℕ) (d f c held there : ℕ) → take held new ≡ take (c * (4 + d)) (drop (f * (4 + d)) bytes) → length new ≡ c * (4 + d) → c ≤ there
    → ((i : ℕ) → i < there → IsRowThere (take held new) d i) → new ≡ take (c * (4 + d)) (drop (f * (4 + d)) bytes)
fetched_whole bytes new d f c held there is size le each =
    let room : c * (4 + d) ≤ there * (4 + d) = mul-le-mul_right (4 + d) le in
    let full : length new ≤ held = omega (arith, as_long (take held new) d there each, length-take held new, room, size) in
    sym (take_all held new full) ∙ is

-- the rows that stand in a file from there to its end
rows_from_there : (bytes : List ℕ) (d : ℕ) (rows : List (List ℕ)) (at : ℕ) → StandFrom bytes_at 1 bytes d rows at → rows ≡ rows_standing d (length rows) (drop at bytes)
unfolding rows_standing
rows_from_there bytes d [] at stand = refl
rows_from_there bytes d (row ∷ rows) at stand =
    let here : row ≡ take d (drop 4 (drop at bytes)) = sym (row_bytes bytes row at d stand.0) ∙ sym (ap (take d) (drop-drop 4 at bytes)) in
    let place : at + 4 + 1 * d ≡ at + (4 + d) = omega arith in
    let behind : rows ≡ rows_standing d (length rows) (drop (4 + d) (drop at bytes)) =
    rows_from_there bytes d rows (at + 4 + 1 * d) stand.1 ∙ ap (λ (k : ℕ). rows_standing d (length rows) (drop k bytes)) place ∙ sym (ap (rows_standing d (length rows)) (drop-drop (4 + d) at bytes)) in
    λ i. here i ∷ behind i

module _ (wanted : Option ℕ) (bytes : List ℕ) (rows : List (List ℕ)) (checked : Checked) (is : bvecs_outcome wanted bytes ≡ Ok rows) (as_found : found wanted rows ≡ checked) where
  -- the rows that a check found are those that stand in the file
  pub rows_are : rows ≡ rows_standing checked.d checked.rows bytes
  unfolding bvecs_outcome
  rows_are =
      let d : (found wanted rows).d ≡ checked.d = ap (λ (c : Checked). c.d) as_found in
      let n : length rows ≡ checked.rows = sym (found_rows wanted rows) ∙ ap (λ (c : Checked). c.rows) as_found in
      rows_from_there bytes (found wanted rows).d rows 0 (file_is bytes_at 1 bytes_are_read bytes wanted rows is).1.stand ∙ (λ i. rows_standing (d i) (n i) bytes)

  pub each_is_there : (i : ℕ) → i < checked.rows → IsRowThere bytes checked.d i
  each_is_there i lt =
      let listed = is_listed_bvecs wanted bytes rows checked i is as_found lt in
      record { whole = omega (arith, listed.there.whole); header = sym listed.there.header }

  -- the rows that were fetched are those that a check found
  pub fetched_rows : (f c : ℕ) (new : List ℕ) → f + c ≤ checked.rows → new ≡ take (c * (4 + checked.d)) (drop (f * (4 + checked.d)) bytes)
      → rows_standing checked.d c new ≡ take c (drop f rows)
  fetched_rows f c new le fetched =
      let n : checked.rows ≡ f + (c + (checked.rows - (f + c))) = omega arith in
      ap (rows_standing checked.d c) fetched ∙ rows_standing-take checked.d c (c * (4 + checked.d)) (drop (f * (4 + checked.d)) bytes) (omega arith)
      ∙ sym (some_rows checked.d f c (checked.rows - (f + c)) bytes)
      ∙ sym (ap (λ (l : List (List ℕ)). take c (drop f l)) (rows_are ∙ ap (λ (k : ℕ). rows_standing checked.d k bytes) n))
