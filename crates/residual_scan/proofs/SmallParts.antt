-- The small tables of two halves, one after the other in one list.
use Rattle.std.proofs.Common.{◌≡◌, ℕ, ◌+◌, ◌-◌, ◌%◌, ◌<◌, ◌≤◌, List, [], ◌∷◌, ◌++◌, length, take, drop, get_or, refl, sym, ap, ap₂, ◌∙◌, arith, length-append, length-drop}
use Rattle.std.proofs.Math.Seq.{take-append_seam}
use Rattle.std.proofs.lemmas.List.{append-nil, get_or-map, get_or-take, get_or-drop, length-take-le, take_all, drop_all}
use borrow.Rule.Slice.PartMut.{post_of}
use Rattle.lane_kernels.specs.Table.{Table}
use Rattle.lane_kernels.specs.Sums.{AreTables}
use Rattle.adc_tables.specs.Full.{table_size}
use Rattle.adc_tables.specs.Small.{HaveSizes}
use Rattle.half_tables.specs.Half.{AreParts}

no_table : Table
no_table = record { width = 0; entries = [] }

module _ (widths : List ℕ) (g : ℕ) (parts : List Table) (are : AreTables widths g parts) (sizes : HaveSizes widths parts) where
  pub parts_front : (s : ℕ) → s ≤ length parts → AreParts widths 0 (take s parts)
  parts_front s le =
      let long = length-take-le s parts le in
      let at : (i : ℕ) → i < length (take s parts) → get_or (take s parts) i no_table ≡ get_or parts i no_table = λ i lt. get_or-take s parts i no_table (omega (arith, lt, long)) in
      record {
        each = λ i lt.
            let place : i ≡ 0 + i = omega arith in
            get_or-map (λ (t : Table). t.width) (take s parts) i no_table 0 lt ∙ ap (λ (t : Table). t.width) (at i lt)
            ∙ sym (get_or-map (λ (t : Table). t.width) parts i no_table 0 (omega (arith, lt, long))) ∙ are.each i (omega (arith, lt, long)) ∙ ap (λ n. get_or widths (n % length widths) 0) place;
        sizes = λ i lt.
            let place : i ≡ 0 + i = omega arith in
            ap length (get_or-map (λ (t : Table). t.entries) (take s parts) i no_table [] lt ∙ ap (λ (t : Table). t.entries) (at i lt)
            ∙ sym (get_or-map (λ (t : Table). t.entries) parts i no_table [] (omega (arith, lt, long)))) ∙ sizes.each i (omega (arith, lt, long)) ∙ ap (table_size widths) place;
      }

  pub parts_back : (s : ℕ) → AreParts widths s (drop s parts)
  parts_back s =
      let long = length-drop s parts in
      let at : (i : ℕ) → get_or (drop s parts) i no_table ≡ get_or parts (s + i) no_table = λ i. get_or-drop s parts i no_table in
      record {
        each = λ i lt.
            get_or-map (λ (t : Table). t.width) (drop s parts) i no_table 0 lt ∙ ap (λ (t : Table). t.width) (at i)
            ∙ sym (get_or-map (λ (t : Table). t.width) parts (s + i) no_table 0 (omega (arith, lt, long))) ∙ are.each (s + i) (omega (arith, lt, long));
        sizes = λ i lt.
            ap length (get_or-map (λ (t : Table). t.entries) (drop s parts) i no_table [] lt ∙ ap (λ (t : Table). t.entries) (at i)
            ∙ sym (get_or-map (λ (t : Table). t.entries) parts (s + i) no_table [] (omega (arith, lt, long)))) ∙ sizes.each (s + i) (omega (arith, lt, long));
      }

-- what two writes leave, of the front and of the rest behind it
module _ (front parts : List Table) (s : ℕ) (size : length front ≡ s) (le : s ≤ length parts) where
  abbrev whole : List Table
  whole = front ++ drop s parts

  dropped : drop s whole ≡ drop s parts
  dropped = ap (λ n. drop n whole) (sym size) ∙ drop_front front (drop s parts)
    where
      drop_front : (xs ys : List Table) → drop (length xs) (xs ++ ys) ≡ ys
      drop_front [] ys = refl
      drop_front (x ∷ xs) ys = drop_front xs ys

  count : length whole - s ≡ length (drop s parts)
  count = omega (arith, length-append front (drop s parts), size)

  pub rest_is : take (length whole - s) (drop s whole) ≡ drop s parts
  rest_is = ap₂ (λ n (l : List Table). take n l) count dropped ∙ take_all (length (drop s parts)) (drop s parts) (omega arith)

  pub both_are : (rest : List Table) → take s whole ++ (rest ++ post_of s (length whole - s) whole) ≡ front ++ rest
  both_are rest =
      let first : take s whole ≡ front = ap (λ n. take n whole) (sym size) ∙ take-append_seam front (drop s parts) in
      let none : post_of s (length whole - s) whole ≡ [] = ap₂ (λ n (l : List Table). drop n l) count dropped ∙ drop_all (length (drop s parts)) (drop s parts) (omega arith) in
      ap₂ (λ (a b : List Table). a ++ b) first (ap (λ l. rest ++ l) none ∙ append-nil rest)
