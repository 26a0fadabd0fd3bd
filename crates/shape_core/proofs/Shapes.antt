-- What follows from the laws of a shape.
use Rattle.std.proofs.Common.{◌≡◌, ℕ, zero, suc, ◌+◌, ◌-◌, ◌<◌, ◌≤◌, List, [], ◌∷◌, ◌++◌, length, get_or, take, replicate, sum, refl, sym, ap, ◌∙◌, subst, inl, inr, arith, length-append, eq-zero-or-pos, ◌*◌, ◌^◌}
use Rattle.std.specs.List.{AllByRecursion}
use Rattle.std.proofs.lemmas.List.{get_or_append_left, length-replicate, get_or_past}
use Rattle.std.proofs.lemmas.List.Sums.{sum_by-cons}
use Rattle.shape_core.specs.Word.{offset_of, word_of, AreFields}
use Rattle.shape_core.specs.Laws.{IsShape, IsWidth}
use Rattle.book_model.proofs.SumLemmas.{sum_below-past}
use Rattle.shape_core.proofs.Words.{offset_of-suc, offset_of-le, offset_of-all, front_of, front_of-below}

-- field n has 4 to 8 bits and lies within a word of 16
pub record FieldFits (widths : List ℕ) (n : ℕ) : Type 0 where
  pub least : 4 ≤ get_or widths n 0
  pub most : get_or widths n 0 ≤ 8
  pub ends : offset_of widths n + get_or widths n 0 ≤ 16

each_at : (P : ℕ → Type 0) (xs : List ℕ) (n : ℕ) → AllByRecursion P xs → n < length xs → P (get_or xs n 0)
each_at P [] n all h = absurd (omega arith)
each_at P (x ∷ xs) zero all h = all.0
each_at P (x ∷ xs) (suc n) all h = each_at P xs n all.1 (omega arith)

-- a width is 4 to 8
pub IsWidth-bounds : (w : ℕ) → IsWidth w → (4 ≤ w) × (w ≤ 8)
IsWidth-bounds w (zero, h, e) = (omega (arith, e), omega (arith, e))
IsWidth-bounds w (suc zero, h, e) = (omega (arith, e), omega (arith, e))
IsWidth-bounds w (suc (suc zero), h, e) = (omega (arith, e), omega (arith, e))
IsWidth-bounds w (suc (suc (suc zero)), h, e) = (omega (arith, e), omega (arith, e))
IsWidth-bounds w (suc (suc (suc (suc k))), h, e) = absurd (omega (arith, h))

sum_of_zeros : (n m : ℕ) → sum (take n (replicate m 0)) ≡ 0
sum_of_zeros zero m = refl
sum_of_zeros (suc n) zero = refl
sum_of_zeros (suc n) (suc m) = omega (arith, sum_by-cons (λ (x : ℕ). x) 0 (take n (replicate m 0)), sum_of_zeros n m)

offset_of-append_zeros : (widths : List ℕ) (m n : ℕ) → offset_of (widths ++ replicate m 0) n ≡ offset_of widths n
offset_of-append_zeros [] m zero = refl
offset_of-append_zeros [] m (suc n) = sum_of_zeros (suc n) m
offset_of-append_zeros (x ∷ xs) m zero = refl
offset_of-append_zeros (x ∷ xs) m (suc n) =
    sum_by-cons (λ (x : ℕ). x) x (take n (xs ++ replicate m 0)) ∙ ap (λ k. x + k) (offset_of-append_zeros xs m n) ∙ sym (sum_by-cons (λ (x : ℕ). x) x (take n xs))

module _ (number fields : ℕ) (table widths : List ℕ) (shape : IsShape number fields table widths) where
  pub IsWidth-at : (n : ℕ) → n < fields → IsWidth (get_or widths n 0)
  IsWidth-at n h = each_at IsWidth widths n shape.each (omega (arith, shape.fields_are))

  pub field_fits : (n : ℕ) → n < fields → FieldFits widths n
  field_fits n h =
      let in_it : n < length widths = omega (arith, shape.fields_are) in
      let b = IsWidth-bounds (get_or widths n 0) (IsWidth-at n h) in
      record { least = b.0; most = b.1; ends = omega (arith, offset_of-suc widths n in_it, offset_of-le widths (suc n), shape.total) }

  pub length-table : length table ≡ 4
  length-table = ap length shape.table_is ∙ omega (arith, length-append widths (replicate (4 - fields) 0), length-replicate {A = ℕ} (4 - fields) 0, shape.fields_are, shape.count)

  -- the table's entry at a field is its width
  pub table-at : (n : ℕ) → n < fields → get_or table n 0 ≡ get_or widths n 0
  table-at n h = ap (λ l. get_or l n 0) shape.table_is ∙ get_or_append_left widths (replicate (4 - fields) 0) 0 n (omega (arith, shape.fields_are))

  pub offset_of-table : (n : ℕ) → offset_of table n ≡ offset_of widths n
  offset_of-table n = ap (λ l. offset_of l n) shape.table_is ∙ offset_of-append_zeros widths (4 - fields) n

  -- from the fourth place on an offset is the sum of the whole table
  pub offset_of-past : (n : ℕ) → 4 ≤ n → offset_of widths n ≡ get_or table 0 0 + get_or table 1 0 + get_or table 2 0 + get_or table 3 0
  offset_of-past n h =
      let size = length-table in
      sym (offset_of-table n) ∙ offset_of-all table n (omega (arith, size)) ∙ sym (offset_of-all table 4 (omega (arith, size)))
      ∙ omega (
        arith,
        offset_of-suc table 0 (omega (arith, size)),
        offset_of-suc table 1 (omega (arith, size)),
        offset_of-suc table 2 (omega (arith, size)),
        offset_of-suc table 3 (omega (arith, size)),
      )

  -- four steps reach every field, since there are no fields past the last
  pub word_of-four : (fields' : List ℕ) → AreFields widths fields' → word_of widths fields' ≡ front_of widths fields' 4
  word_of-four fields' fit =
      sym (sum_below-past (length widths) 4 (λ k. get_or fields' k 0 * 2 ^ offset_of widths k) (omega (arith, shape.fields_are, shape.count)) (λ k h. ap (λ x. x * 2 ^ offset_of widths k) (get_or_past fields' k 0 (omega (arith, fit.count))) ∙ omega arith))

  pub front_of-within : (fields' : List ℕ) (n : ℕ) → AreFields widths fields' → front_of widths fields' n < 2 ^ offset_of widths n
  front_of-within fields' n fit = elim (eq-zero-or-pos (n - length widths)) [
    | inl e ↦ front_of-below widths fields' fit n (omega (arith, e))
    | inr l ↦
        let is = sum_below-past (length widths) n (λ k. get_or fields' k 0 * 2 ^ offset_of widths k) (omega (arith, l)) (λ k h. ap (λ x. x * 2 ^ offset_of widths k) (get_or_past fields' k 0 (omega (arith, fit.count))) ∙ omega arith) in
        let e : offset_of widths (length widths) ≡ offset_of widths n = offset_of-all widths (length widths) (omega arith) ∙ sym (offset_of-all widths n (omega (arith, l))) in
        let P : ℕ → Type 0 = λ x. x < 2 ^ offset_of widths n in
        let Q : ℕ → Type 0 = λ o. word_of widths fields' < 2 ^ o in
        subst P (sym is) (subst Q e (front_of-below widths fields' fit (length widths) (omega arith)))
  ]
