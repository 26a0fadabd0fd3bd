-- Fields and words are one to one.
use Rattle.std.proofs.Common.{◌≡◌, ℕ, zero, suc, ◌+◌, ◌-◌, ◌*◌, ◌/◌, ◌%◌, ◌^◌, ◌<◌, ◌≤◌, List, length, get_or, take, sum, sym, ap, ◌∙◌, subst, inl, inr, arith, add-one, eq-zero-or-pos}
use Rattle.std.proofs.Math.Nat.{mod-eq_of_lt, mod-lt, add-mul-mod_self_right, mul_assoc, add_comm}
use Rattle.std.proofs.lemmas.Nat.{pow_pos, pow-add, mod-pow-add, field_of as low_field, div-mul-add, mul-add-lt}
use Rattle.std.proofs.lemmas.List.{take_all, take-take}
use Rattle.std.proofs.lemmas.List.Sums.{sum_by_more, sum_by-take-le}
use Rattle.std.proofs.lemmas.List.FromFn.{length-map-range_with_len, get_or-map-range_with_len, fill_by_all}
use Rattle.book_model.specs.Sums.{sum_below}
use Rattle.book_model.proofs.SumLemmas.{sum_below-same}
use Rattle.shape_core.specs.Word.{offset_of, word_of, field_of, fields_of, IsWord, AreFields}

-- ---- offsets

module _ (widths : List ℕ) where
  pub offset_of-suc : (n : ℕ) → n < length widths → offset_of widths (suc n) ≡ offset_of widths n + get_or widths n 0
  offset_of-suc n h = ap (offset_of widths) (sym (add-one n)) ∙ sum_by_more (λ (x : ℕ). x) widths n 0 h

  pub offset_of-all : (n : ℕ) → length widths ≤ n → offset_of widths n ≡ sum widths
  offset_of-all n h = ap sum (take_all n widths h)

  pub offset_of-le : (n : ℕ) → offset_of widths n ≤ sum widths
  offset_of-le n = sum_by-take-le (λ (x : ℕ). x) widths n

  pub offset_of-mono : (m n : ℕ) → m ≤ n → offset_of widths m ≤ offset_of widths n
  offset_of-mono m n h = subst (λ (l : List ℕ). sum l ≤ offset_of widths n) (take-take m n widths h) (sum_by-take-le (λ (x : ℕ). x) (take n widths) m)

-- ---- the fields of a packed word

-- what the first n fields add up to
abbrev pub front_of : List ℕ → List ℕ → ℕ → ℕ
front_of widths fields n = sum_below n (λ k. get_or fields k 0 * 2 ^ offset_of widths k)

joined : (a b w o : ℕ) → a < 2 ^ o → b < 2 ^ w → a + b * 2 ^ o < 2 ^ (o + w)
joined a b w o l m = omega (arith, mul-add-lt b (2 ^ o) a (2 ^ w) m l, pow-add 2 o w)

-- a multiple of a higher power adds nothing below a lower one
above : (a b i j : ℕ) → i ≤ j → (a + b * 2 ^ j) % 2 ^ i ≡ a % 2 ^ i
above a b i j le =
    let e : 2 ^ j ≡ 2 ^ (j - i) * 2 ^ i = ap (λ n. 2 ^ n) (omega arith) ∙ pow-add 2 (j - i) i in
    ap (λ n. (a + b * n) % 2 ^ i) e ∙ ap (λ n. (a + n) % 2 ^ i) (sym (mul_assoc b (2 ^ (j - i)) (2 ^ i))) ∙ add-mul-mod_self_right a (b * 2 ^ (j - i)) (2 ^ i)

module _ (widths fields : List ℕ) (fit : AreFields widths fields) where
  pub front_of-below : (n : ℕ) → n ≤ length widths → front_of widths fields n < 2 ^ offset_of widths n
  front_of-below zero h = omega arith
  front_of-below (suc n) h =
      let P : ℕ → Type 0 = λ o. front_of widths fields (suc n) < 2 ^ o in
      subst P (sym (offset_of-suc widths n h)) (joined (front_of widths fields n) (get_or fields n 0) (get_or widths n 0) (offset_of widths n) (front_of-below n (omega arith)) (fit.each n h))

  front_of-mod : (m n : ℕ) → m ≤ n → n ≤ length widths → front_of widths fields n % 2 ^ offset_of widths m ≡ front_of widths fields m
  front_of-mod m zero le h = ap (λ k. front_of widths fields 0 % 2 ^ offset_of widths k) {x = m} {y = 0} (omega arith) ∙ ap (front_of widths fields) {x = 0} {y = m} (omega arith)
  front_of-mod m (suc n) le h = elim (eq-zero-or-pos (suc n - m)) [
    | inl e ↦
        let same : suc n ≡ m = omega (arith, e) in
        ap (λ k. front_of widths fields k % 2 ^ offset_of widths m) same ∙ mod-eq_of_lt (front_of-below m (omega (arith, same)))
    | inr l ↦
        let le' : m ≤ n = omega (arith, l) in
        above (front_of widths fields n) (get_or fields n 0) (offset_of widths m) (offset_of widths n) (offset_of-mono widths m n le') ∙ front_of-mod m n le' (omega arith)
  ]

  -- field n of the word of these fields is the n-th of them
  pub field_of-word_of : (n : ℕ) → n < length widths → field_of widths (word_of widths fields) n ≡ get_or fields n 0
  field_of-word_of n h =
      let o = offset_of widths n in
      let w = get_or widths n 0 in
      let x = word_of widths fields in
      let turned : w + o ≡ offset_of widths (suc n) = omega (arith, offset_of-suc widths n h) in
      sym (low_field x w o) ∙ ap (λ k. x % 2 ^ k / 2 ^ o) turned ∙ ap (λ y. y / 2 ^ o) (front_of-mod (suc n) (length widths) h (omega arith))
      ∙ ap (λ y. y / 2 ^ o) (add_comm (front_of widths fields n) (get_or fields n 0 * 2 ^ o)) ∙ div-mul-add (get_or fields n 0) (2 ^ o) (front_of widths fields n) (front_of-below n (omega arith))

  pub IsWord-word_of : IsWord widths (word_of widths fields)
  IsWord-word_of = let P : ℕ → Type 0 = λ o. word_of widths fields < 2 ^ o in subst P (offset_of-all widths (length widths) (omega arith)) (front_of-below (length widths) (omega arith))

-- ---- the word of a word's fields

module _ (widths : List ℕ) (word : ℕ) where
  fields_add_up : (n : ℕ) → n ≤ length widths → sum_below n (λ k. field_of widths word k * 2 ^ offset_of widths k) ≡ word % 2 ^ offset_of widths n
  fields_add_up zero h = omega arith
  fields_add_up (suc n) h =
      let o = offset_of widths n in
      let w = get_or widths n 0 in
      let turned : w + o ≡ offset_of widths (suc n) = omega (arith, offset_of-suc widths n h) in
      ap (λ x. x + field_of widths word n * 2 ^ o) (fields_add_up n (omega arith)) ∙ add_comm (word % 2 ^ o) (field_of widths word n * 2 ^ o) ∙ sym (mod-pow-add word w o) ∙ ap (λ k. word % 2 ^ k) turned

  pub length-fields_of : length (fields_of widths word) ≡ length widths
  length-fields_of = length-map-range_with_len (field_of widths word) 0 (length widths)

  pub get_or-fields_of : (n : ℕ) → n < length widths → get_or (fields_of widths word) n 0 ≡ field_of widths word n
  get_or-fields_of n h = get_or-map-range_with_len (field_of widths word) 0 (length widths) n n 0 h (omega arith)

  -- a field is below 2 to its width
  pub field_of-below : (n : ℕ) → field_of widths word n < 2 ^ get_or widths n 0
  field_of-below n = mod-lt (word / 2 ^ offset_of widths n) (pow_pos (get_or widths n 0))

  pub AreFields-fields_of : AreFields widths (fields_of widths word)
  AreFields-fields_of = record {
    count = length-fields_of;
    each = λ n h. subst (λ (x : ℕ). x < 2 ^ get_or widths n 0) (sym (get_or-fields_of n h)) (field_of-below n);
  }

  -- the word of the fields of a good word is that word
  pub word_of-fields_of : IsWord widths word → word_of widths (fields_of widths word) ≡ word
  word_of-fields_of good =
      let n = length widths in
      sum_below-same n (λ k. get_or (fields_of widths word) k 0 * 2 ^ offset_of widths k) (λ k. field_of widths word k * 2 ^ offset_of widths k) (λ k h. ap (λ x. x * 2 ^ offset_of widths k) (get_or-fields_of k h))
      ∙ fields_add_up n (omega arith) ∙ ap (λ o. word % 2 ^ o) (offset_of-all widths n (omega arith)) ∙ mod-eq_of_lt good

-- the fields of the word of these fields are these
pub fields_of-word_of : (widths fields : List ℕ) → AreFields widths fields → fields_of widths (word_of widths fields) ≡ fields
fields_of-word_of widths fields fit =
    sym (fill_by_all (field_of widths (word_of widths fields)) fields (length widths) 0 fit.count (λ k h. sym (field_of-word_of widths fields fit k h)))
