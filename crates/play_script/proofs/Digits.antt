-- Decimal numbers as words of a script.
use Rattle.std.proofs.Common.{◌≡◌, ℕ, ◌+◌, ◌-◌, ◌*◌, ◌^◌, ◌<◌, ◌≤◌, inl, inr, ⊎_elim, zero, suc, Option, ◌&&◌, not, true, false, eqb, nat_lt, nat_le, List, length, get_or, Some, None, decimal, fold, lit<, sym, ap, ◌∙◌, subst, arith, rules}
use Rattle.std.specs.Char.{is_ascii_digit}
use Rattle.std.specs.List.{All, list_all}
use Rattle.std.proofs.Math.Nat.{pow-le-pow_right}
use Rattle.std.proofs.lemmas.Fmt.{digits_decimal, digits_value-decimal, decimal-digits_value, length-decimal-le, decimal_nonempty, decimal_digit, first_decimal}
use Rattle.std.proofs.lemmas.List.{get_or_default}
use Rattle.std.proofs.lemmas.Option.{cond_some}
use Rattle.std.proofs.lemmas.Str.Parse.{IsNumeralModel, numerals_by_fold, digits_value_short, not_in_digits}
use Rattle.std.proofs.lemmas.Bool.{and_parts, and_cases, and_left, and_right, and_from, not-true, not_from_false, ltb-false, le-ltb, leb-true, le-leb, eqb-false, ne_eqb, cases_eq, cond-true}
use Rattle.play_script.specs.Grammar.{is_number, number_of, value_of}

-- fewer than 18 digits are a number below 10 ^ 17
pub has_room : (n i : ℕ) → n < 10 ^ i → i < 18 → n < 10 ^ 17
has_room n i small lt =
    let few : i ≤ 17 = omega arith in
    let bound : 10 ^ i ≤ 10 ^ 17 = pow-le-pow_right (lit< tt) few in omega arith

abbrev AreDigits : List ℕ → Type 0
AreDigits word = list_all is_ascii_digit word ≡ true

numeral : IsNumeralModel AreDigits value_of
numeral = numerals_by_fold AreDigits (search rules) (λ n word. fold (λ m digit. m * 10 + (digit - 48)) n word) (search rules)

-- what the test of a number says
record IsSpelled (word : List ℕ) : Type 0 where
  some : 1 ≤ length word
  few : length word ≤ 18
  first : get_or word 0 0 ≡ 48 → length word ≡ 1
  digits : AreDigits word

no_zero_in_front : (word : List ℕ) → 1 ≤ length word → (nat_lt 1 (length word) && eqb (get_or word 0 0) 48) ≡ false → get_or word 0 0 ≡ 48 → length word ≡ 1
no_zero_in_front word some front is_zero =
    ⊎_elim (λ short. let one : length word ≤ 1 = ltb-false 1 (length word) short in omega arith) (λ other. absurd (eqb-false _ _ other is_zero)) (and_cases (nat_lt 1 (length word)) (eqb (get_or word 0 0) 48) front)

is_spelled : (word : List ℕ) → is_number word ≡ true → IsSpelled word
is_spelled word h =
    let all = and_parts (nat_le 1 (length word) && nat_le (length word) 18 && not (nat_lt 1 (length word) && eqb (get_or word 0 0) 48)) (list_all is_ascii_digit word) h in
    let front = and_parts (nat_le 1 (length word) && nat_le (length word) 18) (not (nat_lt 1 (length word) && eqb (get_or word 0 0) 48)) all.0 in
    let lengths = and_parts (nat_le 1 (length word)) (nat_le (length word) 18) front.0 in
    let one : 1 ≤ length word = leb-true _ _ lengths.0 in
    record { some = one; few = leb-true _ _ lengths.1; first = no_zero_in_front word one (not-true _ front.1); digits = all.1 }

tests : (word : List ℕ) → IsSpelled word → is_number word ≡ true
tests word spelled =
    let front : (nat_lt 1 (length word) && eqb (get_or word 0 0) 48) ≡ false = elim (cases_eq (get_or word 0 0) 48) [
      | inl is_zero ↦ and_left _ _ (le-ltb 1 (length word) (omega (arith, spelled.first is_zero)))
      | inr other ↦ and_right _ _ (ne_eqb _ _ other)
    ] in
    and_from _ _ (and_from _ _ (and_from _ _ (le-leb _ _ spelled.some) (le-leb _ _ spelled.few)) (not_from_false _ front)) spelled.digits

-- a word that is a number is spelled as that number is
pub number_spelled : (word : List ℕ) (n : ℕ) → number_of word ≡ Some n → (n < 10 ^ 18) × (word ≡ decimal n)
number_spelled word n h =
    let both = cond_some (is_number word) (value_of word) n h in
    let spelled = is_spelled word both.0 in
    let small : value_of word < 10 ^ 18 = digits_value_short numeral word 18 spelled.digits spelled.few in
    let text : decimal (value_of word) ≡ word = decimal-digits_value numeral word spelled.digits (omega (arith, spelled.some)) spelled.first (omega arith) in (subst (λ (m : ℕ). m < 10 ^ 18) both.1 small, sym text ∙ ap decimal both.1)

-- zero is one digit, and another number does not begin with it
zero_alone : (n : ℕ) → n < 10 ^ 18 → get_or (decimal n) 0 0 ≡ 48 → length (decimal n) ≡ 1
zero_alone zero fits h = ap length (decimal_digit 0 (lit< tt))
zero_alone (suc n) fits h =
    let above : 48 < get_or (decimal (suc n)) 0 0 = first_decimal (suc n) (omega arith) (omega arith) in absurd (omega arith)

-- and each number below 10 ^ 18 is spelled by its word
pub number_again : (n : ℕ) → n < 10 ^ 18 → number_of (decimal n) ≡ Some n
number_again n fits =
    let small : n < 2 ^ 64 = omega arith in
    let spelled : IsSpelled (decimal n) = record {
      some = decimal_nonempty n small;
      few = length-decimal-le 18 n (lit< tt) fits small;
      first = zero_alone n fits;
      digits = digits_decimal numeral n small;
    } in
    cond-true (is_number (decimal n)) (Some (value_of (decimal n))) None (tests (decimal n) spelled) ∙ ap {B = Option ℕ} Some (digits_value-decimal numeral n small)

-- which has no space
pub no_space : (n : ℕ) → n < 10 ^ 18 → All (λ b. eqb b 32 ≡ false) (decimal n)
no_space n fits = λ k d lt.
    let small : n < 2 ^ 64 = omega arith in
    ne_eqb (get_or (decimal n) k d) 32 (subst (λ (b : ℕ). b ≡ 32 → ⊥) (get_or_default (decimal n) k 0 d lt) (not_in_digits numeral (decimal n) 32 (digits_decimal numeral n small) (λ within. absurd (omega (arith, within))) k lt))
