-- Which ids are in a list, whatever their order.
use Rattle.std.proofs.Common.{◌≡◌, ℕ, zero, suc, ◌+◌, ◌≤◌, ◌<◌, Bool, true, false, ◌&&◌, ◌||◌, List, [], ◌∷◌, ◌++◌, length, map, take, get_or, Option, ℤ, pos, negsuc, Result, Ok, Err, refl, sym, ap, ◌∙◌, arith, inl, inr}
use Rattle.std.specs.Prelude.{is_ok, nat_le, MatchResult, option_to_list}
use Rattle.std.specs.List.{list_any}
use Rattle.std.specs.List.Sorted.{IsPermutation, IsNonDecreasing, IsBinarySearchResult}
use Rattle.std.specs.Ordering.{nat_cmp}
use Rattle.std.proofs.lemmas.Bool.{cases_lt}
use Rattle.std.proofs.lemmas.List.{append_assoc, take_more}
use Rattle.std.proofs.lemmas.List.Sorted.{list_any-IsPermutation, searched}
use Rattle.std.proofs.lemmas.Grind.{common_steps}
use Rattle.id_filter.specs.Ranges.{pair_of}
use Rattle.id_filter.specs.Allowed.{id_of, ids_in, single_ranges, has_id, range_of}
use Rattle.id_filter.proofs.Whole.{list_any_map}

-- whether the range of an id holds another
abbrev is_in : ℕ → ℕ → Bool
is_in id x = nat_le x id && nat_le id x

among : (ids : List ℕ) (id : ℕ) → has_id ids id ≡ list_any (is_in id) ids
among ids id = list_any_map (λ (range : ℕ × ℕ). nat_le range.0 id && nat_le id range.1) (λ (x : ℕ). (x, x)) ids

-- the order of the ids does not matter
pub has_id-permutation : (xs ys : List ℕ) (id : ℕ) → IsPermutation xs ys → has_id ys id ≡ has_id xs id
has_id-permutation xs ys id moved = among ys id ∙ sym (list_any-IsPermutation (is_in id) xs ys moved) ∙ sym (among xs id)

itself : (id x : ℕ) → x ≡ id → is_in id x ≡ true
itself id x e = grind (arith, common_steps)

another : (id x : ℕ) → (x ≡ id → ⊥) → is_in id x ≡ false
another id x n = grind (arith, common_steps)

at_place : (id : ℕ) (xs : List ℕ) (i : ℕ) → i < length xs → get_or xs i 0 ≡ id → list_any (is_in id) xs ≡ true
at_place id [] i lt e = absurd (omega arith)
at_place id (x ∷ xs) zero lt e = ap (λ b. b || list_any (is_in id) xs) (itself id x e)
at_place id (x ∷ xs) (suc i) lt e = or_true (is_in id x) (list_any (is_in id) xs) (at_place id xs i (omega arith) e)
  where
    or_true : (a b : Bool) → b ≡ true → a || b ≡ true
    or_true true b h = refl
    or_true false b h = h

nowhere : (id : ℕ) (xs : List ℕ) → ((i : ℕ) → i < length xs → get_or xs i 0 ≡ id → ⊥) → list_any (is_in id) xs ≡ false
nowhere id [] none = refl
nowhere id (x ∷ xs) none = ap (λ b. b || list_any (is_in id) xs) (another id x (none 0 (omega arith))) ∙ nowhere id xs (λ i lt. none (suc i) (omega arith))

-- what a search by halving answers
pub found_is : (xs : List ℕ) (id : ℕ) (r : Result ℕ ℕ) → IsBinarySearchResult (λ y. nat_cmp y id) xs r → IsNonDecreasing xs → is_ok r ≡ has_id xs id
found_is xs id r search rises = by_cases r (searched xs id r search (λ i j le lt. rises i j 0 le lt)) ∙ sym (among xs id)
  where
    by_cases : (r : Result ℕ ℕ) → MatchResult r (λ i. (i < length xs) × (get_or xs i 0 ≡ id)) (λ i. (i ≤ length xs) × ((k : ℕ) → k < i → get_or xs k 0 < id) × ((k : ℕ) → i ≤ k → k < length xs → id < get_or xs k 0)) → is_ok r ≡ list_any (is_in id) xs
    by_cases (Ok i) there = sym (at_place id xs i there.0 there.1)
    by_cases (Err i) gone = sym (nowhere id xs (λ k lt e. elim (cases_lt k i) [
      | inl low ↦ omega (arith, gone.1 k low, e)
      | inr high ↦ omega (arith, gone.2 k high lt, e)
    ]))

-- the ranges of ids by their ends
pub pairs-ranges : (ids : List ℕ) → map pair_of (map range_of ids) ≡ single_ranges ids
pairs-ranges [] = refl
pairs-ranges (id ∷ ids) = ap (λ (rest : List (ℕ × ℕ)). (id, id) ∷ rest) (pairs-ranges ids)

-- one number more
pub ids_in-push : (numbers : List ℤ) (number : ℤ) (id : Option ℕ) → id ≡ id_of number → ids_in (numbers ++ number ∷ []) ≡ ids_in numbers ++ option_to_list id
ids_in-push [] (pos n) id e = ap option_to_list (sym e)
ids_in-push [] (negsuc n) id e = ap option_to_list (sym e)
ids_in-push (pos n ∷ numbers) number id e = ap (λ (rest : List ℕ). n ∷ rest) (ids_in-push numbers number id e)
ids_in-push (negsuc n ∷ numbers) number id e = ids_in-push numbers number id e

-- the ids of one number more
pub one_more_id : (numbers : List ℤ) (i : ℕ) (id : Option ℕ) (all before after : List ℕ) → i < length numbers → id ≡ id_of (get_or numbers i (pos 0)) → before ≡ all ++ ids_in (take i numbers)
    → after ≡ before ++ option_to_list id → after ≡ all ++ ids_in (take (i + 1) numbers)
one_more_id numbers i id all before after lt is so_far next =
    next ∙ ap (λ (ids : List ℕ). ids ++ option_to_list id) so_far ∙ append_assoc all (ids_in (take i numbers)) (option_to_list id)
    ∙ ap (λ (ids : List ℕ). all ++ ids) (sym (ids_in-push (take i numbers) (get_or numbers i (pos 0)) id is) ∙ ap ids_in (sym (take_more numbers i (pos 0) lt)))
