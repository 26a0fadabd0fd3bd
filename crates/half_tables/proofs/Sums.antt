-- Sums over the tables of two halves are the sums over each.
use Rattle.std.proofs.Common.{◌≡◌, ℕ, ◌+◌, ◌-◌, ◌*◌, ◌%◌, ◌/◌, ◌<◌, List, [], ◌++◌, length, get_or, min, sym, ap, ap₂, ◌∙◌, arith}
use Rattle.std.proofs.Math.Nat.{mod-lt}
use Rattle.std.proofs.lemmas.Nat.{div_below, div-add-mod'}
use Rattle.std.proofs.lemmas.List.{get_or_append_left, get_or-append-add, length-append}
use Rattle.book_model.specs.Sums.{sum_below, least}
use Rattle.book_model.specs.Bound.{Tables, table_at, base_sum, picked_sum, small, step_of, bound}
use Rattle.shape_core.specs.Word.{field_of, code_of_words}
use Rattle.shape_core.proofs.Codes.{get_or-code_of_words}
use Rattle.book_model.proofs.SumLemmas.{sum_below-same, sum_below-split}
use Rattle.half_tables.specs.Half.{table_from, tables_from, picked_from, small_from}
use Rattle.half_tables.proofs.Places.{length-tables_from, table_at-tables_from}

-- a sum over tables, each with its number
pub sum_append : (f : List ℕ → ℕ → ℕ) (xs ys : Tables)
    → sum_below (length (xs ++ ys)) (λ j. f (table_at (xs ++ ys) j) j) ≡ sum_below (length xs) (λ j. f (table_at xs j) (0 + j)) + sum_below (length ys) (λ j. f (table_at ys j) (length xs + j))
sum_append f xs ys =
    ap (λ n. sum_below n (λ j. f (table_at (xs ++ ys) j) j)) (length-append xs ys) ∙ sum_below-split (length xs) (length ys) (λ j. f (table_at (xs ++ ys) j) j)
    ∙ ap₂ (λ (a b : ℕ). a + b)
    (sum_below-same (length xs) (λ j. f (table_at (xs ++ ys) j) j) (λ j. f (table_at xs j) (0 + j)) (λ j lt. let same : j ≡ 0 + j = omega arith in ap₂ f (get_or_append_left xs ys [] j lt) same))
    (sum_below-same (length ys) (λ j. f (table_at (xs ++ ys) (length xs + j)) (length xs + j)) (λ j. f (table_at ys j) (length xs + j)) (λ j lt. ap (λ t. f t (length xs + j)) (get_or-append-add xs ys j [])))

pub base_sum-append : (xs ys : Tables) → base_sum (xs ++ ys) ≡ base_sum xs + base_sum ys
unfolding base_sum
base_sum-append xs ys = sum_append (λ t j. least t) xs ys

pub picked_sum-append : (xs ys : Tables) (code : List ℕ) → picked_sum (xs ++ ys) code ≡ picked_from xs 0 code + picked_from ys (length xs) code
unfolding picked_sum
picked_sum-append xs ys code = sum_append (λ t j. get_or t (get_or code j 0) 0) xs ys

pub bound-append : (xs ys : Tables) (theta : ℕ) (code : List ℕ)
    → bound (xs ++ ys) theta code ≡ min 255 (small_from (step_of (xs ++ ys) theta) xs 0 code + small_from (step_of (xs ++ ys) theta) ys (length xs) code)
unfolding bound
bound-append xs ys theta code = ap (λ n. min 255 n) (sum_append (λ t j. small (step_of (xs ++ ys) theta) t (get_or code j 0)) xs ys)

module _ (widths : List ℕ) (first : ℕ) where
  pub base_sum-tables_from : (count : ℕ) (entries : List ℕ) → sum_below count (λ i. least (table_from widths first entries i)) ≡ base_sum (tables_from widths first count entries)
  unfolding base_sum
  base_sum-tables_from count entries =
      sum_below-same count (λ i. least (table_from widths first entries i)) (λ i. least (table_at (tables_from widths first count entries) i)) (λ i lt. ap least (sym (table_at-tables_from widths first count entries i lt)))
      ∙ ap (λ n. sum_below n (λ i. least (table_at (tables_from widths first count entries) i))) (sym (length-tables_from widths first count entries))

  pub picked-tables_from : (count : ℕ) (entries code : List ℕ)
      → sum_below count (λ i. get_or (table_from widths first entries i) (get_or code (first + i) 0) 0) ≡ picked_from (tables_from widths first count entries) first code
  picked-tables_from count entries code =
      sum_below-same count (λ i. get_or (table_from widths first entries i) (get_or code (first + i) 0) 0) (λ i. get_or (table_at (tables_from widths first count entries) i) (get_or code (first + i) 0) 0)
      (λ i lt. ap (λ t. get_or t (get_or code (first + i) 0) 0) (sym (table_at-tables_from widths first count entries i lt)))
      ∙ ap (λ n. sum_below n (λ i. get_or (table_at (tables_from widths first count entries) i) (get_or code (first + i) 0) 0)) (sym (length-tables_from widths first count entries))

-- what stands at a place of a code
pub place_is : (widths words : List ℕ) (j : ℕ) → 0 < length widths → j < length words * length widths
    → get_or (code_of_words widths words) j 0 ≡ field_of widths (get_or words (j / length widths) 0) (j % length widths)
place_is widths words j some lt =
    ap (λ n. get_or (code_of_words widths words) n 0) (sym (div-add-mod' j (length widths)))
    ∙ get_or-code_of_words widths words (j / length widths) (j % length widths) (div_below j (length widths) (length words) some lt) (mod-lt j some)

pub step-append : (xs ys : Tables) (theta : ℕ) → step_of (xs ++ ys) theta ≡ (theta - (base_sum xs + base_sum ys)) / 255 + 1
unfolding step_of
step-append xs ys theta = ap (λ b. (theta - b) / 255 + 1) (base_sum-append xs ys)
