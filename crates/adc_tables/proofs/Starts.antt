-- Where tables begin.
use Rattle.std.proofs.Common.{◌≡◌, ℕ, suc, ◌+◌, ◌-◌, ◌*◌, ◌^◌, ◌<◌, ◌≤◌, List, length, get_or, sym, ap, ◌∙◌, inl, inr, min, arith, add-one}
use Rattle.std.proofs.lemmas.Bool.{cases_lt}
use Rattle.std.proofs.Math.Nat.{mod-eq_of_lt, mul-le-mul_right}
use Rattle.std.proofs.lemmas.Nat.{mod-mul-add}
use Rattle.book_model.specs.Sums.{sum_below}
use Rattle.book_model.proofs.SumLemmas.{sum_below-same, sum_below-split}
use Rattle.adc_tables.specs.Full.{table_size, table_start}

-- one more number of a sum
pub sum_next : (n : ℕ) (f : ℕ → ℕ) → sum_below (n + 1) f ≡ sum_below n f + f n
sum_next n f = ap (λ k. sum_below k f) (add-one n)

-- the sum up to a number of terms, where those from `count` on are left out
pub capped_next : (n count total next : ℕ) (f : ℕ → ℕ) → (n < count → next ≡ total + f n) → (count ≤ n → next ≡ total) → total ≡ sum_below (min n count) f → next ≡ sum_below (min (n + 1) count) f
capped_next n count total next f there none is = elim (cases_lt n count) [
  | inl lt ↦
      let now : min n count ≡ n = omega arith in
      let then : suc n ≡ min (n + 1) count = omega arith in
      there lt ∙ ap (λ t. t + f n) (is ∙ ap (λ k. sum_below k f) now) ∙ ap (λ k. sum_below k f) then
  | inr ge ↦
      let same : min n count ≡ min (n + 1) count = omega arith in
      none ge ∙ is ∙ ap (λ k. sum_below k f) same
]

module _ (widths : List ℕ) where
  pub start_next : (j : ℕ) → table_start widths (j + 1) ≡ table_start widths j + table_size widths j
  start_next j = sum_next j (table_size widths)

  pub start_le : (i j : ℕ) → i ≤ j → table_start widths i ≤ table_start widths j
  start_le i j le =
      let whole : i + (j - i) ≡ j = omega arith in
      omega (arith, sum_below-split i (j - i) (table_size widths), ap (table_start widths) whole)

  -- a table ends where the next begins, and before each later one
  pub end_le : (i j : ℕ) → i < j → table_start widths i + table_size widths i ≤ table_start widths j
  end_le i j lt = start_le (suc i) j (omega arith)

  -- each word has tables of the same sizes
  pub size_of_field : (w f : ℕ) → f < length widths → table_size widths (w * length widths + f) ≡ 2 ^ get_or widths f 0
  size_of_field w f lt = ap (λ n. 2 ^ get_or widths n 0) (mod-mul-add w (length widths) f lt)

  pub start_of_field : (w f : ℕ) → f ≤ length widths → table_start widths (w * length widths + f) ≡ table_start widths (w * length widths) + table_start widths f
  start_of_field w f le =
      sum_below-split (w * length widths) f (table_size widths)
      ∙ ap (λ n. table_start widths (w * length widths) + n) (sum_below-same f (λ k. table_size widths (w * length widths + k)) (table_size widths)
      (λ k lt. size_of_field w k (omega arith) ∙ ap (λ n. 2 ^ get_or widths n 0) (sym (mod-eq_of_lt (omega arith)))))

  -- the tables of word w end before those of the next begin
  pub word_end : (w g at : ℕ) → w < g → at ≡ table_start widths (w * length widths) → at + table_start widths (length widths) ≤ table_start widths (g * length widths)
  word_end w g at lt is =
      let next : (w + 1) * length widths ≤ g * length widths = mul-le-mul_right (length widths) (omega arith) in
      omega (arith, is, start_of_field w (length widths) (omega arith), start_le (w * length widths + length widths) (g * length widths) (omega (arith, next)))
