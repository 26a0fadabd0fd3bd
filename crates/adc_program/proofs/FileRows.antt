-- Files of rows of numbers: a row more, and the rows behind it.
use Rattle.std.proofs.Common.{◌≡◌, ◌∙◌, ℕ, ◌+◌, ◌-◌, ◌<◌, List, [], ◌∷◌, ◌++◌, map, ap, arith}
use Rattle.std.specs.Prelude.{ℤ}
use Rattle.std.specs.List.{range_with_len}
use Rattle.std.proofs.lemmas.List.{map-append, append-nil}
use Rattle.std.proofs.lemmas.List.Concat.{flat_map-append}
use Rattle.vec_files.specs.Rows.{ivecs_row, ivecs}
use Rattle.book_model.specs.Sums.{numbers_below}
use Rattle.adc_program.proofs.Numbers.{numbers_split, mapped_more}

module _ (k : ℕ) (f : ℕ → List ℤ) (n : ℕ) where
  pub rows_more : ivecs k (map f (numbers_below (n + 1))) ≡ ivecs k (map f (numbers_below n)) ++ ivecs_row k (f n)
  rows_more =
      ap (ivecs k) (mapped_more f n)
      ∙ flat_map-append (ivecs_row k) (map f (numbers_below n)) (f n ∷ [])
      ∙ ap (λ (l : List ℕ). ivecs k (map f (numbers_below n)) ++ l) (append-nil (ivecs_row k (f n)))

  pub rows_behind : ℕ → List ℕ
  rows_behind m = ivecs k (map f (range_with_len (0 + (n + 1)) (m - (n + 1))))

  pub rows_split : (m : ℕ) → n < m → ivecs k (map f (numbers_below m)) ≡ (ivecs k (map f (numbers_below n)) ++ ivecs_row k (f n)) ++ rows_behind m
  unfolding rows_behind
  rows_split m lt =
      let rest : List ℕ = range_with_len (0 + (n + 1)) (m - (n + 1)) in
      ap (λ (l : List ℕ). ivecs k (map f l)) (numbers_split (n + 1) m (omega arith))
      ∙ ap (ivecs k) (map-append f (numbers_below (n + 1)) rest)
      ∙ flat_map-append (ivecs_row k) (map f (numbers_below (n + 1))) (map f rest)
      ∙ ap (λ (l : List ℕ). l ++ ivecs k (map f rest)) rows_more
