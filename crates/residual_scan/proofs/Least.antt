-- The best of words that stand one after another is the nearest of their list.
use Rattle.std.proofs.Common.{◌≡◌, ℕ, ◌<◌, List, [], length, map, slice_index, sym, ap, ◌∙◌, arith}
use Rattle.std.proofs.lemmas.List.{get_or-map, length-map}
use Rattle.book_model.specs.Sums.{first_least}
use Rattle.book_model.proofs.Nearest.{first_least_unique}
use Rattle.codebook_core.specs.Rows.{AreRows}
use Rattle.residual_scan.proofs.Best.{IsBest}
use Rattle.word_columns.specs.Left.{rest_dist}
use Rattle.half_tables.specs.Residual.{residual_word}

pub nearest_is_best : (f : ℕ) (list : List (List ℕ)) (words x c : List ℕ) (i : ℕ) → AreRows (length x) words list → IsBest (residual_word f words x c) (length list) i → i ≡ first_least (map (rest_dist f x c) list)
nearest_is_best f list words x c i rows best =
    let ds : List ℕ = map (rest_dist f x c) list in
    let count : length ds ≡ length list = length-map list (rest_dist f x c) in
    let at : (k : ℕ) → k < length list → slice_index ds k ≡ residual_word f words x c k = λ k lt. get_or-map (rest_dist f x c) list k [] 0 lt ∙ sym (ap (rest_dist f x c) (rows k lt)) in
    sym (first_least_unique ds i (record {
      within = omega (arith, best.within);
      least = λ k lt. omega (arith, at i best.within, at k (omega arith), best.least k (omega arith));
      before = λ k lt. omega (arith, at i best.within, at k (omega (arith, best.within)), best.before k lt);
    }))
