-- The words that columns keep.
use Rattle.std.proofs.Common.{◌≡◌, ℕ, ◌+◌, ◌*◌, ◌<◌, ◌≤◌, List, [], length, map, get_or, take, drop, sym, ap, ◌∙◌, arith}
use Rattle.std.proofs.lemmas.List.{ext_get_or, get_or-map, length-map}
use Rattle.std.proofs.lemmas.List.FromFn.{get_or-map-range_with_len, length-map-range_with_len}
use Rattle.std.proofs.lemmas.Grind.{same_number_lists}
use Rattle.std.proofs.lemmas.Nat.{mul-le}
use Rattle.std.proofs.lemmas.Simd.{get_or-chunk, length-chunk}
use Rattle.std.proofs.Math.Nat.{suc-mul}
use Rattle.book_model.specs.Sums.{numbers_below, first_least}
use Rattle.book_model.specs.Distance.{dist, distances, squared_gap}
use Rattle.book_model.proofs.Nearest.{first_least_is}
use Rattle.book_model.proofs.SumLemmas.{sum_below-same}
use Rattle.word_columns.specs.Columns.{component_of, column_distance, words_kept, words_in_row}
use Rattle.word_columns.specs.Left.{rest_gap, rest_dist, column_rest}

module _ (count n : ℕ) (cs : List ℕ) where
  -- the components of word w
  abbrev word : ℕ → List ℕ
  word w = map (component_of cs n w) (numbers_below n)

  pub length-words_kept : length (words_kept count n cs) ≡ count
  unfolding words_kept
  length-words_kept = length-map-range_with_len word 0 count

  word_at : (w : ℕ) → w < count → get_or (words_kept count n cs) w [] ≡ word w
  unfolding words_kept
  word_at w h = get_or-map-range_with_len word 0 count w w [] h (omega arith)

  pub size_at : (w : ℕ) → w < count → length (get_or (words_kept count n cs) w []) ≡ n
  size_at w h = ap length (word_at w h) ∙ length-map-range_with_len (component_of cs n w) 0 n

  -- the length of the words that are kept
  pub size_is : (words : List (List ℕ)) (m : ℕ) → words_kept count n cs ≡ words → 1 ≤ count → ((w : ℕ) → w < length words → length (get_or words w []) ≡ m) → n ≡ m
  size_is words m e some all =
      sym (size_at 0 (omega arith)) ∙ ap (λ (ws : List (List ℕ)). length (get_or ws 0 [])) e ∙ all 0 (omega (arith, some, ap length e, length-words_kept))

  to_word : (scale : ℕ) (x : List ℕ) (w : ℕ) → w < count → n ≡ length x → column_distance scale cs x w ≡ dist scale x (get_or (words_kept count n cs) w [])
  unfolding dist
  to_word scale x w h e =
      sum_below-same (length x) _ _ (λ i l.
      ap (λ m. squared_gap scale (get_or x i 0) (component_of cs m w i)) (sym e)
      ∙ ap (squared_gap scale (get_or x i 0)) (sym (get_or-map-range_with_len (component_of cs n w) 0 n i i 0 (omega (arith, l, e)) (omega arith))
      ∙ ap (λ (c : List ℕ). get_or c i 0) (sym (word_at w h))))

  -- distances by column are those of the words
  pub distances_are : (scale : ℕ) (x found : List ℕ) → n ≡ length x → length found ≡ count → ((w : ℕ) → w < count → get_or found w 0 ≡ column_distance scale cs x w) → found ≡ distances scale (words_kept count n cs) x
  distances_are scale x found e long each =
      let words = words_kept count n cs in
      same_number_lists found (distances scale words x) (long ∙ sym length-words_kept ∙ sym (length-map words (dist scale x))) (λ i l.
      let h : i < count = omega (arith, l, long) in
      each i h ∙ to_word scale x i h e ∙ sym (get_or-map (dist scale x) words i [] 0 (omega (arith, h, length-words_kept))))

  to_rest : (f : ℕ) (x c : List ℕ) (w : ℕ) → w < count → n ≡ length x → column_rest f cs x c w ≡ rest_dist f x c (get_or (words_kept count n cs) w [])
  unfolding rest_dist
  to_rest f x c w h e =
      sum_below-same (length x) _ _ (λ i l.
      ap (λ m. rest_gap f (get_or x i 0) (get_or c i 0) (component_of cs m w i)) (sym e)
      ∙ ap (rest_gap f (get_or x i 0) (get_or c i 0)) (sym (get_or-map-range_with_len (component_of cs n w) 0 n i i 0 (omega (arith, l, e)) (omega arith))
      ∙ ap (λ (c : List ℕ). get_or c i 0) (sym (word_at w h))))

  -- the same of what is left
  pub rests_are : (f : ℕ) (x c found : List ℕ) → n ≡ length x → length found ≡ count → ((w : ℕ) → w < count → get_or found w 0 ≡ column_rest f cs x c w) → found ≡ map (rest_dist f x c) (words_kept count n cs)
  rests_are f x c found e long each =
      let words = words_kept count n cs in
      same_number_lists found (map (rest_dist f x c) words) (long ∙ sym length-words_kept ∙ sym (length-map words (rest_dist f x c))) (λ i l.
      let h : i < count = omega (arith, l, long) in
      each i h ∙ to_rest f x c i h e ∙ sym (get_or-map (rest_dist f x c) words i [] 0 (omega (arith, h, length-words_kept))))

  -- columns that were made of words in a row keep these words
  pub words_are : (row : List ℕ) → length row ≡ count * n → ((w : ℕ) → w < count → (i : ℕ) → i < n → component_of cs n w i ≡ get_or row (w * n + i) 0) → words_kept count n cs ≡ words_in_row count n row
  unfolding words_kept words_in_row
  words_are row long each =
      let cut : ℕ → List ℕ = λ w. take n (drop (w * n) row) in
      ext_get_or [] (map word (numbers_below count)) (map cut (numbers_below count)) (length-map-range_with_len word 0 count ∙ sym (length-map-range_with_len cut 0 count)) (λ w l.
      let h : w < count = omega (arith, l, length-map-range_with_len word 0 count) in
      let room : w * n + n ≤ length row = omega (arith, long, suc-mul w n, mul-le (w + 1) n count n (omega arith) (omega arith)) in
      get_or-map-range_with_len word 0 count w w [] h (omega arith)
      ∙ same_number_lists (word w) (cut w) (length-map-range_with_len (component_of cs n w) 0 n ∙ sym (length-chunk (w * n) n row room)) (λ i g.
      let s : i < n = omega (arith, g, length-map-range_with_len (component_of cs n w) 0 n) in
      get_or-map-range_with_len (component_of cs n w) 0 n i i 0 s (omega arith) ∙ each w h i s ∙ sym (get_or-chunk (w * n) n row i 0 s))
      ∙ sym (get_or-map-range_with_len cut 0 count w w [] h (omega arith)))

-- the place of the least distance is that of a word
pub least_in : (f : List ℕ → ℕ) (words : List (List ℕ)) → 1 ≤ length words → first_least (map f words) < length words
least_in f words some =
    let count = length-map words f in
    omega (arith, (first_least_is (map f words) (omega (arith, count))).within, count)

pub least_within : (scale : ℕ) (words : List (List ℕ)) (x : List ℕ) → 1 ≤ length words → first_least (distances scale words x) < length words
least_within scale words x some = least_in (dist scale x) words some
