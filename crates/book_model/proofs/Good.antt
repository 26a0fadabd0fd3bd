-- What a good book gives: the sizes of its words and stretches, and a bound on distances.
use Rattle.std.proofs.Common.{◌≡◌, ℕ, zero, suc, ◌+◌, ◌*◌, ◌-◌, ◌/◌, ◌%◌, ◌^◌, ◌<◌, ◌≤◌, List, [], ◌∷◌, inl, inr, length, take, sum, get_or, arith, length-drop}
use Rattle.std.proofs.lemmas.Nat.{div_below, mul-le}
use Rattle.std.proofs.lemmas.List.Sums.{sum_by-cons}
use Rattle.std.specs.Prelude.{slice_index}
use Rattle.std.proofs.lemmas.List.{length-take}
use Rattle.book_model.specs.Distance.{dist, squared_gap}
use Rattle.book_model.specs.Book.{Book, IsGood, AreWords, sub_count, sub_words, width_of, length_of, start_of, part, component_limit}
use Rattle.book_model.proofs.Gaps.{squared_le, scaled_le}
pub use Rattle.book_model.proofs.AllLemmas.{all_at}
use Rattle.book_model.proofs.SumLemmas.{sum_below-bounded}

pub word_size : (limit n size : ℕ) (words : List (List ℕ)) (i : ℕ) → AreWords limit n size words → i < n → length (get_or words i []) ≡ size
word_size limit n size words i are lt = all_at (λ word. length word ≡ size) words i [] are.sizes (omega (arith, are.count))

sum-cons : (x : ℕ) (xs : List ℕ) → sum (x ∷ xs) ≡ x + sum xs
sum-cons x xs = sum_by-cons (λ n. n) x xs

-- the sum of the first ones and the next is at most that of all
sum_more : (xs : List ℕ) (j : ℕ) → sum (take j xs) + get_or xs j 0 ≤ sum xs
sum_more [] zero = omega arith
sum_more [] (suc j) = omega arith
sum_more (x ∷ xs) zero = omega (arith, sum-cons x xs)
sum_more (x ∷ xs) (suc j) = omega (arith, sum-cons x xs, sum-cons x (take j xs), sum_more xs j)

module _ (book : Book) (good : IsGood book) where
  pub coarse0_size : (i : ℕ) → i < book.k0 → length (get_or book.coarse0 i []) ≡ book.h
  coarse0_size i lt = word_size (component_limit book.version) book.k0 book.h book.coarse0 i good.coarse0 lt

  pub coarse1_size : (i : ℕ) → i < book.k1 → length (get_or book.coarse1 i []) ≡ book.d - book.h
  coarse1_size i lt = word_size (component_limit book.version) book.k1 (book.d - book.h) book.coarse1 i good.coarse1 lt

  pub sub_size : (j w : ℕ) → j < sub_count book → w < 2 ^ width_of book j → length (get_or (sub_words book j) w []) ≡ length_of book j
  sub_size j w lt small = word_size (component_limit book.version) (2 ^ width_of book j) (length_of book j) (sub_words book j) w (good.sub_each j lt) small

  -- a stretch ends within a vector
  pub part_within : (j : ℕ) → start_of book j + length_of book j ≤ book.d
  part_within j = omega (arith, sum_more book.lengths j, good.length_sum)

  pub part_size : (j : ℕ) (v : List ℕ) → length v ≡ book.d → length (part book j v) ≡ length_of book j
  part_size j v size = simp (length-take, length-drop) (omega (arith, part_within j, size))

-- squares of differences below 2 ^ 16 add up to at most this
pub dist_le : (f : ℕ) (x c : List ℕ) → f ≤ 8 → ((i : ℕ) → slice_index x i < 256) → ((i : ℕ) → slice_index c i < 65536) → dist f x c ≤ length x * 4294836225
unfolding dist
dist_le f x c small bytes words = sum_below-bounded (length x) (λ i. squared_gap f (slice_index x i) (slice_index c i)) 4294836225
    (λ i lt. squared_le (slice_index x i * 2 ^ f) (slice_index c i) 65535 (omega (arith, scaled_le (slice_index x i) f (bytes i) small)) (omega (arith, words i)))

pub scale_le : (book : Book) → IsGood book → book.scale ≤ 8
scale_le book good = elim good.version [ inl old ↦ omega (arith, old.1) | inr new ↦ new.1 ]

-- a cell's number is that of two coarse words
pub first_word : (cell k0 k1 : ℕ) → cell < k0 * k1 → cell / k1 < k0
first_word cell k0 zero lt = absurd (omega arith)
first_word cell k0 (suc k1) lt = div_below cell (suc k1) k0 (omega arith) lt

pub second_word : (cell k0 k1 : ℕ) → cell < k0 * k1 → cell % k1 < k1
second_word cell k0 zero lt = absurd (omega arith)
second_word cell k0 (suc k1) lt = omega arith

pub cells_le : (book : Book) → IsGood book → book.k0 * book.k1 ≤ 1048576
cells_le book good = omega (arith, mul-le book.k0 book.k1 1024 1024 good.k0.1 good.k1.1)
