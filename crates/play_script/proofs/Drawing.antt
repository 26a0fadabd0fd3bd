-- The stream of a sample, and its stretches.
use Rattle.std.proofs.Common.{◌≡◌, ℕ, zero, suc, ◌+◌, ◌-◌, ◌*◌, ◌/◌, ◌%◌, ◌<◌, ◌≤◌, List, [], ◌∷◌, ◌++◌, length, take, drop, refl, sym, ap, ◌∙◌, length-append, arith}
use Rattle.std.specs.List.{AllByRecursion}
use Rattle.std.proofs.Math.Seq.{drop-append-add, take-append-add}
use Rattle.std.proofs.lemmas.List.{drop-take, length-take-le}
use Rattle.play_script.specs.Stream.{stream, next_number, sample_head, sample_book, sample_row, Drawn, IsDrawn}

pub length-stream : (n x : ℕ) → length (stream n x) ≡ n
unfolding stream
length-stream zero x = refl
length-stream (suc n) x = ap suc (length-stream n (next_number x))

-- the numbers have 31 bits, of which a byte takes the highest 8
pub stream_bytes : (n x : ℕ) → AllByRecursion (λ b. b < 256) (stream n x)
unfolding stream
stream_bytes zero x = tt
stream_bytes (suc n) x = (high_byte (1103515245 * x + 12345), stream_bytes n (next_number x))
  where
    high_byte : (y : ℕ) → (y % 2147483648) / 8388608 < 256
    high_byte y = omega arith

stream_front : (m n x : ℕ) → m ≤ n → take m (stream n x) ≡ stream m x
unfolding stream
stream_front zero n x le = refl
stream_front (suc m) zero x le = absurd (omega arith)
stream_front (suc m) (suc n) x le = ap (λ (bytes : List ℕ). next_number x / 8388608 ∷ bytes) (stream_front m n (next_number x) (omega arith))

-- one byte, and what is left of a count
pub stream_step : (n i x : ℕ) → i < n → stream (n - i) x ≡ next_number x / 8388608 ∷ stream (n - (i + 1)) (next_number x)
unfolding stream
stream_step n i x lt =
    let one : n - i ≡ suc (n - (i + 1)) = omega arith in rw one refl

pub stream_none : (n i x : ℕ) → n ≤ i → stream (n - i) x ≡ []
unfolding stream
stream_none n i x le =
    let none : n - i ≡ 0 = omega arith in rw none refl

length_head : length sample_head ≡ 66
unfolding sample_head
length_head = refl

at_head : (f : ℕ → List ℕ) → f 66 ≡ f (length sample_head)
at_head f = ap f (sym length_head)

module _ (sample : Drawn) (bytes : List ℕ) (is : IsDrawn sample bytes) where
  pub length_drawn : length bytes ≡ 38962 + 128 * (sample.rows + 16)
  length_drawn = omega (arith, length_head, ap length is.bytes, length-append sample_head (stream (38896 + 128 * (sample.rows + 16)) sample.start), length-stream (38896 + 128 * (sample.rows + 16)) sample.start)

  pub length_book_part : length (take 38962 bytes) ≡ 38962
  length_book_part =
      let long : 38962 ≤ length bytes = omega (arith, length_drawn) in length-take-le 38962 bytes long

  pub book_part : take 38962 bytes ≡ sample_book sample
  book_part =
      let words : take 38896 (stream (38896 + 128 * (sample.rows + 16)) sample.start) ≡ stream 38896 sample.start = stream_front 38896 (38896 + 128 * (sample.rows + 16)) sample.start (omega arith) in
      ap (take 38962) is.bytes ∙ at_head (λ (k : ℕ). take (k + 38896) (sample_head ++ stream (38896 + 128 * (sample.rows + 16)) sample.start)) ∙ take-append-add sample_head (stream (38896 + 128 * (sample.rows + 16)) sample.start) 38896 ∙ ap (λ (ws : List ℕ). sample_head ++ ws) words

  pub vector_part : (n : ℕ) → n < sample.rows + 16 → take 128 (drop (38962 + 128 * n) bytes) ≡ sample_row sample n
  vector_part n lt =
      let at : 38962 + 128 * n ≡ 66 + (38896 + 128 * n) = omega arith in
      let front : take (38896 + 128 * n + 128) (stream (38896 + 128 * (sample.rows + 16)) sample.start) ≡ stream (38896 + 128 * n + 128) sample.start = stream_front (38896 + 128 * n + 128) (38896 + 128 * (sample.rows + 16)) sample.start (omega arith) in
      let behind : drop (38962 + 128 * n) bytes ≡ drop (38896 + 128 * n) (stream (38896 + 128 * (sample.rows + 16)) sample.start) = ap (drop (38962 + 128 * n)) is.bytes ∙ ap (λ (k : ℕ). drop k (sample_head ++ stream (38896 + 128 * (sample.rows + 16)) sample.start)) at ∙ at_head (λ (k : ℕ). drop (k + (38896 + 128 * n)) (sample_head ++ stream (38896 + 128 * (sample.rows + 16)) sample.start)) ∙ drop-append-add sample_head (stream (38896 + 128 * (sample.rows + 16)) sample.start) (38896 + 128 * n) in
      ap (take 128) behind ∙ sym (drop-take (38896 + 128 * n) 128 (stream (38896 + 128 * (sample.rows + 16)) sample.start)) ∙ ap (drop (38896 + 128 * n)) front
