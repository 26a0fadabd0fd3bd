use Rattle.std.proofs.Common.{◌≡◌, ℕ, ◌+◌, ◌*◌, ◌<◌, ◌≤◌, get_or, bit_xor}
use Rattle.std.specs.Int.{abs_diff}
use Rattle.book_model.specs.Sums.{sum_below}
use Rattle.word_columns.specs.Columns.{squared}
use Rattle.word_columns.specs.Left.{lifted, high_of, low_of}
use Rattle.word_columns.proofs.rests.split.Given as goal

abbrev pub invariant-loop-i : goal.invariant-loop-i
invariant-loop-i l = let t : ℕ → ℕ = λ i. lifted l.scale (get_or l.x i 0) (get_or l.coarse i 0) in record {
  high : (k : ℕ) → k < l.i → bit_xor (get_or l.high k 0) 32768 ≡ high_of (t k) + 32640;
  low : (k : ℕ) → k < l.i → bit_xor (get_or l.low k 0) 32768 ≡ low_of (t k) + 32640;
  squares : l.squares ≡ sum_below l.i (λ i. squared (abs_diff (t i) 32768));
  highs : l.highs ≡ sum_below l.i (λ i. high_of (t i));
  lows : l.lows ≡ sum_below l.i (λ i. low_of (t i));
  few : l.squares ≤ l.i * 9613410304;
  few_highs : l.highs ≤ l.i * 511;
  few_lows : l.lows ≤ l.i * 383;
}
