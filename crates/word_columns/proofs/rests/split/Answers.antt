use Rattle.std.proofs.Common.{◌≡◌, ◌≢◌, ℕ, ◌+◌, get_or, length, refl, ap, ◌∙◌, arith, bit_xor, add-one, below_more, get_or-set_other, get_or-set_same}
use Rattle.std.proofs.Math.ListN.{set}
use Rattle.std.specs.Int.{abs_diff}
use Rattle.book_model.specs.Sums.{sum_below}
use Rattle.word_columns.specs.Columns.{squared}
use Rattle.word_columns.specs.Left.{lifted, high_of, low_of, start_of}
use Rattle.word_columns.proofs.rests.split.Goals as goal

next : (i : ℕ) (f : ℕ → ℕ) → sum_below (i + 1) f ≡ sum_below i f + f i
next i f = rw add-one refl

pub loop-i-preserved : goal.loop-i-preserved
loop-i-preserved c =
    let t : ℕ → ℕ = λ k. lifted c.args.scale (get_or c.args.x.now k 0) (get_or c.args.coarse.now k 0) in
    let i = c.loop-i.i in
    let is : c.lifted-rest.result ≡ t i = c.lifted-rest.ensures.value in
    let one : c.signed_of.result ≡ c.signed_of.result = refl in
    record {
      high = below_more (λ k. bit_xor (get_or (set c.loop-i.high i c.signed_of.result) k 0) 32768 ≡ high_of (t k) + 32640) i
          (λ k h. let ne : k ≢ i = omega arith in ap (λ a. bit_xor a 32768) (get_or-set_other c.loop-i.high i k c.signed_of.result 0 ne) ∙ c.loop-i.invariant.high k h)
          (ap (λ a. bit_xor a 32768) (get_or-set_same c.loop-i.high i c.signed_of.result 0 (omega (arith, c.loop-i.auto.high, c.requires.high, c.loop-i-test.true))) ∙ c.signed_of.ensures ∙ ap (λ a. high_of a + 32640) is);
      low = below_more (λ k. bit_xor (get_or (set c.loop-i.low i c.signed_of-in-loop-i.result) k 0) 32768 ≡ low_of (t k) + 32640) i
          (λ k h. let ne : k ≢ i = omega arith in ap (λ a. bit_xor a 32768) (get_or-set_other c.loop-i.low i k c.signed_of-in-loop-i.result 0 ne) ∙ c.loop-i.invariant.low k h)
          (ap (λ a. bit_xor a 32768) (get_or-set_same c.loop-i.low i c.signed_of-in-loop-i.result 0 (omega (arith, c.loop-i.auto.low, c.requires.low, c.loop-i-test.true))) ∙ c.signed_of-in-loop-i.ensures ∙ ap (λ a. low_of a + 32640) is);
      squares = omega (arith, c.loop-i.invariant.squares, next i (λ i. squared (abs_diff (t i) 32768)), c.square_of-squares.ensures.value, ap (λ a. squared (abs_diff a 32768)) is);
      highs = omega (arith, c.loop-i.invariant.highs, next i (λ i. high_of (t i)), ap high_of is);
      lows = omega (arith, c.loop-i.invariant.lows, next i (λ i. low_of (t i)), ap low_of is);
      few = omega (arith, c.loop-i.invariant.few, c.square_of-squares.ensures.few);
      few_highs = omega (arith, c.loop-i.invariant.few_highs, c.lifted-rest.ensures.few);
      few_lows = omega (arith, c.loop-i.invariant.few_lows);
    }

pub returns : goal.returns
returns c =
    let t : ℕ → ℕ = λ k. lifted c.args.scale (get_or c.args.x.now k 0) (get_or c.args.coarse.now k 0) in
    let n = length c.args.x.now in
    let all : c.loop-i.i ≡ n = omega (arith, c.loop-i-test.false, c.loop-i.auto.i-end) in
    record {
      high_long = omega (arith, c.loop-i.auto.high, c.requires.high);
      low_long = omega (arith, c.loop-i.auto.low, c.requires.low);
      highs = λ i h. c.loop-i.invariant.high i (omega (arith, h, all));
      lows = λ i h. c.loop-i.invariant.low i (omega (arith, h, all));
      squares = c.loop-i.invariant.squares ∙ ap (λ m. sum_below m (λ i. squared (abs_diff (t i) 32768))) all;
      high_start = c.start_of.ensures ∙ ap (start_of n) (c.loop-i.invariant.highs ∙ ap (λ m. sum_below m (λ i. high_of (t i))) all);
      low_start = c.start_of-2.ensures ∙ ap (start_of n) (c.loop-i.invariant.lows ∙ ap (λ m. sum_below m (λ i. low_of (t i))) all);
    }
