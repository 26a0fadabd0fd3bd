use Rattle.std.proofs.Common.{◌≡◌, ℕ, ◌-◌, ◌*◌, ◌/◌, ◌%◌, ◌^◌, ◌≤◌, get_or, replicate, ap, ◌∙◌, arith, w8, Fits}
use lib.Bits.{bit_and, and_le_r, and_mask}
use lib.Lanes.{zip2}
use Rattle.std.proofs.Math.Pow.{pow_mono}
use Rattle.std.proofs.lemmas.Nat.{one_shl}
use Rattle.std.proofs.lemmas.List.{length-map, get_or-map}
use Rattle.std.proofs.lemmas.Simd.{Each1-zip2, Each2-splat, Each1-all}
use Rattle.lane_kernels.proofs.Lanes.{lanes_with}
use Rattle.lane_kernels.proofs.parts.field.Goals as goal

abbrev down : ℕ → ℕ → ℕ
down a b = a / 2 ^ b

pub overflow_cast-result : goal.overflow_cast-result
overflow_cast-result c =
    let m = 1 * 2 ^ c.args.width % 2 ^ 16 - 1 in
    let e : 1 * 2 ^ c.args.width % 2 ^ 16 ≡ 2 ^ c.args.width = one_shl c.args.width 16 (omega arith) in
    let most : 2 ^ c.args.width ≤ 2 ^ 8 = pow_mono c.requires.small in
    let w = zip2 down c.args.word (replicate 32 c.args.offset) in
    Each1-zip2 bit_and (Fits w8) w (replicate 32 m) (Each2-splat (λ a b. Fits w8 (bit_and a b)) w 32 m (Each1-all (λ a. Fits w8 (bit_and a m)) (λ a. record { fits = omega (arith, and_le_r a m) }) w))

pub returns : goal.returns
returns c =
    let m = 1 * 2 ^ c.args.width % 2 ^ 16 - 1 in
    let e : m ≡ 2 ^ c.args.width - 1 = ap (λ n. n - 1) (one_shl c.args.width 16 (omega arith)) in
    let w = zip2 down c.args.word (replicate 32 c.args.offset) in
    let moved = lanes_with down c.args.word c.args.offset c.fits-word.0 in
    let kept = lanes_with bit_and w m moved.long in
    record {
      long = length-map (zip2 bit_and w (replicate 32 m)) (λ a. a) ∙ kept.long;
      each = λ k h.
          get_or-map (λ a. a) (zip2 bit_and w (replicate 32 m)) k 0 0 (omega (arith, kept.long)) ∙ kept.each k h
          ∙ ap (λ x. bit_and x m) (moved.each k h) ∙ ap (bit_and (get_or c.args.word k 0 / 2 ^ c.args.offset)) e ∙ and_mask _ c.args.width;
    }
