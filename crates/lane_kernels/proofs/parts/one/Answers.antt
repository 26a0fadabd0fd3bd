use Rattle.std.proofs.Common.{◌≡◌, ℕ, ◌+◌, ◌-◌, ◌*◌, ◌/◌, ◌%◌, ◌<◌, List, get_or, replicate, refl, ap, ◌∙◌, arith, w8}
use lib.Bits.{bit_and, and_le_r, and_mask}
use lib.Lanes.{zip2, chunk}
use Rattle.std.proofs.lemmas.Simd.{SwzOk-from_below, Each1-zip2, Each2-splat, Each1-all, length-swz_l, get_or-swz_l_below, get_or-chunk}
use Rattle.lane_kernels.proofs.Lanes.{lanes_with}
use Rattle.lane_kernels.proofs.parts.one.Goals as goal

abbrev low : List ℕ → List ℕ
low v = zip2 bit_and v (replicate 32 15)

pub swizzle : goal.swizzle
swizzle c =
    let v = c.args.v in
    let small = Each1-all (λ a. bit_and a 15 < 16) (λ a. omega (arith, and_le_r a 15)) v in
    SwzOk-from_below w8 16 2 32 0 (low v) refl (omega (arith, (lanes_with bit_and v 15 c.fits-v.0).long))
    (Each1-zip2 bit_and (λ j. j < 16) v (replicate 32 15) (Each2-splat (λ a b. bit_and a b < 16) v 32 15 small))

pub returns : goal.returns
returns c =
    let v = c.args.v in
    let t = c.twice-table.result in
    let m = lanes_with bit_and v 15 c.fits-v.0 in
    record {
      long = length-swz_l w8 16 t 0 (low v) ∙ m.long;
      each = λ k h.
          let x = get_or v k 0 in
          let is : get_or (low v) k 0 ≡ x % 16 = m.each k h ∙ and_mask x 4 in
          get_or-swz_l_below w8 16 t 0 (low v) k (omega (arith, m.long)) (omega arith)
          ∙ c.twice-table.ensures.each (16 * ((0 + k) / 16) + get_or (low v) k 0) (omega arith)
          ∙ get_or-chunk 0 16 (chunk c.args.at (256 - c.args.at) c.args.entries.now) ((16 * ((0 + k) / 16) + get_or (low v) k 0) % 16) 0 (omega arith)
          ∙ get_or-chunk c.args.at (256 - c.args.at) c.args.entries.now (0 + (16 * ((0 + k) / 16) + get_or (low v) k 0) % 16) 0 (omega arith)
          ∙ ap (λ j. get_or c.args.entries.now j 0) (omega arith);
    }
