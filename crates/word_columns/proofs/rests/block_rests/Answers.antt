use Rattle.std.proofs.Common.{◌+◌, ◌*◌, ◌/◌, ◌%◌, length, arith}
use Rattle.std.proofs.lemmas.Simd.{get_or-chunk}
use Rattle.word_columns.specs.Columns.{component_of, pairs_of}
use Rattle.word_columns.proofs.Sums.{component_lt}
use Rattle.word_columns.proofs.Squares.{squares_small}
use Rattle.word_columns.proofs.Left.{squares_le, block_lane}
use Rattle.word_columns.proofs.rests.block_rests.Goals as goal

pub overflow_add-rest : goal.overflow_add-rest
overflow_add-rest c =
    record { fits = omega (arith, c.requires.short, squares_le c.args.scale c.args.x.now c.args.coarse.now c.requires.scale c.type_inv.x c.type_inv.coarse c.args.high.now c.args.low.now c.args.rest.squares c.args.rest.high c.args.rest.low c.requires.split) }

pub differences-requires-clause-base : goal.differences-requires-clause-base
differences-requires-clause-base c =
    omega (arith, c.requires.short, squares_le c.args.scale c.args.x.now c.args.coarse.now c.requires.scale c.type_inv.x c.type_inv.coarse c.args.high.now c.args.low.now c.args.rest.squares c.args.rest.high c.args.rest.low c.requires.split)

pub differences-requires-clause-norms : goal.differences-requires-clause-norms
differences-requires-clause-norms c = λ k h.
    let n = length c.args.x.now in
    let w = c.args.b * 16 + k in
    omega (
      arith,
      c.requires.short,
      get_or-chunk (c.args.b * 16) 16 c.args.norms.now k 0 h,
      c.requires.kept.squares w (omega (arith, c.requires.some)),
      squares_small n (component_of c.args.columns.now n w) (λ i _. component_lt c.args.columns.now c.type_inv.columns (w / 16 * (32 * pairs_of n)) (w % 16) i),
    )

pub differences-requires-clause-enough : goal.differences-requires-clause-enough
differences-requires-clause-enough c = λ k h.
    let high = c.signed_dots-highs.ensures.each k h in
    let low = c.signed_dots-lows.ensures.each k h in
    omega (
      arith,
      high,
      low,
      c.joined.ensures.each k h,
      block_lane c.args.scale c.args.x.now c.args.coarse.now c.requires.scale c.type_inv.x c.type_inv.coarse c.args.high.now c.args.low.now c.args.columns.now c.args.norms.now c.args.rest.squares c.args.rest.high c.args.rest.low c.args.count c.args.b k _ _ _ c.requires.short c.type_inv.columns c.requires.split c.requires.kept c.requires.some h high low
          (get_or-chunk (c.args.b * 16) 16 c.args.norms.now k 0 h),
    )

pub returns : goal.returns
returns c = record {
  long = c.differences.ensures.long;
  each = λ k h.
      let high = c.signed_dots-highs.ensures.each k h in
      let low = c.signed_dots-lows.ensures.each k h in
      omega (
        arith,
        high,
        low,
        c.joined.ensures.each k h,
        c.differences.ensures.each k h,
        block_lane c.args.scale c.args.x.now c.args.coarse.now c.requires.scale c.type_inv.x c.type_inv.coarse c.args.high.now c.args.low.now c.args.columns.now c.args.norms.now c.args.rest.squares c.args.rest.high c.args.rest.low c.args.count c.args.b k _ _ _ c.requires.short c.type_inv.columns c.requires.split c.requires.kept c.requires.some h high low
            (get_or-chunk (c.args.b * 16) 16 c.args.norms.now k 0 h),
      );
}
