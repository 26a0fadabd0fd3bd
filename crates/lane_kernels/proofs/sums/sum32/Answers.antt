use Rattle.std.proofs.Common.{refl, arith}
use Rattle.std.proofs.lemmas.Simd.{get_or-replicate}
use Rattle.lane_kernels.proofs.Picks.{front_sum-more}
use Rattle.lane_kernels.proofs.sums.sum32.Goals as goal

pub loop-w-init : goal.loop-w-init
loop-w-init g c = record { long = refl; each = λ k h. get_or-replicate 32 k 0 0 h }

pub loop-w-preserved : goal.loop-w-preserved
loop-w-preserved g c = record {
  long = c.add_word-sum.ensures.long;
  each = λ k h.
      omega (
        arith,
        c.add_word-sum.ensures.each k h,
        c.loop-w.invariant.each k h,
        front_sum-more g.S.Shape.widths c.args.tables.now c.args.words.now k c.loop-w.w c.FIELDS.result c.loop-w-test.true (omega (arith, g.S.Shape.laws.fields_are)),
      );
}
