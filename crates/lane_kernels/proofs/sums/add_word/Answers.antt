use Rattle.std.proofs.Common.{get_or, arith}
use Rattle.lane_kernels.proofs.Picks.{word_sum-four}
use Rattle.lane_kernels.proofs.sums.add_word.Goals as goal

pub returns : goal.returns
returns g c =
    let laws = g.S.Shape.laws in
    record {
      long = c.add_field.ensures.long;
      each = λ k h.
          omega (
            arith,
            c.add_field.ensures.each k h,
            c.add_field-third.ensures.each k h,
            c.add_field-second.ensures.each k h,
            c.add_field-first.ensures.each k h,
            word_sum-four g.S.Shape.widths c.args.tables.now c.args.at (get_or c.args.word k 0) (omega (arith, laws.fields_are, laws.count)),
          );
    }
