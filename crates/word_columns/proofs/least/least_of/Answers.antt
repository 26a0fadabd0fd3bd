use Rattle.std.proofs.Common.{◌-◌, ◌≤◌, get_or, arith, below_more, inl, inr, eq-zero-or-pos}
use Rattle.word_columns.proofs.least.least_of.Goals as goal

pub loop-number-preserved : goal.loop-number-preserved
loop-number-preserved c =
    let i = c.loop-number.number-index in
    let so = c.loop-number.invariant in
    record {
      least = below_more (λ k. c.min-least.result ≤ get_or c.args.numbers.now k 0) i (λ k h. omega (arith, so.least k h, c.min-least.ensures)) (omega (arith, c.min-least.ensures));
      one = elim (eq-zero-or-pos (c.loop-number.least - get_or c.args.numbers.now i 0)) [
        | inl z ↦ (so.one.0, so.one.1, omega (arith, z, so.one.2, c.min-least.ensures))
        | inr p ↦ (i, c.loop-number-test.true, omega (arith, p, c.min-least.ensures))
      ];
    }
