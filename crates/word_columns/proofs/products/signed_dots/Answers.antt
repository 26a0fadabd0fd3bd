use Rattle.std.proofs.Common.{◌≡◌, ◌+◌, ◌*◌, ◌/◌, get_or, ap, ◌∙◌, arith}
use Rattle.word_columns.proofs.Signed.{pair_more, pair_last, held}
use Rattle.word_columns.proofs.products.signed_dots.Goals as goal

pub loop-p-preserved : goal.loop-p-preserved
loop-p-preserved c = record {
  long = c.add_signed-sum.ensures.long;
  each = λ k h. pair_more c.args.columns.now c.args.numbers.now c.args.at c.args.start k h c.loop-p.p (get_or c.loop-p.sum k 0) _ (c.loop-p.invariant.each k h) (c.add_signed-sum.ensures.each k h);
}

pub returns-then-n-eq1 : goal.returns-then-n-eq1
returns-then-n-eq1 c =
    let half : c.args.n / 2 ≡ c.loop-p.p = omega (arith, c.loop-p-test.false, c.loop-p.auto.p-end) in
    let all : 2 * c.loop-p.p + 1 ≡ c.args.n = omega (arith, half, c.if-n-eq1.true) in
    record {
      long = c.add_signed.ensures.long;
      each = λ k h.
          pair_last c.args.columns.now c.args.numbers.now c.args.at c.args.start k h c.loop-p.p (c.args.n / 2) (get_or c.loop-p.sum k 0) _ _ (c.loop-p.invariant.each k h) half (c.add_signed.ensures.each k h)
          ∙ ap (held c.args.columns.now c.args.numbers.now c.args.at c.args.start k h) all;
    }

pub returns : goal.returns
returns c =
    let all : 2 * c.loop-p.p ≡ c.args.n = omega (arith, c.if-n-eq1.false, c.loop-p-test.false, c.loop-p.auto.p-end) in
    record {
      long = c.loop-p.invariant.long;
      each = λ k h. c.loop-p.invariant.each k h ∙ ap (held c.args.columns.now c.args.numbers.now c.args.at c.args.start k h) all;
    }
