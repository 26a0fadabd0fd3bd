use Rattle.std.proofs.Common.{◌≡◌, ◌+◌, ◌*◌, ◌/◌, get_or, length, arith}
use Rattle.word_columns.proofs.Pairs.{pair_more, pair_last, held_all}
use Rattle.word_columns.proofs.products.dots.Goals as goal

pub loop-p-preserved : goal.loop-p-preserved
loop-p-preserved c = record {
  long = c.add_pair-sum.ensures.long;
  each = λ k h. pair_more c.args.columns.now c.args.x.now c.args.at c.args.total k h c.loop-p.p (get_or c.loop-p.sum k 0) _ (c.loop-p.invariant.each k h) (c.add_pair-sum.ensures.each k h);
}

pub returns-then-x-eq1 : goal.returns-then-x-eq1
returns-then-x-eq1 c =
    let half : length c.args.x.now / 2 ≡ c.loop-p.p = omega (arith, c.loop-p-test.false, c.loop-p.auto.p-end) in
    let all : 2 * c.loop-p.p + 1 ≡ length c.args.x.now = omega (arith, half, c.if-x-eq1.true) in
    record {
      long = c.add_pair.ensures.long;
      each = λ k h.
          held_all c.args.columns.now c.args.x.now c.args.at c.args.total k h (2 * c.loop-p.p + 1) _ c.type_inv.x c.type_inv.columns c.requires.short c.requires.total all
          (pair_last c.args.columns.now c.args.x.now c.args.at c.args.total k h c.loop-p.p (length c.args.x.now / 2) (get_or c.loop-p.sum k 0) _ _ (c.loop-p.invariant.each k h) half (c.add_pair.ensures.each k h));
    }

pub returns : goal.returns
returns c =
    let all : 2 * c.loop-p.p ≡ length c.args.x.now = omega (arith, c.if-x-eq1.false, c.loop-p-test.false, c.loop-p.auto.p-end) in
    record {
      long = c.loop-p.invariant.long;
      each = λ k h. held_all c.args.columns.now c.args.x.now c.args.at c.args.total k h (2 * c.loop-p.p) _ c.type_inv.x c.type_inv.columns c.requires.short c.requires.total all (c.loop-p.invariant.each k h);
    }
