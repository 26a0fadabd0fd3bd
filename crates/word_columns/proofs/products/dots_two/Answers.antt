use Rattle.std.proofs.Common.{◌≡◌, ◌+◌, ◌*◌, ◌/◌, get_or, length, arith}
use Rattle.word_columns.proofs.Pairs.{pair_more, pair_last, held_all}
use Rattle.word_columns.proofs.products.dots_two.Goals as goal

pub loop-p-preserved : goal.loop-p-preserved
loop-p-preserved c = record {
  first = record {
    long = c.add_pair-low.ensures.long;
    each = λ k h. pair_more c.args.columns.now c.args.x.now c.args.at c.args.total k h c.loop-p.p (get_or c.loop-p.low k 0) _ (c.loop-p.invariant.first.each k h) (c.add_pair-low.ensures.each k h);
  };
  second = record {
    long = c.add_pair-high.ensures.long;
    each = λ k h. pair_more c.args.columns.now c.args.x.now c.args.next c.args.total k h c.loop-p.p (get_or c.loop-p.high k 0) _ (c.loop-p.invariant.second.each k h) (c.add_pair-high.ensures.each k h);
  };
}

pub returns-then-x-eq1-clause-first : goal.returns-then-x-eq1-clause-first
returns-then-x-eq1-clause-first c =
    let half : length c.args.x.now / 2 ≡ c.loop-p.p = omega (arith, c.loop-p-test.false, c.loop-p.auto.p-end) in
    let all : 2 * c.loop-p.p + 1 ≡ length c.args.x.now = omega (arith, half, c.if-x-eq1.true) in
    record {
      long = c.add_pair-first.ensures.long;
      each = λ k h.
          held_all c.args.columns.now c.args.x.now c.args.at c.args.total k h (2 * c.loop-p.p + 1) _ c.type_inv.x c.type_inv.columns c.requires.short c.requires.total all
          (pair_last c.args.columns.now c.args.x.now c.args.at c.args.total k h c.loop-p.p (length c.args.x.now / 2) (get_or c.loop-p.low k 0) _ _ (c.loop-p.invariant.first.each k h) half (c.add_pair-first.ensures.each k h));
    }

pub returns-then-x-eq1-clause-second : goal.returns-then-x-eq1-clause-second
returns-then-x-eq1-clause-second c =
    let half : length c.args.x.now / 2 ≡ c.loop-p.p = omega (arith, c.loop-p-test.false, c.loop-p.auto.p-end) in
    let all : 2 * c.loop-p.p + 1 ≡ length c.args.x.now = omega (arith, half, c.if-x-eq1.true) in
    record {
      long = c.add_pair-second.ensures.long;
      each = λ k h.
          held_all c.args.columns.now c.args.x.now c.args.next c.args.total k h (2 * c.loop-p.p + 1) _ c.type_inv.x c.type_inv.columns c.requires.short c.requires.total all
          (pair_last c.args.columns.now c.args.x.now c.args.next c.args.total k h c.loop-p.p (length c.args.x.now / 2) (get_or c.loop-p.high k 0) _ _ (c.loop-p.invariant.second.each k h) half (c.add_pair-second.ensures.each k h));
    }

pub returns-clause-first : goal.returns-clause-first
returns-clause-first c =
    let all : 2 * c.loop-p.p ≡ length c.args.x.now = omega (arith, c.if-x-eq1.false, c.loop-p-test.false, c.loop-p.auto.p-end) in
    record {
      long = c.loop-p.invariant.first.long;
      each = λ k h. held_all c.args.columns.now c.args.x.now c.args.at c.args.total k h (2 * c.loop-p.p) _ c.type_inv.x c.type_inv.columns c.requires.short c.requires.total all (c.loop-p.invariant.first.each k h);
    }

pub returns-clause-second : goal.returns-clause-second
returns-clause-second c =
    let all : 2 * c.loop-p.p ≡ length c.args.x.now = omega (arith, c.if-x-eq1.false, c.loop-p-test.false, c.loop-p.auto.p-end) in
    record {
      long = c.loop-p.invariant.second.long;
      each = λ k h. held_all c.args.columns.now c.args.x.now c.args.next c.args.total k h (2 * c.loop-p.p) _ c.type_inv.x c.type_inv.columns c.requires.short c.requires.total all (c.loop-p.invariant.second.each k h);
    }
