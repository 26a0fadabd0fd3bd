use Rattle.std.proofs.Common.{sym, arith}
use Rattle.book_model.proofs.Nearest.{first_least_unique}
use Rattle.word_columns.proofs.least.first_of_few.Goals as goal

pub returns : goal.returns
returns c = sym (first_least_unique c.args.distances.now c.loop-w.best (record {
  within = omega arith;
  least = λ k h. omega (arith, c.loop-w.invariant.least k (omega (arith, h)));
  before = λ k h. omega (arith, c.loop-w.invariant.before k h);
}))
