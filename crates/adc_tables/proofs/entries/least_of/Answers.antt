use Rattle.std.proofs.Common.{arith, below_more}
use Rattle.book_model.proofs.Pruning.{least-le}
use Rattle.adc_tables.proofs.Smalls.{le_least}
use Rattle.adc_tables.proofs.entries.least_of.Goals as goal

pub loop-entry-preserved : goal.loop-entry-preserved
loop-entry-preserved c = record {
  below = below_more _ _ (λ k lt. omega (arith, c.loop-entry.invariant.below k lt, c.min-best.ensures)) (omega (arith, c.min-best.ensures));
  above = omega (arith, least-le c.args.table.now c.loop-entry.entry-index (omega arith), c.loop-entry.invariant.above, c.min-best.ensures);
}

pub returns : goal.returns
returns c =
    omega (arith, le_least c.args.table.now c.loop-entry.best c.requires (λ k lt. c.loop-entry.invariant.below k (omega arith)), c.loop-entry.invariant.above)
