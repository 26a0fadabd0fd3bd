use Rattle.std.proofs.Common.{ℕ, ◌<◌, ◌≤◌, get_or}
use Rattle.book_model.specs.Sums.{least}
use Rattle.adc_tables.proofs.entries.least_of.Given as goal

abbrev pub invariant-loop-entry : goal.invariant-loop-entry
invariant-loop-entry l = record {
  below : (k : ℕ) → k < l.entry-index → l.best ≤ get_or l.table k 0;
  above : least l.table ≤ l.best;
}
