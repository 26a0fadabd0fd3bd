use Rattle.std.proofs.Common.{◌≡◌, ◌*◌, ◌≤◌, length}
use Rattle.book_model.specs.Sums.{sum_below}
use Rattle.adc_tables.specs.Full.{table_start}
use Rattle.adc_tables.proofs.Sums.{pick}
use Rattle.adc_tables.proofs.entries.picked_words.Given as goal

abbrev pub invariant-loop-word : goal.invariant-loop-word
invariant-loop-word g l = let ws = g.S.Shape.widths in record {
  at : l.at ≡ table_start ws (l.word-index * length ws);
  sum : l.sum ≡ sum_below (l.word-index * length ws) (pick ws (length l.code * length ws) l.entries l.code);
  small : l.sum ≤ l.word-index * 39580808003584;
}
