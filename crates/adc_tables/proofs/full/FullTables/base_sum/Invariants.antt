use Rattle.std.proofs.Common.{◌≡◌, ◌*◌, ◌≤◌}
use Rattle.book_model.specs.Sums.{sum_below, least}
use Rattle.book_model.specs.Bound.{table_at}
use Rattle.adc_tables.specs.Full.{table_start}
use Rattle.adc_tables.proofs.full.FullTables.base_sum.Given as goal

abbrev pub invariant-loop-j : goal.invariant-loop-j
invariant-loop-j g l = record {
  at : l.at ≡ table_start g.S.Shape.widths l.j;
  small_at : l.at ≤ 256 * l.j;
  few : l.j-end ≤ 128;
  sum : l.sum ≡ sum_below l.j (λ j. least (table_at l.self.tables j));
  small : l.sum ≤ l.j * 4397912294400;
}
