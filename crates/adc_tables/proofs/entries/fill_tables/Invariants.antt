use Rattle.std.proofs.Common.{◌≡◌, ℕ, ◌*◌, ◌<◌, ◌≤◌}
use Rattle.book_model.specs.Distance.{distances}
use Rattle.book_model.specs.Book.{part, sub_words, sub_count}
use Rattle.adc_tables.specs.Full.{table_start, table_in, AreEntries}
use Rattle.adc_tables.proofs.entries.fill_tables.Given as goal

abbrev pub invariant-loop-j : goal.invariant-loop-j
invariant-loop-j g l = record {
  at : l.at ≡ table_start g.S.Shape.widths l.j;
  small : l.at ≤ 256 * l.j;
  entries : AreEntries g.S.Shape.widths (sub_count l.book) l.entries;
  done : (i : ℕ) → i < l.j → table_in g.S.Shape.widths l.entries i ≡ distances l.book.scale (sub_words l.book i) (part l.book i l.query);
}
