-- What full tables are in their room.
use Rattle.std.proofs.Common.{◌≡◌, ℕ, ◌+◌, ◌*◌, ◌<◌, ◌≤◌, List, length, drop, sym, ap, ◌∙◌, subst, arith, length-drop}
use Rattle.std.proofs.lemmas.List.{length-take-le}
use Rattle.book_model.specs.Bound.{table_at}
use Rattle.adc_tables.specs.Full.{Full, HasSizes, table_size, table_start, table_in, tables_in, AreEntries}
use Rattle.adc_tables.proofs.Starts.{end_le}
use Rattle.adc_tables.proofs.Sums.{length-tables_in, table_at-tables_in}

module _ (widths : List ℕ) (g : ℕ) (entries : List ℕ) (full : Full) (is : record { g = g; tables = tables_in widths (g * length widths) entries } ≡ full) where
  pub g_is : g ≡ full.g
  g_is = ap (λ (f : Full). f.g) is

  pub tables_are : tables_in widths (g * length widths) entries ≡ full.tables
  tables_are = ap (λ (f : Full). f.tables) is

  pub table_count : length full.tables ≡ g * length widths
  table_count = ap length (sym tables_are) ∙ length-tables_in widths (g * length widths) entries

  pub table_is : (j : ℕ) → j < length full.tables → table_at full.tables j ≡ table_in widths entries j
  table_is j lt = ap (λ ts. table_at ts j) (sym tables_are) ∙ table_at-tables_in widths (g * length widths) entries j (subst (λ n. j < n) table_count lt)

  -- a table lies in the room
  pub table_within : (j : ℕ) → AreEntries widths (g * length widths) entries → j < length full.tables → table_start widths j + table_size widths j ≤ length entries
  table_within j are lt = omega (arith, end_le widths j (g * length widths) (omega (arith, table_count)), are.count)

  pub has_sizes : g ≤ 32 → AreEntries widths (g * length widths) entries → HasSizes widths full
  has_sizes few are = record {
    few = omega (arith, few, g_is);
    count = table_count ∙ ap (λ n. n * length widths) g_is;
    each = λ j lt.
        let ends = table_within j are lt in
        let rest = length-drop (table_start widths j) entries in
        ap length (table_is j lt) ∙ length-take-le (table_size widths j) (drop (table_start widths j) entries) (omega (arith, ends, rest));
  }
