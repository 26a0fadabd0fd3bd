use Rattle.std.proofs.Common.{◌≡◌, ℕ, ◌*◌, ◌<◌, ◌≤◌, get_or}
use Rattle.lane_kernels.specs.Table.{Table}
use Rattle.adc_tables.specs.Full.{table_start}
use Rattle.adc_tables.specs.Small.{small_table}
use Rattle.adc_tables.proofs.small.fill_parts.Given as goal

abbrev pub invariant-loop-j : goal.invariant-loop-j
invariant-loop-j g l = let ws = g.S.Shape.widths in record {
  at : l.at ≡ table_start ws l.j;
  small : l.at ≤ 256 * l.j;
  done : (k : ℕ) (d : Table) → k < l.j → get_or l.parts k d ≡ small_table ws l.steps.step l.full.tables k;
  rest : (k : ℕ) (d : Table) → l.j ≤ k → get_or l.parts k d ≡ get_or l.initial.parts k d;
}
