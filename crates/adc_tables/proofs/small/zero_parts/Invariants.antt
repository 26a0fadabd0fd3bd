use Rattle.std.proofs.Common.{◌≡◌, ℕ, ◌%◌, ◌<◌, length, get_or, vec_len}
use Rattle.lane_kernels.specs.Sums.{width_at, entries_at}
use Rattle.adc_tables.specs.Full.{table_size}
use Rattle.adc_tables.proofs.small.zero_parts.Given as goal

abbrev pub invariant-loop-j : goal.invariant-loop-j
invariant-loop-j g l = let ws = g.S.Shape.widths in record {
  long : vec_len l.parts ≡ l.j;
  each : (i : ℕ) → i < l.j → width_at l.parts.items i ≡ get_or ws (i % length ws) 0;
  sizes : (i : ℕ) → i < l.j → length (entries_at l.parts.items i) ≡ table_size ws i;
}
