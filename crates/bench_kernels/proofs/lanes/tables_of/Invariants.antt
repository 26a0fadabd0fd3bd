use Rattle.std.proofs.Common.{◌≡◌, ℕ, ◌%◌, ◌<◌, length, get_or, vec_len}
use Rattle.lane_kernels.specs.Sums.{width_at}
use Rattle.bench_kernels.proofs.lanes.tables_of.Given as goal

abbrev pub invariant-loop-j : goal.invariant-loop-j
invariant-loop-j g l = let ws = g.S.Shape.widths in record { long : vec_len l.tables ≡ l.j; each : (i : ℕ) → i < l.j → width_at l.tables.items i ≡ get_or ws (i % length ws) 0 }
