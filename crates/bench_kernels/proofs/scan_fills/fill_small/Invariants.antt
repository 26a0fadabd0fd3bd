use Rattle.std.proofs.Common.{◌≡◌}
use Rattle.bench_kernels.proofs.scan_fills.fill_small.Given as goal

abbrev pub invariant-loop-round : goal.invariant-loop-round
invariant-loop-round g l = l.small.g ≡ l.tables.g
