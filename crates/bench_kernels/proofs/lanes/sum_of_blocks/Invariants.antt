use Rattle.std.proofs.Common.{◌≡◌}
use Rattle.bench_kernels.proofs.lanes.sum_of_blocks.Given as goal

abbrev pub invariant-loop-block : goal.invariant-loop-block
invariant-loop-block g l = l.lanes ≡ l.block
