use Rattle.std.proofs.Common.{◌≡◌, ◌^◌, ◌≤◌}
use Rattle.bench_kernels.proofs.lanes.table_of.Given as goal

abbrev pub invariant-loop-at : goal.invariant-loop-at
invariant-loop-at l = (l.table.width ≡ l.width) × (l.at-end ≤ 2 ^ l.width)
