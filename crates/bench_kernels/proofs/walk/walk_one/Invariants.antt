use Rattle.std.proofs.Common.{◌≤◌, ◌+◌, ◌*◌}
use Rattle.pair_walk.specs.Walking.{IsWalkOver}
use Rattle.bench_kernels.proofs.walk.walk_one.Given as goal

abbrev pub invariant-loop-i : goal.invariant-loop-i
invariant-loop-i l = record {
  over : IsWalkOver l.ranks l.walk;
  meter : l.pairs ≤ 2 * l.i + 1;
}
