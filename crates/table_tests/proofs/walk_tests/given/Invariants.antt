use Rattle.std.proofs.Common.{◌≤◌, ◌+◌, ◌*◌}
use Rattle.pair_walk.specs.Walking.{IsWalkOver}
use Rattle.table_tests.proofs.walk_tests.given.Given as goal

abbrev pub invariant-loop-i : goal.invariant-loop-i
invariant-loop-i l = record {
  over : IsWalkOver l.ranks l.walk;
  meter : l.pairs ≤ l.fn.pairs + (2 * l.i + 1);
}
