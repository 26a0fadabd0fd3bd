use Rattle.std.proofs.Common.{◌≤◌, ◌-◌}
use Rattle.storage_tests.proofs.cell_tests.is_same.Given as goal

abbrev pub invariant-loop-group : goal.invariant-loop-group
invariant-loop-group l = l.group ≤ 4

abbrev pub decreases-loop-group : goal.decreases-loop-group
decreases-loop-group l = 4 - l.group
