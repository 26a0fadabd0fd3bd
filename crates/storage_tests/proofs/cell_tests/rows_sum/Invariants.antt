use Rattle.std.proofs.Common.{◌≤◌, ◌-◌}
use Rattle.storage_tests.proofs.cell_tests.rows_sum.Given as goal

abbrev pub invariant-loop-group : goal.invariant-loop-group
invariant-loop-group g l = l.group ≤ 8

abbrev pub decreases-loop-group : goal.decreases-loop-group
decreases-loop-group g l = 8 - l.group
