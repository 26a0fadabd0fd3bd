use Rattle.std.proofs.Common.{◌≡◌}
use Rattle.table_tests.proofs.scan_tests.with_near_row.Given as goal

abbrev pub invariant-loop-id : goal.invariant-loop-id
invariant-loop-id g l = (l.store.g ≡ 1) × (l.store.cells ≡ 4)
