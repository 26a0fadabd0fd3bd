use Rattle.std.proofs.Common.{◌≡◌}
use Rattle.table_tests.proofs.scan_tests.a_block_is_read_for_each_32_rows.Given as goal

abbrev pub invariant-loop-id : goal.invariant-loop-id
invariant-loop-id g l = (l.store.g ≡ 1) × (l.store.cells ≡ 4)
