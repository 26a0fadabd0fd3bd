use Rattle.std.proofs.Common.{◌≡◌}
use Rattle.table_tests.proofs.scan_chance_tests.a_scan_finds_the_nearest_of_rows_by_chance.Given as goal

abbrev pub invariant-loop-id : goal.invariant-loop-id
invariant-loop-id g l = (l.store.g ≡ 1) × (l.store.cells ≡ 4)

abbrev pub invariant-loop-row : goal.invariant-loop-row
invariant-loop-row g l = (l.store.g ≡ 1) × (l.store.cells ≡ 4)
