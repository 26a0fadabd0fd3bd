use Rattle.std.proofs.Common.{◌≡◌}
use Rattle.storage_tests.proofs.cell_tests.a_cell_lets_go_of_rows_past_32_dead_ones.Given as goal

abbrev pub invariant-loop-id : goal.invariant-loop-id
invariant-loop-id g l = (l.store.g ≡ 1) × (l.store.cells ≡ 20)
