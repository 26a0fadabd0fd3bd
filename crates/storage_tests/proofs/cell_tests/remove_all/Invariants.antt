use Rattle.std.proofs.Common.{◌≡◌}
use Rattle.storage_tests.proofs.cell_tests.remove_all.Given as goal

abbrev pub invariant-loop-id : goal.invariant-loop-id
invariant-loop-id g l = (l.store.g ≡ 1) × (l.store.cells ≡ 20)
