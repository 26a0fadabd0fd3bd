use Rattle.std.proofs.Common.{◌≡◌}
use Rattle.storage_tests.proofs.cell_tests.put_thirds.Given as goal

abbrev pub invariant-loop-third : goal.invariant-loop-third
invariant-loop-third g l = (l.store.g ≡ 1) × (l.store.cells ≡ 20) × (l.store.pins ≡ l.fn.store.pins)
