use Rattle.std.proofs.Common.{◌≡◌}
use Rattle.storage_tests.proofs.cell_tests.a_long_history_is_that_of_a_plain_list.Given as goal

abbrev pub invariant-loop-round : goal.invariant-loop-round
invariant-loop-round g l = (l.store.g ≡ 1) × (l.store.cells ≡ 20)
