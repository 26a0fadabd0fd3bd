use Rattle.std.proofs.Common.{◌≡◌}
use Rattle.bench_queries.proofs.store.delete_all.Given as goal

abbrev pub invariant-loop-id : goal.invariant-loop-id
invariant-loop-id l = (l.store.g ≡ 8) × (l.store.cells ≡ 65536)
