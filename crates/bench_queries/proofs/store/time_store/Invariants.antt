use Rattle.std.proofs.Common.{◌≡◌}
use Rattle.bench_queries.proofs.store.time_store.Given as goal

abbrev pub invariant-loop-pass : goal.invariant-loop-pass
invariant-loop-pass l = (l.store.g ≡ 8) × (l.store.cells ≡ 65536)
