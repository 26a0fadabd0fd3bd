use Rattle.bench_kernels.proofs.Fresh.{fresh}
use Rattle.bench_kernels.proofs.scan_passes.scan_fresh.Goals as goal

pub scan_all-requires-clause-standing : goal.scan_all-requires-clause-standing
scan_all-requires-clause-standing g c = fresh _ _ _ _ _ _ c.requires.filled c.requires.some c.requires.none
