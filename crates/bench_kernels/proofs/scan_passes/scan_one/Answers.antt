use Rattle.std.proofs.Common.{arith}
use Rattle.bench_kernels.proofs.Fresh.{passing_in_cell}
use Rattle.prune_scan.proofs.Adding.{still_standing}
use Rattle.bench_kernels.proofs.scan_passes.scan_one.Goals as goal

pub scan_cell-requires-clause-rows : goal.scan_cell-requires-clause-rows
scan_cell-requires-clause-rows g c = omega (arith, passing_in_cell c.args.snapshot.now.ranges c.args.snapshot.now.stamp c.args.cell c.args.snapshot.now.store.kept, c.requires.few)

pub returns-clause-standing : goal.returns-clause-standing
returns-clause-standing g c = still_standing _ _ _ _ _ _ _ _ _ c.requires.standing c.scan_cell.ensures.adds
