use Rattle.std.proofs.Common.{◌≡◌}
use Rattle.prune_scan.specs.Standing.{IsStanding}
use Rattle.bench_kernels.proofs.scan_passes.scan_all.Given as goal

abbrev pub invariant-loop-cell : goal.invariant-loop-cell
invariant-loop-cell g l = record {
  standing : IsStanding g.S.Shape.widths l.tables l.state l.small l.best;
  room : l.small.g ≡ l.store.g;
}
