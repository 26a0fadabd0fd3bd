use Rattle.std.proofs.Common.{◌≡◌, ◌+◌, ◌*◌, ◌≤◌, take}
use Rattle.cell_store.specs.State.{passing_at}
use Rattle.prune_scan.specs.Standing.{Adds, Counts}
use Rattle.prune_scan.specs.Blocks.{IsLimit}
use Rattle.prune_scan.proofs.cell.scan_shown.Given as goal

abbrev pub invariant-loop-n : goal.invariant-loop-n
invariant-loop-n g l = let ws = g.S.Shape.widths in record {
  adds : Adds ws l.tables (passing_at l.cell.ranges l.cell.stamp (take (32 * l.n) l.cell.rows)) l.initial.state l.state l.initial.small l.small l.initial.best l.best;
  counts : Counts ws l.tables (passing_at l.cell.ranges l.cell.stamp (take (32 * l.n) l.cell.rows)) l.initial.state l.initial.small l.initial.best l.initial.meters.full l.meters.full;
  limit : IsLimit l.state.pruning l.small l.best l.limit;
  blocks : l.meters.blocks ≡ l.initial.meters.blocks + l.n;
  pairs : l.meters.pairs ≡ l.initial.meters.pairs;
  lanes : (l.initial.meters.lanes ≤ l.meters.lanes) × (l.meters.lanes ≤ l.initial.meters.lanes + l.n);
  others : (l.meters.half_full ≡ l.initial.meters.half_full) × (l.meters.halves ≡ l.initial.meters.halves);
}
