use Rattle.std.proofs.Common.{◌≡◌, ◌+◌, ◌*◌, ◌≤◌, ◌++◌, take}
use Rattle.cell_store.specs.State.{passing_at}
use Rattle.residual_scan.specs.Cutting.{Goes}
use Rattle.residual_scan.proofs.cell.scan_groups.Given as goal

abbrev pub invariant-loop-n : goal.invariant-loop-n
invariant-loop-n g l = record {
  goes : Goes (l.low.tables ++ l.high.tables) l.cut (passing_at l.cell.ranges l.cell.stamp (take (32 * l.n) l.cell.rows)) l.initial.best l.best l.initial.meters.half_full l.meters.half_full;
  sizes : (l.best.k ≡ l.initial.best.k) × (l.best.room ≡ l.initial.best.room);
  full : l.meters.half_full ≤ l.initial.meters.half_full + 32 * l.n;
  blocks : l.meters.blocks ≡ l.initial.meters.blocks + l.n;
  lanes : (l.initial.meters.lanes ≤ l.meters.lanes) × (l.meters.lanes ≤ l.initial.meters.lanes + l.n);
  pairs : l.meters.pairs ≡ l.initial.meters.pairs;
  others : (l.meters.halves ≡ l.initial.meters.halves) × (l.meters.full ≡ l.initial.meters.full);
}
