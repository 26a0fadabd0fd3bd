use Rattle.std.proofs.Common.{◌≡◌, ◌+◌, ◌*◌, ◌≤◌, length, take}
use Rattle.std.specs.Vec.{vec_capacity}
use Rattle.cell_store.specs.State.{passing_at}
use Rattle.radius_scan.specs.Found.{Scans}
use Rattle.radius_scan.proofs.within.scan_shown.Given as goal

-- the passing rows of the first groups are scanned
abbrev pub invariant-loop-n : goal.invariant-loop-n
invariant-loop-n g l = let seen = passing_at l.cell.ranges l.cell.stamp (take (32 * l.n) l.cell.rows) in record {
  rows : l.rows ≡ length seen;
  scans : Scans g.S.Shape.widths l.tables l.radius seen l.initial.pairs.items l.pairs.items l.initial.meters.full l.meters.full;
  capacity : vec_capacity l.initial.pairs ≤ vec_capacity l.pairs;
  blocks : l.meters.blocks ≡ l.initial.meters.blocks + l.n;
  lanes : l.meters.lanes ≡ l.initial.meters.lanes + l.n;
  sums : l.meters.pairs ≡ l.initial.meters.pairs;
  others : (l.meters.half_full ≡ l.initial.meters.half_full) × (l.meters.halves ≡ l.initial.meters.halves);
}
