use Rattle.std.proofs.Common.{◌≡◌, ℕ, ◌<◌, ◌≤◌, false}
use Rattle.cell_store.specs.Slots.{slot_at, slot_passes}
use Rattle.prune_scan.specs.LaneMasks.{is_set}
use Rattle.prune_scan.proofs.cell.shown_lanes.Given as goal

abbrev pub invariant-loop-i : goal.invariant-loop-i
invariant-loop-i g l = record {
  marks : (k : ℕ) → k < l.i → is_set l.marks k ≡ slot_passes l.cell.ranges l.cell.stamp (slot_at l.slots k);
  rest : (k : ℕ) → l.i ≤ k → is_set l.marks k ≡ false;
}
