use Rattle.std.proofs.Common.{◌≡◌, ◌≤◌, length, filter, take}
use Rattle.cell_store.specs.Slots.{slot_lives}
use Rattle.index_file.proofs.writing.living_in.Given as goal

abbrev pub invariant-loop-slot : goal.invariant-loop-slot
invariant-loop-slot l = record {
  count : l.count ≡ length (filter (slot_lives l.stamp) (take l.slot-index l.slots));
  few : l.count ≤ l.slot-index;
}
