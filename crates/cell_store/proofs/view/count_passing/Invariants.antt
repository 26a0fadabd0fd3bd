use Rattle.cell_store.proofs.Words.{◌≡◌, length, take, filter, slot_passes}
use Rattle.cell_store.proofs.view.count_passing.Given as goal

abbrev pub invariant-loop-slot : goal.invariant-loop-slot
invariant-loop-slot g l = l.count ≡ length (filter (slot_passes (g.P.IdSelector.ranges l.wanted) l.stamp) (take l.slot-index l.slots))
