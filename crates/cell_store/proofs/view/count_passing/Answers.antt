use Rattle.cell_store.proofs.Words.{take, arith, length-take, slot_passes, length_filter_le}
use Rattle.cell_store.proofs.view.count_passing.Goals as goal

pub overflow_add-count : goal.overflow_add-count
overflow_add-count g c =
    omega (arith, c.loop-slot.invariant, length_filter_le (slot_passes (g.P.IdSelector.ranges c.args.wanted.now) c.args.stamp) (take c.loop-slot.slot-index c.args.slots.now), length-take c.loop-slot.slot-index c.args.slots.now)
