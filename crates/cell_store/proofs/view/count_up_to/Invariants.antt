use Rattle.cell_store.proofs.Words.{◌≡◌, ◌≤◌, ◌-◌, length, filter, slot_passes, slot_of, rows_for, rows_below}
use Rattle.cell_store.proofs.view.count_up_to.Given as goal

abbrev pub invariant-loop-count : goal.invariant-loop-count
invariant-loop-count g l = record {
  within : l.from ≤ l.cells;
  counted : l.count ≡ length (filter (λ k. slot_passes (g.P.IdSelector.ranges l.wanted) l.stamp (slot_of k)) (rows_below (rows_for l.lists) l.from));
}

abbrev pub decreases-loop-count : goal.decreases-loop-count
decreases-loop-count g l = l.cells - l.from
