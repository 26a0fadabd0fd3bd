use Rattle.cell_store.proofs.Words.{◌≢◌, ◌<◌, ℕ, slice_index}
use Rattle.cell_store.proofs.store.find_pin.Given as goal

abbrev pub invariant-loop-i : goal.invariant-loop-i
invariant-loop-i l = (k : ℕ) → k < l.i → slice_index l.pins k ≢ l.stamp
