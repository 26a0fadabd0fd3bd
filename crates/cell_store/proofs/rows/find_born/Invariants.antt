use Rattle.cell_store.proofs.Words.{◌<◌, ◌≤◌, ◌-◌, ℕ, length, slot_at}
use Rattle.cell_store.proofs.rows.find_born.Given as goal

abbrev pub invariant-loop-high : goal.invariant-loop-high
invariant-loop-high l = record {
  order : l.low < l.high;
  within : l.high ≤ length l.slots;
  low : (slot_at l.slots l.low).born ≤ l.born;
  high : (i : ℕ) → l.high ≤ i → i < length l.slots → l.born < (slot_at l.slots i).born;
}

abbrev pub decreases-loop-high : goal.decreases-loop-high
decreases-loop-high l = l.high - l.low
