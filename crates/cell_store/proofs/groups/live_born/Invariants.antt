use Rattle.cell_store.proofs.Words.{◌≡◌, ℕ, ◌<◌, ◌≤◌, false, length, slot_at}
use Rattle.cell_store.specs.Groups.{slot_has}
use Rattle.cell_store.proofs.groups.live_born.Given as goal

abbrev pub invariant-loop-at : goal.invariant-loop-at
invariant-loop-at l = (k : ℕ) → l.from ≤ k → k < l.at → k < length l.slots → slot_has l.id (slot_at l.slots k) ≡ false
