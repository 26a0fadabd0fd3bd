-- Which slots of a block are marked.
use Rattle.std.specs.Prelude.{◌≡◌, ◌≤◌, ℕ, ◌<◌, false, List, length}
use Rattle.cell_store.specs.Slots.{slot_at, slot_passes}
use Rattle.cell_store.specs.declared.Slot.{Slot}
use Rattle.prune_scan.specs.LaneMasks.{is_set}

-- those whose rows are shown, and no lane behind them
pub record AreMarks (ranges : List (ℕ × ℕ)) (stamp : ℕ) (slots : List Slot) (marks : ℕ) : Type 0 where
  pub shown : (i : ℕ) → i < length slots → is_set marks i ≡ slot_passes ranges stamp (slot_at slots i)
  pub rest : (i : ℕ) → length slots ≤ i → is_set marks i ≡ false
