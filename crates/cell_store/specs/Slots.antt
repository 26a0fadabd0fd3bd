-- What slots say of their rows.
use Rattle.std.specs.Prelude.{ℕ, ◌<◌, Bool, ◌&&◌, ◌||◌, not, List, length, nat_lt, nat_le, ◌==◌, slice_index_or}
use Rattle.std.specs.List.{list_any}
use Rattle.book_model.specs.Rows.{in_ranges}
use Rattle.cell_store.specs.State.{never}
use Rattle.cell_store.specs.declared.Slot.{Slot}

abbrev pub slot_lives : ℕ → Slot → Bool
slot_lives s slot = nat_le slot.born s && nat_lt s slot.died

abbrev pub slot_held : List ℕ → Slot → Bool
slot_held pins slot = slot.died == never || list_any (λ s. slot_lives s slot) pins

abbrev pub slot_at : List Slot → ℕ → Slot
slot_at slots i = slice_index_or slots i (record { id = 0; born = 0; died = 0 })

-- each was born before those behind it
abbrev pub AreRising : List Slot → Type 0
AreRising slots = (i j : ℕ) → i < j → j < length slots → (slot_at slots i).born < (slot_at slots j).born

-- a row that lives at a stamp and whose id is in the ranges
abbrev pub slot_passes : List (ℕ × ℕ) → ℕ → Slot → Bool
slot_passes ranges stamp slot = slot_lives stamp slot && in_ranges ranges slot.id

abbrev pub slot_is_live : Slot → Bool
slot_is_live slot = slot.died == never

abbrev pub slot_needed_dead : List ℕ → Slot → Bool
slot_needed_dead pins slot = not (slot.died == never) && list_any (λ s. slot_lives s slot) pins
