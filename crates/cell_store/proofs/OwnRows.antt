-- The rows of a cell by their slots.
use Rattle.cell_store.proofs.Words.{◌≡◌, ℕ, ◌<◌, ◌≤◌, List, [], length, map, get_or, set, set-get_or, sym, ap, ◌∙◌, subst, true, SomeIndex, Kept, is_live, Rising, AreRising, slot_at, slot_is_live, Slot, Rows, kept_of, rows_of, slot_of, row_at, ended, rows_in, HasCodes, AreCodes}
use Rattle.cell_store.proofs.FinishLemmas.{slots_rise}
use Rattle.cell_store.proofs.RowLemmas.{length-rows_of, slots-rows_of, row_at-rows_of, rows_of-set}

pub own_codes : {widths : List ℕ} {g : ℕ} {rows : Rows} → HasCodes widths g rows → HasCodes widths rows.codes.g rows
own_codes {widths} {g} {rows} h = subst (λ (n : ℕ). HasCodes widths n rows) (sym h.g_is) h

-- rows whose codes are others that are good where these are
pub other_codes : {widths : List ℕ} {g : ℕ} {rows new : Rows} → HasCodes widths g rows → new.codes.g ≡ rows.codes.g → length new.slots.items ≤ length new.codes.codes
    → ((widths : List ℕ) → AreCodes widths rows.codes.g rows.codes.codes → AreCodes widths rows.codes.g new.codes.codes) → HasCodes widths rows.codes.g new
other_codes {widths} is g room words = record { g_is = g; room = room; words = words widths (own_codes is).words }

module _ (widths : List ℕ) (cell : ℕ) (rows : Rows) (room : length rows.slots.items ≤ length rows.codes.codes) where
  pub length_rows : length (rows_in widths cell rows) ≡ length rows.slots.items
  length_rows = length-rows_of widths cell rows.slots.items rows.codes.codes room

  pub slots_are : map slot_of (rows_in widths cell rows) ≡ rows.slots.items
  slots_are = slots-rows_of widths cell rows.slots.items rows.codes.codes room

  pub slot_is : (i : ℕ) (e : Slot) → i < length rows.slots.items → get_or rows.slots.items i e ≡ slot_of (row_at (rows_in widths cell rows) i)
  slot_is i e h = sym (ap slot_of (row_at-rows_of widths cell rows.slots.items rows.codes.codes i e h room))

  -- a row whose slot says from now on when it died
  pub ended_rows : (at now : ℕ) (slot : Slot) → at < length rows.slots.items → slot ≡ get_or rows.slots.items at slot
      → rows_of widths cell (set rows.slots.items at (record { id = slot.id; born = slot.born; died = now })) rows.codes.codes
      ≡ set (rows_in widths cell rows) at (ended now (row_at (rows_in widths cell rows) at))
  ended_rows at now slot h is =
      ap (rows_of widths cell (set rows.slots.items at (record { id = slot.id; born = slot.born; died = now }))) (sym (set-get_or rows.codes.codes at []))
      ∙ rows_of-set widths cell rows.slots.items rows.codes.codes at (record { id = slot.id; born = slot.born; died = now }) (get_or rows.codes.codes at [])
      ∙ ap (λ (k : Kept). set (rows_in widths cell rows) at (ended now k))
      (ap (λ (s : Slot). kept_of widths cell s (get_or rows.codes.codes at [])) is
      ∙ sym (row_at-rows_of widths cell rows.slots.items rows.codes.codes at slot h room))

  pub slots_rising : Rising (rows_in widths cell rows) → AreRising rows.slots.items
  slots_rising rising = subst AreRising slots_are (slots_rise (rows_in widths cell rows) rising)

-- a row of a cell by its slot
pub there_in_slots : (widths : List ℕ) (cell : ℕ) (rows : Rows) → length rows.slots.items ≤ length rows.codes.codes → (born : ℕ)
    → SomeIndex (rows_in widths cell rows) (λ i. ((row_at (rows_in widths cell rows) i).born ≡ born) × (is_live (row_at (rows_in widths cell rows) i) ≡ true))
    → SomeIndex rows.slots.items (λ i. ((slot_at rows.slots.items i).born ≡ born) × (slot_is_live (slot_at rows.slots.items i) ≡ true))
there_in_slots widths cell rows room born there =
    let here : there.0 < length rows.slots.items = subst (λ (n : ℕ). there.0 < n) (length_rows widths cell rows room) there.1 in
    let slot : slot_at rows.slots.items there.0 ≡ slot_of (row_at (rows_in widths cell rows) there.0) = slot_is widths cell rows room there.0 (record { id = 0; born = 0; died = 0 }) here in
    (there.0, here, (ap (λ (s : Slot). s.born) slot ∙ there.2.0, ap slot_is_live slot ∙ there.2.1))
