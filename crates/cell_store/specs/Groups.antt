-- Where the table of ids says that the live rows stand: each in a group of its cell's rows.
use Rattle.std.specs.Prelude.{◌≡◌, ◌≢◌, ℕ, zero, suc, ◌/◌, ◌<◌, Bool, true, ◌&&◌, ◌==◌, List, length, Option, Some, None, is_some, if◌then◌else◌}
use Rattle.std.specs.FinMap as map
use Rattle.id_table.specs.declared.Place.{Place as Spot}
use Rattle.id_table.specs.Table.{Places}
use Rattle.cell_store.specs.State.{Kept, is_live}
use Rattle.cell_store.specs.Blocks.{row_at}
use Rattle.cell_store.specs.Cells.{Table, rows_for, IsTidied, IsIndex, IsKept}
use Rattle.cell_store.specs.Slots.{slot_at, slot_is_live}
use Rattle.cell_store.specs.declared.Slot.{Slot}
use Rattle.cell_store.specs.declared.store.Place.{Place}

-- the place of the row that stands behind so many of its cell
abbrev pub listed_at : ℕ → ℕ → Spot
listed_at cell at = record { cell = cell; group = at / 2560 }

-- the live row of an id among those of its cell, and its group in the table
pub record InGroup (rows : List Kept) (id : ℕ) (place : Place) (listed : Option Spot) : Type 0 where
  pub at : ℕ
  pub within : at < length rows
  pub born : (row_at rows at).born ≡ place.born
  pub id_is : (row_at rows at).row.id ≡ id
  pub live : is_live (row_at rows at) ≡ true
  pub is : listed ≡ Some (listed_at place.cell at)

abbrev pub Grouping : (ℕ → List Kept) → ℕ → Option Place → Option Spot → Type 0
Grouping rows id None listed = listed ≡ None
Grouping rows id (Some place) listed = InGroup (rows place.cell) id place listed

-- the table has the group of each live row, and nothing else
abbrev pub IsGrouped : (ℕ → List Kept) → (ℕ → Option Place) → Places → Type 0
IsGrouped rows places ids = (id : ℕ) → Grouping rows id (places id) (map.get ids id)

-- after a cell lost rows, or not, the table has the groups in which its live rows stand now
abbrev pub Regroups : (ℕ → List Kept) → ℕ → ℕ → Places → Places → Type 0
Regroups rows cell before ids ids' =
    (mid : ℕ → List Kept) (pins : List ℕ) (places : ℕ → Option Place) → ((c : ℕ) → c ≢ cell → rows c ≡ mid c) → IsTidied pins (mid cell) (rows cell) → length (mid cell) ≡ before
    → IsIndex rows places → IsGrouped mid places ids → IsGrouped rows places ids'

-- while cells lost rows, the table has the groups of the rows
abbrev pub StaysGrouped : (ℕ → List Kept) → (ℕ → List Kept) → Places → Places → Type 0
StaysGrouped old new ids ids' = (places : ℕ → Option Place) → IsIndex old places → IsGrouped old places ids → IsGrouped new places ids'

-- the place of an id after the first n slots of a cell were listed anew
abbrev pub slot_has : ℕ → Slot → Bool
slot_has id slot = slot_is_live slot && (slot.id == id)

abbrev pub listed_anew : ℕ → List Slot → ℕ → ℕ → Option Spot → Option Spot
listed_anew cell slots zero id listed = listed
listed_anew cell slots (suc n) id listed = if slot_has id (slot_at slots n) && is_some listed then Some (listed_at cell n) else listed_anew cell slots n id listed

-- what the parts of a store obey, with the rows that the table lists
pub record IsIndexed (g cells most stamp live needed : ℕ) (pins : List ℕ) (table : Table) (ids : Places) : Type 0 where
  pub places : ℕ → Option Place
  pub kept : IsKept g cells most stamp live needed pins table places
  pub grouped : IsGrouped (rows_for table) places ids
