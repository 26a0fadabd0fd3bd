-- The rows that a store shows: those that live at a stamp and whose ids are in ranges.
use Rattle.std.specs.Prelude.{◌≡◌, ◌≤◌, ℕ, Bool, true, List, length}
use Rattle.std.specs.List.{AllByRecursion}
use Rattle.book_model.specs.Rows.{Row}
use Rattle.cell_store.specs.State.{Store, Kept, kept_in, passing_at}
use Rattle.cell_store.specs.Slots.{slot_passes}
use Rattle.cell_store.specs.Blocks.{CellRows, slot_of}

pub record Shown : Type 0 where
  pub store : Store
  pub stamp : ℕ
  pub ranges : List (ℕ × ℕ)

-- all of them, and those of a cell
abbrev pub shown : Shown → List Row
shown s = passing_at s.ranges s.stamp s.store.kept

abbrev pub shown_in : ℕ → Shown → List Row
shown_in cell s = passing_at s.ranges s.stamp (kept_in cell s.store.kept)

-- the rows that a cell keeps, and which of them are shown
pub record CellShown : Type 0 where
  pub cell : ℕ
  pub g : ℕ
  pub rows : List Kept
  pub stamp : ℕ
  pub ranges : List (ℕ × ℕ)

abbrev pub shown_rows : CellShown → List Row
shown_rows c = passing_at c.ranges c.stamp c.rows

-- the rows are of the cell and few, and if it is whole each of them is shown
pub record IsShownCell (view : CellRows) (ranges : List (ℕ × ℕ)) (stamp : ℕ) (whole : Bool) : Type 0 where
  pub few : length view.rows ≤ 16777248
  pub ids : AllByRecursion (λ k. k.row.id ≤ 2147483647) view.rows
  pub cell : AllByRecursion (λ k. k.row.cell ≡ view.cell) view.rows
  pub each : whole ≡ true → AllByRecursion (λ k. slot_passes ranges stamp (slot_of k) ≡ true) view.rows
