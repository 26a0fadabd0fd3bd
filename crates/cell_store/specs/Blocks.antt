-- The rows of a cell: slots and codes.
use Rattle.std.specs.Prelude.{ℕ, List, [], ◌∷◌, slice_index_or}
use Rattle.shape_core.specs.Word.{code_of_words}
use Rattle.cell_store.specs.State.{Kept}
use Rattle.cell_store.specs.declared.Slot.{Slot}

-- a slot and its code as a row of the cell
abbrev pub kept_of : List ℕ → ℕ → Slot → List ℕ → Kept
kept_of widths cell slot words = record { row = record { id = slot.id; cell = cell; code = code_of_words widths words }; born = slot.born; died = slot.died }

-- the rows of the slots, whose codes these are in order
abbrev pub rows_of : List ℕ → ℕ → List Slot → List (List ℕ) → List Kept
rows_of widths cell [] codes = []
rows_of widths cell (slot ∷ slots) [] = []
rows_of widths cell (slot ∷ slots) (code ∷ codes) = kept_of widths cell slot code ∷ rows_of widths cell slots codes

-- the rows that a cell keeps
pub record CellRows : Type 0 where
  pub cell : ℕ
  pub g : ℕ
  pub rows : List Kept

-- what a slot holds of a row
abbrev pub slot_of : Kept → Slot
slot_of kept = record { id = kept.row.id; born = kept.born; died = kept.died }

-- the row at an index, and one of zeros past the end
abbrev pub no_row : Kept
no_row = record { row = record { id = 0; cell = 0; code = [] }; born = 0; died = 0 }

abbrev pub row_at : List Kept → ℕ → Kept
row_at rows at = slice_index_or rows at no_row

-- the row, dead from a stamp on
abbrev pub ended : ℕ → Kept → Kept
ended stamp kept = record { row = kept.row; born = kept.born; died = stamp }
