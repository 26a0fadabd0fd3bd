-- The table of all cells: each has the key of its entry in a slab.
use Rattle.std.specs.Prelude.{◌≡◌, ℕ, ◌≤◌, List, [], length, map, filter, slice_index_or, Option, Some, None}
use Rattle.slab.specs.Slab.{Slab, Updates, get as slab_get}
use Rattle.book_model.specs.Sums.{numbers_below}
use Rattle.code_blocks.specs.Codes.{AreCodes}
use Rattle.cell_store.specs.State.{Kept}
use Rattle.cell_store.specs.Slots.{slot_is_live}
use Rattle.cell_store.specs.Blocks.{rows_of}
use Rattle.cell_store.specs.Cells.{Table}
use Rattle.cell_store.specs.declared.rows.Rows.{Rows}

-- the rows of an entry, as those of a cell
abbrev pub rows_in : List ℕ → ℕ → Rows → List Kept
rows_in widths cell rows = rows_of widths cell rows.slots.items rows.codes.codes

-- each row has a code, and the codes are good
pub record HasCodes (widths : List ℕ) (g : ℕ) (rows : Rows) : Type 0 where
  pub g_is : rows.codes.g ≡ g
  pub room : length rows.slots.items ≤ length rows.codes.codes
  pub words : AreCodes widths g rows.codes.codes

-- the count of live rows
abbrev pub IsCounted : Rows → Type 0
IsCounted rows = rows.live ≡ length (filter slot_is_live rows.slots.items)

-- the entry under a key, and that of a cell
abbrev pub under : Slab Rows → Option ℕ → Option Rows
under slab None = None
under slab (Some key) = slab_get slab key

abbrev pub key_at : List (Option ℕ) → ℕ → Option ℕ
key_at keys cell = slice_index_or keys cell None

abbrev pub entry_at : List (Option ℕ) → Slab Rows → ℕ → Option Rows
entry_at keys slab cell = under slab (key_at keys cell)

-- the rows of a cell
abbrev pub found_in : List ℕ → ℕ → Option Rows → List Kept
found_in widths cell None = []
found_in widths cell (Some rows) = rows_in widths cell rows

abbrev pub rows_at_cell : List ℕ → List (Option ℕ) → Slab Rows → ℕ → List Kept
rows_at_cell widths keys slab cell = found_in widths cell (entry_at keys slab cell)

unfoldable pub table_of : List ℕ → ℕ → List (Option ℕ) → Slab Rows → Table
table_of widths g keys slab = record { g = g; lists = map (rows_at_cell widths keys slab) (numbers_below (length keys)) }

-- an entry under a key
pub record HasEntry (widths : List ℕ) (g : ℕ) (slab : Slab Rows) (key : ℕ) : Type 0 where
  pub rows : Rows
  pub is : slab_get slab key ≡ Some rows
  pub codes : HasCodes widths g rows
  pub counted : IsCounted rows

-- each key has an entry, and no two cells have one key
pub record AreEntries (widths : List ℕ) (g : ℕ) (keys : List (Option ℕ)) (slab : Slab Rows) : Type 0 where
  pub g_small : (1 ≤ g) × (g ≤ 32)
  pub few : length keys ≤ 1048576
  pub entry : (c key : ℕ) → key_at keys c ≡ Some key → HasEntry widths g slab key
  pub apart : (c e key : ℕ) → key_at keys c ≡ Some key → key_at keys e ≡ Some key → c ≡ e

-- an entry with no rows was put under a key that had none
pub record IsNewEntry (g : ℕ) (old new : Slab Rows) (key : ℕ) : Type 0 where
  pub rows : Rows
  pub vacant : slab_get old key ≡ None
  pub updates : Updates old new key (Some rows)
  pub slots : rows.slots.items ≡ []
  pub live : rows.live ≡ 0
  pub codes : rows.codes ≡ record { g = g; codes = [] }
