-- The groups of a store's cells, as they are written.
use Rattle.std.specs.Prelude.{ℕ, List, [], ◌∷◌, ◌++◌, length, map, filter, codes}
use Rattle.std.specs.List.{flat_map}
use Rattle.std.specs.Int.{w32, to_le_bytes}
use Rattle.book_model.specs.Sums.{numbers_below}
use Rattle.book_model.specs.Rows.{Row}
use Rattle.cell_store.specs.State.{Kept, Store, lives_at, live_rows, kept_in, used_count}
use Rattle.index_file.specs.Spelling.{Group, member_bytes, group_bytes}

-- the rows of these that live at a stamp
abbrev pub living : ℕ → List Kept → List Row
living stamp kept = map (λ k. k.row) (filter (lives_at stamp) kept)

-- a cell as a group, if it has rows
abbrev pub group_at : ℕ → List Row → List Group
group_at cell [] = []
group_at cell (row ∷ rows) = (cell, row ∷ rows) ∷ []

-- the bytes of these rows as members of a group
abbrev pub members_text : List ℕ → ℕ → ℕ → List Kept → List ℕ
members_text widths g stamp kept = flat_map (member_bytes widths g) (living stamp kept)

-- the bytes of a cell's group
abbrev pub cell_text : List ℕ → ℕ → ℕ → List Kept → ℕ → List ℕ
cell_text widths g stamp kept cell = flat_map (group_bytes widths g) (group_at cell (living stamp (kept_in cell kept)))

-- the bytes of the groups of the first n cells
abbrev pub cells_text : List ℕ → ℕ → ℕ → List Kept → ℕ → List ℕ
cells_text widths g stamp kept n = flat_map (cell_text widths g stamp kept) (numbers_below n)

-- the bytes of the counts and the groups of a store
abbrev pub body_text : List ℕ → Store → List ℕ
body_text widths store = (to_le_bytes w32 (length (live_rows store)) ++ to_le_bytes w32 (used_count store)) ++ cells_text widths store.g store.stamp store.kept store.cells

-- the bytes of an index of a store, with the bytes of its book
abbrev pub index_text : List ℕ → List ℕ → Store → List ℕ
index_text widths text store = (codes "ADCINDX2" ++ (to_le_bytes w32 (length text) ++ text)) ++ body_text widths store
