-- What is ahead in a file of an index's rows.
use Rattle.std.specs.Prelude.{◌≡◌, ℕ, ◌+◌, ◌*◌, ◌<◌, ◌≤◌, List, [], length, min, Some, Result, Ok, Err, ◌==◌, if◌then◌else◌}
use Rattle.std.specs.Int.{w32}
use Rattle.std.specs.List.{AllByRecursion}
use Rattle.adc_ports.specs.declared.What.TheVariants as what
use Rattle.adc_ports.specs.Reading.{Fault, Read, ◌>>=◌, ends_at, limited_at, allowed_at}
use Rattle.book_model.specs.Rows.{Row}
use Rattle.cell_store.specs.State.{Store, live_rows, never}
use Rattle.index_file.specs.Reading.{Layout, rows_at, members_at, groups_at}
use Rattle.index_file.specs.View.{Refuses}
use Rattle.index_file.specs.declared.sizes.Sizes.{Sizes}
use Rattle.index_file.specs.declared.sizes.Ahead.{Ahead}
use Rattle.index_file.specs.declared.sizes.Ahead.TheVariants.{Rows, Groups}
use Rattle.index_file.specs.declared.index.IndexError.{IndexError}
use Rattle.index_file.specs.declared.version.Version.{Version}
use Rattle.index_file.specs.declared.version.Version.TheVariants.{One, Two}

abbrev pub layout : List ℕ → Sizes → Layout
layout widths sizes = record { widths = widths; g = sizes.g; cells = sizes.cells }

-- the counts at the front of the rows, and what they say is ahead
unfoldable pub ahead_at : Version → ℕ → List ℕ → ℕ → Read Ahead
ahead_at One cells bytes at = do
  count ← limited_at what.Rows w32 0 4194304 bytes at
  Ok (Rows (record { left = count.0; low = 0 }), count.1)
ahead_at Two cells bytes at = do
  count ← limited_at what.Rows w32 0 4194304 bytes at
  groups ← allowed_at w32 (min 1 count.0) (min count.0 cells) bytes count.1
  Ok (Groups (record { cell = 0; members = 0; groups = groups.0; left = count.0; low = 0 }), groups.1)

-- what is found of the rest of the file, behind these rows
abbrev pub rest : Layout → Ahead → List Row → List ℕ → ℕ → Result (List Row) Fault
rest layout (Rows a) rows bytes at = rows_at a.left layout rows a.low bytes at >>= ends_at bytes
rest layout (Groups a) rows bytes at = members_at a.members layout a.cell rows bytes at >>= (λ x. groups_at a.groups layout a.left x.0 a.low bytes x.1 >>= ends_at bytes)

-- how many bytes the next row has, or the next front of a group
abbrev pub size_of : ℕ → Ahead → ℕ
size_of g (Rows a) = 8 + 2 * g
size_of g (Groups a) = if a.members == 0 then 8 else 4 + 2 * g

-- how many rows, and how many steps, are ahead
abbrev pub rows_ahead : Ahead → ℕ
rows_ahead (Rows a) = a.left
rows_ahead (Groups a) = a.members + a.left

abbrev pub steps_ahead : Ahead → ℕ
steps_ahead (Rows a) = a.left
steps_ahead (Groups a) = a.members + (a.groups + a.left)

abbrev pub IsDone : Ahead → Type 0
IsDone (Rows a) = a.left ≡ 0
IsDone (Groups a) = (a.members ≡ 0) × (a.groups ≡ 0)

abbrev pub HasMore : Ahead → Type 0
HasMore (Rows a) = 0 < a.left
HasMore (Groups a) = 0 < a.members + a.groups

-- the cell of a group whose rows are ahead
abbrev pub HasCell : ℕ → Ahead → Type 0
HasCell cells (Rows a) = Unit {0}
HasCell cells (Groups a) = 0 < a.members → a.cell < cells

-- a store of nothing but live rows, for these sizes
pub record IsFilled (sizes : Sizes) (store : Store) : Type 0 where
  pub g : store.g ≡ sizes.g
  pub cells : store.cells ≡ sizes.cells
  pub most : store.most ≡ 4194304
  pub pins : store.pins ≡ []
  pub stamp : store.stamp ≡ length store.kept
  pub each : AllByRecursion (λ k. (k.born ≤ store.stamp) × (k.died ≡ never)) store.kept

-- such a store, with room for the rows that are ahead
pub record IsBefore (sizes : Sizes) (ahead : Ahead) (store : Store) : Type 0 where
  pub filled : IsFilled sizes store
  pub room : length store.kept + rows_ahead ahead ≤ 4194304
  pub few : steps_ahead ahead ≤ 8388608
  pub cell : HasCell sizes.cells ahead

-- reading leaves the same to find, or refuses the file for what there is to find
abbrev pub KeepsRest : Layout → Ahead → Store → Store → List ℕ → ℕ → Result (Ahead × ℕ) IndexError → Type 0
KeepsRest layout ahead old new bytes at (Ok next) = rest layout next.0 (live_rows new) bytes (at + next.1) ≡ rest layout ahead (live_rows old) bytes at
KeepsRest layout ahead old new bytes at (Err e) = Refuses e (Some (rest layout ahead (live_rows old) bytes at))
