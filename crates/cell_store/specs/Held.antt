-- What a store keeps for its live rows and its pins, and what holds of every store.
use Rattle.std.specs.Prelude.{◌≡◌, ℕ, ◌+◌, ◌*◌, ◌^◌, ◌<◌, ◌≤◌, Bool, ◌&&◌, not, List, [], ◌∷◌, ◌++◌, length, map, filter, nat_lt, nat_le, ◌==◌, Option, Some, None, if◌then◌else◌}
use Rattle.std.specs.List.{AllByRecursion, IsDistinct}
use Rattle.shape_core.specs.Word.{IsCode}
use Rattle.book_model.specs.Rows.{Row, has_id}
use Rattle.cell_store.specs.State.{Kept, Store, never, is_live, is_held, live_rows, FewPinned, IsDated, Rising}
use Rattle.cell_store.specs.Blocks.{ended}
use Rattle.cell_store.specs.declared.PutRefusal.{PutRefusal}
use Rattle.cell_store.specs.declared.PutRefusal.TheVariants as put

-- the rows that are live or that a pin needs
abbrev pub held_rows : List ℕ → List Kept → List Kept
held_rows pins kept = filter (is_held pins) kept

abbrev pub held_count : Store → ℕ
held_count store = length (held_rows store.pins store.kept)

-- the live row of an id
abbrev pub is_row_of : ℕ → Kept → Bool
is_row_of id kept = is_live kept && (kept.row.id == id)

-- the live row of the id dies at a stamp
abbrev pub ended_id : ℕ → ℕ → List Kept → List Kept
ended_id stamp id kept = map (λ k. if is_row_of id k then ended stamp k else k) kept

-- a row that is born at a stamp
abbrev pub born_at : ℕ → Row → Kept
born_at stamp row = record { row = row; born = stamp; died = never }

-- the store with a row in the place of the live row of its id, if there is one
abbrev pub put_done : Store → Row → Store
put_done store row = record store { kept = ended_id (store.stamp + 1) row.id store.kept ++ born_at (store.stamp + 1) row ∷ []; stamp = store.stamp + 1 }

-- the first cause for which a put is refused, told from the store as it were after it
abbrev pub put_cause : Store → Row → Option PutRefusal
put_cause store row =
    if not (has_id (live_rows store) row.id) && nat_le store.most (length (live_rows store)) then Some put.Full
    else (if nat_lt (2 * store.most) (held_count (put_done store row)) then Some put.Held else None)

-- a row that may be kept
pub record IsRow (widths : List ℕ) (g cells : ℕ) (row : Row) : Type 0 where
  pub id : row.id ≤ 2147483647
  pub cell : row.cell < cells
  pub code : IsCode widths g row.code

-- what holds of every store
pub record IsStore (widths : List ℕ) (store : Store) : Type 0 where
  pub g : (1 ≤ store.g) × (store.g ≤ 32)
  pub cells : (1 ≤ store.cells) × (store.cells ≤ 1048576)
  pub most : (1 ≤ store.most) × (store.most ≤ 4194304)
  pub stamp : store.stamp ≤ 2 ^ 62
  pub few_pins : length store.pins ≤ 64
  pub pins : AllByRecursion (λ s. s ≤ store.stamp) store.pins
  pub rows : AllByRecursion (λ k. IsRow widths store.g store.cells k.row) store.kept
  pub dated : AllByRecursion (IsDated store.stamp) store.kept
  pub rising : Rising store.kept
  pub apart : IsDistinct (λ a b. a == b) (map (λ row. row.id) (live_rows store))
  pub few_live : length (live_rows store) ≤ store.most
  pub few_pinned : FewPinned store.most store.pins store.kept
  pub few_held : held_count store ≤ 2 * store.most
  pub few_kept : length store.kept ≤ 4 * store.most + 32 * store.cells

-- what holds of a store and of a model that never lets go of a row
pub record IsTimed (store : Store) : Type 0 where
  pub stamp : store.stamp ≤ 2 ^ 62
  pub pins : AllByRecursion (λ s. s ≤ store.stamp) store.pins
  pub dated : AllByRecursion (IsDated store.stamp) store.kept

-- the store without the live row of an id
abbrev pub deleted : Store → ℕ → Store
deleted store id = record store { kept = ended_id (store.stamp + 1) id store.kept; stamp = store.stamp + 1 }

-- a store that keeps what another one needs: the same rows that are live or pinned, with their births and deaths
pub record KeepsAs (store model : Store) : Type 0 where
  pub sizes : (store.g ≡ model.g) × (store.cells ≡ model.cells) × (store.most ≡ model.most)
  pub stamp : store.stamp ≡ model.stamp
  pub pins : store.pins ≡ model.pins
  pub held : held_rows store.pins store.kept ≡ held_rows model.pins model.kept
