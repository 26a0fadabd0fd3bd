-- How the rows of all cells stand in one list: in the order in which they were born.
use Rattle.std.specs.Prelude.{◌≡◌, ◌≢◌, ℕ, zero, suc, ◌+◌, ◌*◌, ◌<◌, ◌≤◌, List, [], ◌∷◌, ◌++◌, length, filter, Option, Some, slice_index_or, ◌⊎◌, Bool, true, not, ◌&&◌, ◌^◌, if◌then◌else◌}
use Rattle.std.specs.List.{AllByRecursion, list_any}
use Rattle.std.specs.Ordering.{nat_cmp}
use Rattle.std.specs.declared.cmp.Ordering.{Ordering}
use Rattle.book_model.specs.Order.{sorted}
use Rattle.book_model.specs.Sums.{sum_below}
use Rattle.cell_store.specs.State.{Kept, is_live, is_held, is_needed, IsDated, Rising}
use Rattle.cell_store.specs.Blocks.{row_at, ended}
use Rattle.cell_store.specs.declared.store.Place.{Place}

-- the words of a code, and the rows that each cell keeps
pub record Table : Type 0 where
  pub g : ℕ
  pub lists : List (List Kept)

abbrev pub rows_for : Table → ℕ → List Kept
rows_for table cell = slice_index_or table.lists cell []

-- the rows of the first n cells, one after another
abbrev pub rows_below : (ℕ → List Kept) → ℕ → List Kept
rows_below rows zero = []
rows_below rows (suc n) = rows_below rows n ++ rows n

abbrev pub born_cmp : Kept → Kept → Ordering
born_cmp a b = nat_cmp a.born b.born

-- these rows as they were born
unfoldable pub all_kept : (ℕ → List Kept) → ℕ → List Kept
all_kept rows n = sorted born_cmp (rows_below rows n)

-- the rows of n cells
pub record AreCells (n stamp : ℕ) (rows : ℕ → List Kept) : Type 0 where
  pub of_cell : (c : ℕ) → AllByRecursion (λ k. k.row.cell ≡ c) (rows c)
  pub none_past : (c : ℕ) → n ≤ c → rows c ≡ []
  pub rising : (c : ℕ) → Rising (rows c)
  pub apart : (c e : ℕ) → c ≢ e → AllByRecursion (λ k. AllByRecursion (λ l. k.born ≢ l.born) (rows e)) (rows c)
  pub dated : (c : ℕ) → AllByRecursion (IsDated stamp) (rows c)
  pub ids : (c : ℕ) → AllByRecursion (λ k. k.row.id ≤ 2147483647) (rows c)

-- the index has each live row, and nothing else
pub record IsIndex (rows : ℕ → List Kept) (places : ℕ → Option Place) : Type 0 where
  pub listed : (c : ℕ) → AllByRecursion (λ k. is_live k ≡ true → places k.row.id ≡ Some (record { cell = c; born = k.born })) (rows c)
  pub live : (id : ℕ) (place : Place) → places id ≡ Some place
      → (at : ℕ) × (at < length (rows place.cell)) × ((row_at (rows place.cell) at).born ≡ place.born) × ((row_at (rows place.cell) at).row.id ≡ id) × (is_live (row_at (rows place.cell) at) ≡ true)

-- one cell has new rows, and the others have theirs
pub record Replaces (cell : ℕ) (old new : ℕ → List Kept) (rows : List Kept) : Type 0 where
  pub own : new cell ≡ rows
  pub others : (c : ℕ) → c ≢ cell → new c ≡ old c

-- few rows are kept beside those that are held
abbrev pub AreFew : List ℕ → List Kept → Type 0
AreFew pins rows = length rows ≤ 2 * length (filter (is_held pins) rows) + 32

-- the row of this birth ends now; rows may be let go of that are not held, and few such rows stay
pub record Ends (born now : ℕ) (pins : List ℕ) (old new : List Kept) (needed : Bool) : Type 0 where
  pub front : List Kept
  pub row : Kept
  pub back : List Kept
  pub was : old ≡ front ++ row ∷ back
  pub at : row.born ≡ born
  pub is : (new ≡ front ++ ended now row ∷ back) ⊎ (new ≡ filter (is_held pins) (front ++ ended now row ∷ back))
  pub needed_is : needed ≡ is_needed pins (ended now row)
  pub few : AreFew pins new

-- a dead row that a pinned stamp needs
abbrev pub is_needed_dead : List ℕ → Kept → Bool
is_needed_dead pins kept = not (is_live kept) && is_needed pins kept

-- what the parts of a store obey
pub record IsKept (g cells most stamp live needed : ℕ) (pins : List ℕ) (table : Table) (places : ℕ → Option Place) : Type 0 where
  pub g_small : (1 ≤ g) × (g ≤ 32)
  pub cells_small : (1 ≤ cells) × (cells ≤ 1048576)
  pub most_small : (1 ≤ most) × (most ≤ 4194304)
  pub stamp_small : stamp ≤ 2 ^ 62
  pub are_cells : AreCells cells stamp (rows_for table)
  pub g_is : table.g ≡ g
  pub index : IsIndex (rows_for table) places
  pub live_count : live ≡ length (filter is_live (all_kept (rows_for table) cells))
  pub needed_count : needed ≡ length (filter (is_needed_dead pins) (all_kept (rows_for table) cells))
  pub few_live : live ≤ most
  pub few_needed : live + needed ≤ 2 * most
  pub few_pins : length pins ≤ 64
  pub pins_before : AllByRecursion (λ s. s ≤ stamp) pins
  pub few : (c : ℕ) → AreFew pins (rows_for table c)

-- 1 for a cell that has a live row
abbrev pub used_in : (ℕ → List Kept) → ℕ → ℕ
used_in rows cell = if list_any is_live (rows cell) then 1 else 0

-- how many of the first n cells have a live row
abbrev pub used_below : (ℕ → List Kept) → ℕ → ℕ
used_below rows n = sum_below n (used_in rows)

-- rows that were let be, or of which only those that are held were kept
abbrev pub IsTidied : List ℕ → List Kept → List Kept → Type 0
IsTidied pins old new = (new ≡ old) ⊎ (new ≡ filter (is_held pins) old)
