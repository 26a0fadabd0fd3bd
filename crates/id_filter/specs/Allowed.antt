-- Lists of allowed ids.
use Rattle.std.specs.Prelude.{ℕ, Bool, List, map, Option, Some, None, ℤ, pos, negsuc}
use Rattle.std.specs.List.{flat_map, filter_map}
use Rattle.std.specs.List.Sorted.{IsNonDecreasing}
use Rattle.book_model.specs.Rows.{in_ranges}
use Rattle.id_filter.specs.declared.IdRange.{IdRange}
use Rattle.id_filter.specs.declared.lists.AllowedIds.TheInside.{Inside}

-- the id that a number is; a negative one is none
abbrev pub id_of : ℤ → Option ℕ
id_of (pos id) = Some id
id_of (negsuc n) = None

-- the ids among these numbers, in their order
abbrev pub ids_in : List ℤ → List ℕ
ids_in numbers = filter_map id_of numbers

-- each id as a range of its own, by its ends
abbrev pub single_ranges : List ℕ → List (ℕ × ℕ)
single_ranges ids = map (λ id. (id, id)) ids

-- the ranges that rows of numbers allow: one for each id
abbrev pub allowed_ranges : List (List ℤ) → List (ℕ × ℕ)
allowed_ranges rows = flat_map (λ row. single_ranges (ids_in row)) rows

-- whether an id is one of these
abbrev pub has_id : List ℕ → ℕ → Bool
has_id ids id = in_ranges (single_ranges ids) id

-- the range of one id
abbrev pub range_of : ℕ → IdRange
range_of id = record { lo = id; hi = id }

abbrev pub view_allowed : Inside → List ℕ
view_allowed allowed = allowed.ids.items

abbrev pub IsInOrder : Inside → Type 0
IsInOrder allowed = IsNonDecreasing allowed.ids.items
