-- The slots of a cache: which keys they have, and which tables.
use Rattle.std.specs.Prelude.{◌≡◌, ◌≢◌, ℕ, ◌-◌, ◌<◌, ◌≤◌, Bool, false, not, List, [], ◌∷◌, ◌++◌, length, map, slice_index, slice_index_or, Contains, nat_eq, Option, Some, None, ◌⊎◌, ◌==◌}
use Rattle.std.specs.List.{AllByRecursion, list_any}
use Rattle.std.specs.Map.{lookup}
use Rattle.lru.specs.LruCache.{LruCache}
use Rattle.book_model.specs.Book.{Book}
use Rattle.half_tables.specs.Half.{HalfSeen, IsHalfOf}
use Rattle.residual_scan.specs.Misses.{used}

-- entries are (slot, key), the slot that was used last first. The keys of a query stand in front, in the order of their use; the slots behind
-- have none of this query. `places` has the slot of each key in front
pub record HasKept (kept : List ℕ) (entries : List (ℕ × ℕ)) (places : List ℕ) : Type 0 where
  pub front : List (ℕ × ℕ)
  pub back : List (ℕ × ℕ)
  pub whole : entries ≡ front ++ back
  pub keys : kept ≡ map (λ (e : ℕ × ℕ). e.1) front
  pub placed : (e : ℕ × ℕ) → Contains front e → (e.1 < length places) × (slice_index places e.1 ≡ e.0)
  pub found : (key : ℕ) → key < length places → lookup (nat_eq (slice_index places key)) entries ≡ Some key → Contains front (slice_index places key, key)

-- a key was used: it stands first, in this slot, which is fresh if the key was not kept; the other entries in front are as before, in other slots
pub record Takes (capacity : ℕ) (kept : List ℕ) (entries : List (ℕ × ℕ)) (places : List ℕ) (entries' : List (ℕ × ℕ)) (places' : List ℕ) (key slot : ℕ) (fresh : Bool) (was : HasKept kept entries places) : Type 0 where
  pub now : HasKept (used capacity kept key) entries' places'
  pub fresh_is : fresh ≡ not (list_any (λ other. other == key) kept)
  pub others : (e : ℕ × ℕ) → Contains now.front e → (e ≡ (slot, key)) ⊎ (Contains was.front e × (e.0 ≢ slot))
  pub here : fresh ≡ false → Contains was.front (slot, key)

-- the entries are as many slots as there are, at least two; below two slots there is no cache, since the two tables of a cell would take turns
abbrev pub AreSlots : ℕ → Option (LruCache ℕ ℕ) → Type 0
AreSlots cache None = cache ≤ 1
AreSlots cache (Some slots) = (2 ≤ cache) × (slots.cap ≡ cache) × (length slots.entries ≡ cache) × AllByRecursion (λ (e : ℕ × ℕ). e.0 < cache) slots.entries

-- a table of no half
abbrev pub no_half : HalfSeen
no_half = record { half = 2; g = 0; split = 0; tables = [] }

-- it is the table of a key for a query
abbrev pub IsTableOf : Book → List ℕ → ℕ → HalfSeen → Type 0
IsTableOf book v key seen = (key < book.k0 → IsHalfOf book v 0 key seen) × (book.k0 ≤ key → IsHalfOf book v 1 (key - book.k0) seen)

-- the slots have these keys of a query, and their tables
pub record HasTables (book : Book) (v : List ℕ) (kept : List ℕ) (entries : List (ℕ × ℕ)) (places : List ℕ) (halves : List HalfSeen) : Type 0 where
  pub is : HasKept kept entries places
  pub tables : (e : ℕ × ℕ) → Contains is.front e → IsTableOf book v e.1 (slice_index_or halves e.0 no_half)

-- at most the last key is kept, and that is one of part 1
abbrev pub FewKept : ℕ → List ℕ → Type 0
FewKept k0 kept = (kept ≡ []) ⊎ ((key : ℕ) × (kept ≡ key ∷ []) × (k0 ≤ key))

-- what stands for the keys that a query has used: slots with their tables, or nothing if there is no cache
abbrev pub Stands : Book → List ℕ → List ℕ → Option (LruCache ℕ ℕ) → List ℕ → List HalfSeen → Type 0
Stands book v kept None places halves = FewKept book.k0 kept
Stands book v kept (Some slots) places halves = HasTables book v kept slots.entries places halves

-- for some keys
abbrev pub AreFilled : Book → List ℕ → Option (LruCache ℕ ℕ) → List ℕ → List HalfSeen → Type 0
AreFilled book v slots places halves = (kept : List ℕ) × Stands book v kept slots places halves
