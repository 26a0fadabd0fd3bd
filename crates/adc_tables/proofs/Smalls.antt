-- Small tables.
use Rattle.std.proofs.Common.{◌≡◌, ℕ, suc, ◌-◌, ◌*◌, ◌/◌, ◌%◌, ◌<◌, ◌≤◌, List, [], ◌∷◌, ◌++◌, ◌+◌, length, get_or, take, map, min, replicate, below_more, sym, ap, ◌∙◌, inl, inr, arith, eq-zero-or-pos}
use Rattle.std.proofs.Math.Nat.{zero-div}
use Rattle.std.proofs.lemmas.List.{get_or_past, get_or-map, get_or-take, get_or_append_left, get_or_push, length-map, length-take-le, map_push}
use Rattle.std.proofs.lemmas.Grind.{same_number_lists}
use Rattle.std.proofs.lemmas.List.FromFn.{length-map-range_with_len, get_or-map-range_with_len}
use Rattle.book_model.specs.Sums.{sum_below, least, numbers_below}
use Rattle.book_model.specs.Bound.{Tables, table_at, small, step_of, bound}
use Rattle.shape_core.specs.Word.{code_of_words}
use Rattle.book_model.proofs.SumLemmas.{sum_below-same}
use Rattle.lane_kernels.specs.Table.{Table}
use Rattle.lane_kernels.specs.Sums.{AreTables, entries_at, width_at, code_sum, lane_words}
use Rattle.lane_kernels.proofs.Picks.{code_sum-places}
use Rattle.adc_tables.specs.Full.{Full, table_size}
use Rattle.adc_tables.specs.Small.{HaveSizes, small_table, small_of}

-- what is not above any number is not above the least
pub le_least : (xs : List ℕ) (b : ℕ) → 1 ≤ length xs → ((k : ℕ) → k < length xs → b ≤ get_or xs k 0) → b ≤ least xs
le_least [] b some h = absurd (omega arith)
le_least (x ∷ []) b some h = h 0 (omega arith)
le_least (x ∷ y ∷ ys) b some h = omega (arith, h 0 (omega arith), le_least (y ∷ ys) b (omega arith) (λ k lt. h (suc k) (omega arith)))

-- an entry that is not there counts no steps
small-past : (size : ℕ) (table : List ℕ) (w : ℕ) → length table ≤ w → small size table w ≡ 0
unfolding small
small-past size table w past =
    let none : get_or table w 0 - least table ≡ 0 = omega (arith, get_or_past table w 0 past) in
    ap (λ n. min 255 (n / size)) none ∙ ap (λ n. min 255 n) (zero-div size)

small_at : (size : ℕ) (table : List ℕ) (w : ℕ) → get_or (map (small size table) (numbers_below (length table))) w 0 ≡ small size table w
small_at size table w = elim (eq-zero-or-pos (length table - w)) [
  | inl past ↦
      get_or_past (map (small size table) (numbers_below (length table))) w 0 (omega (arith, past, length-map-range_with_len (small size table) 0 (length table)))
      ∙ sym (small-past size table w (omega (arith, past)))
  | inr there ↦ get_or-map-range_with_len (small size table) 0 (length table) w w 0 (omega (arith, there)) (omega arith)
]

none : Table
none = record { width = 0; entries = [] }

module _ (widths : List ℕ) (size : ℕ) (ts : Tables) where
  abbrev pub small_parts : List Table
  small_parts = map (small_table widths size ts) (numbers_below (length ts))

  length-small_parts : length small_parts ≡ length ts
  length-small_parts = length-map-range_with_len (small_table widths size ts) 0 (length ts)

  part_at : (j : ℕ) → j < length ts → get_or small_parts j none ≡ small_table widths size ts j
  part_at j lt = get_or-map-range_with_len (small_table widths size ts) 0 (length ts) j j none lt (omega arith)

  width_is : (j : ℕ) → j < length ts → width_at small_parts j ≡ get_or widths (j % length widths) 0
  width_is j lt = get_or-map (λ (t : Table). t.width) small_parts j none 0 (omega (arith, length-small_parts)) ∙ ap (λ (t : Table). t.width) (part_at j lt)

  entries_are : (j : ℕ) → j < length ts → entries_at small_parts j ≡ map (small size (table_at ts j)) (numbers_below (length (table_at ts j)))
  entries_are j lt = get_or-map (λ (t : Table). t.entries) small_parts j none [] (omega (arith, length-small_parts)) ∙ ap (λ (t : Table). t.entries) (part_at j lt)

  pub are_tables : (g : ℕ) → length ts ≡ g * length widths → AreTables widths g small_parts
  are_tables g count = record { count = length-small_parts ∙ count; each = λ j lt. width_is j (omega (arith, length-small_parts)) }

  pub have_sizes : ((j : ℕ) → j < length ts → length (table_at ts j) ≡ table_size widths j) → HaveSizes widths small_parts
  have_sizes sizes = record {
    each = λ j lt.
        let there : j < length ts = omega (arith, length-small_parts) in
        ap length (entries_are j there) ∙ length-map-range_with_len (small size (table_at ts j)) 0 (length (table_at ts j)) ∙ sizes j there;
  }

  -- the entries that words pick from small tables add up to the steps of their code
  pub small_sum : (words : List ℕ) → length ts ≡ length words * length widths
      → code_sum widths small_parts words ≡ sum_below (length ts) (λ j. small size (table_at ts j) (get_or (code_of_words widths words) j 0))
  small_sum words count =
      code_sum-places widths small_parts words
      ∙ ap (λ n. sum_below n (λ j. get_or (entries_at small_parts j) (get_or (code_of_words widths words) j 0) 0)) (sym count)
      ∙ sum_below-same (length ts) (λ j. get_or (entries_at small_parts j) (get_or (code_of_words widths words) j 0) 0) (λ j. small size (table_at ts j) (get_or (code_of_words widths words) j 0))
      (λ j lt. ap (λ t. get_or t (get_or (code_of_words widths words) j 0) 0) (entries_are j lt) ∙ small_at size (table_at ts j) (get_or (code_of_words widths words) j 0))

-- the capped sum over small tables is the bound
pub bound_is : (widths : List ℕ) (full : Full) (theta0 : ℕ) (words : List ℕ) → length full.tables ≡ length words * length widths
    → min 255 (code_sum widths (small_of widths full theta0).parts words) ≡ bound full.tables theta0 (code_of_words widths words)
unfolding bound small_of
bound_is widths full theta0 words count = ap (λ n. min 255 n) (small_sum widths (step_of full.tables theta0) full.tables words count)

pub small_count : (widths : List ℕ) (full : Full) (theta0 n : ℕ) (parts : List Table) → parts ≡ (small_of widths full theta0).parts → AreTables widths n parts → length full.tables ≡ n * length widths
unfolding small_of
small_count widths full theta0 n parts is are = sym (ap length is ∙ length-small_parts widths (step_of full.tables theta0) full.tables) ∙ are.count

-- one more table of its size
pub sizes_push : (widths : List ℕ) (tables : List Table) (t : Table) (j : ℕ) → length tables ≡ j → ((i : ℕ) → i < j → length (entries_at tables i) ≡ table_size widths i)
    → length t.entries ≡ table_size widths j → (i : ℕ) → i < j + 1 → length (entries_at (tables ++ t ∷ []) i) ≡ table_size widths i
sizes_push widths tables t j long each is =
    let pushed = map_push (λ (u : Table). u.entries) tables t in
    let size = length-map tables (λ (u : Table). u.entries) in
    below_more (λ i. length (entries_at (tables ++ t ∷ []) i) ≡ table_size widths i) j
    (λ i h. ap (λ l. length (get_or l i [])) pushed ∙ ap length (get_or_append_left (map (λ (u : Table). u.entries) tables) (t.entries ∷ []) [] i (omega (arith, size))) ∙ each i h)
    (ap (λ l. length (get_or l j [])) pushed ∙ ap length (get_or_push (map (λ (u : Table). u.entries) tables) t.entries [] j (size ∙ long)) ∙ is)

-- a code that stands in each lane stands in the first
pub lane_is : (words : List (List ℕ)) (code : List ℕ) (m : ℕ) → m ≡ length code → length code ≤ length words → ((k : ℕ) (d : List ℕ) → k < length code → get_or words k d ≡ replicate 32 (get_or code k 0))
    → lane_words (take m words) 0 ≡ code
lane_is words code m is le each =
    let first : List ℕ → ℕ = λ row. get_or row 0 0 in
    let long : length (lane_words (take m words) 0) ≡ m = length-map (take m words) first ∙ length-take-le m words (omega arith) in
    same_number_lists (lane_words (take m words) 0) code (long ∙ is) (λ k lt.
    get_or-map first (take m words) k [] 0 (omega (arith, length-take-le m words (omega arith), long))
    ∙ ap first (get_or-take m words k [] (omega (arith, long)) ∙ each k [] (omega (arith, long))))
