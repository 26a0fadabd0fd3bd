-- How many rows of a store pass a test.
use Rattle.cell_store.proofs.Words.{length_filter_le, filter_same, filter_swap, ◌≡◌, ℕ, zero, suc, ◌+◌, ◌*◌, ◌<◌, ◌≤◌, Bool, true, false, List, [], ◌∷◌, ◌++◌, length, refl, sym, ap, ap₂, ◌∙◌, subst, arith, add-one, inl, inr, length-append, filter, ◌==◌, ◌||◌, Some, None, Option, IfSome, MatchOption, AllByRecursion, is_gt, cases_Bool, cases_lt, common_steps, length-map, filter-append, in_ranges, Place, Kept, is_live, is_held, is_needed, lives_at, kept_in, passing_at, IsNextCell, IsDated, slot_passes, CellRows, slot_of, rows_for, rows_below, born_cmp, IsKept, is_needed_dead, Table, all_weaken, all_push, all_both, list_any-append}
use Rattle.book_model.specs.Order.{sorted, placed}
use Rattle.book_model.proofs.Sorting.{placed-gt, placed-le}
use Rattle.cell_store.specs.Cells.{all_kept}
use Rattle.cell_store.proofs.Merge.{filter_sorted, kept_in-all_kept, all-all_kept}
use Rattle.cell_store.proofs.Keeping.{lives_now, all_dated, live_count_is}

pub held_split : (pins : List ℕ) (xs : List Kept) → length (filter (is_held pins) xs) ≡ length (filter is_live xs) + length (filter (is_needed_dead pins) xs)
held_split pins [] = refl
held_split pins (x ∷ xs) = grind (arith, common_steps, held_split pins xs)

length_placed : (x : Kept) (ys : List Kept) → length (placed born_cmp x ys) ≡ suc (length ys)
length_placed x [] = refl
length_placed x (y ∷ ys) = elim (cases_Bool (is_gt (born_cmp x y))) [ inl gt ↦ ap length (placed-gt born_cmp x y ys gt) ∙ ap suc (length_placed x ys) | inr le ↦ ap length (placed-le born_cmp x y ys le) ]

pub length_sorted : (xs : List Kept) → length (sorted born_cmp xs) ≡ length xs
unfolding sorted
length_sorted [] = refl
length_sorted (x ∷ xs) = length_placed x (sorted born_cmp xs) ∙ ap suc (length_sorted xs)

-- as many rows pass cell by cell
pub count_below : (p : Kept → Bool) (rows : ℕ → List Kept) (n : ℕ) → length (filter p (all_kept rows n)) ≡ length (filter p (rows_below rows n))
unfolding all_kept
count_below p rows n = ap length (filter_sorted p (rows_below rows n)) ∙ length_sorted (filter p (rows_below rows n))

below_more : (p : Kept → Bool) (rows : ℕ → List Kept) (n : ℕ) → length (filter p (rows_below rows (suc n))) ≡ length (filter p (rows_below rows n)) + length (filter p (rows n))
below_more p rows n = ap length (filter-append p (rows_below rows n) (rows n)) ∙ length-append (filter p (rows_below rows n)) (filter p (rows n))

-- cells that have no rows add nothing
below_same : (p : Kept → Bool) (rows : ℕ → List Kept) (from n : ℕ) → from ≤ n → ((c : ℕ) → from ≤ c → c < n → rows c ≡ []) → length (filter p (rows_below rows n)) ≡ length (filter p (rows_below rows from))
below_same p rows from zero h none = ap (λ n. length (filter p (rows_below rows n))) {x = zero} {y = from} (omega arith)
below_same p rows from (suc n) h none = elim (cases_lt n from) [
  | inl past ↦ ap (λ n. length (filter p (rows_below rows n))) {x = suc n} {y = from} (omega arith)
  | inr here ↦ omega (arith, below_more p rows n, ap (λ l. length (filter p l)) (none n here (omega arith)), below_same p rows from n here (λ c a b. none c a (omega arith)))
]

pub below_next : (p : Kept → Bool) (rows : ℕ → List Kept) (from cell : ℕ) → from ≤ cell → ((c : ℕ) → from ≤ c → c < cell → rows c ≡ [])
    → length (filter p (rows_below rows (cell + 1))) ≡ length (filter p (rows_below rows from)) + length (filter p (rows cell))
below_next p rows from cell h none = rw add-one (omega (arith, below_more p rows cell, below_same p rows from cell h none))

pub below_end : (p : Kept → Bool) (rows : ℕ → List Kept) (from n : ℕ) → from ≤ n → ((c : ℕ) → from ≤ c → rows c ≡ []) → length (filter p (rows_below rows n)) ≡ length (filter p (rows_below rows from))
below_end p rows from n h none = below_same p rows from n h (λ c a b. none c a)

pub below_grows : (p : Kept → Bool) (rows : ℕ → List Kept) (from n : ℕ) → from ≤ n → length (filter p (rows_below rows from)) ≤ length (filter p (rows_below rows n))
below_grows p rows from zero h = omega (arith, ap (λ n. length (filter p (rows_below rows n))) {x = from} {y = zero} (omega arith))
below_grows p rows from (suc n) h = elim (cases_lt n from) [
  | inl past ↦ omega (arith, ap (λ n. length (filter p (rows_below rows n))) {x = from} {y = suc n} (omega arith))
  | inr here ↦ omega (arith, below_grows p rows from n here, below_more p rows n)
]

-- ---- the rows that pass

pub passing_count : (ranges : List (ℕ × ℕ)) (stamp : ℕ) (xs : List Kept) → length (passing_at ranges stamp xs) ≡ length (filter (λ k. slot_passes ranges stamp (slot_of k)) xs)
passing_count ranges stamp [] = refl
passing_count ranges stamp (x ∷ xs) = grind (arith, common_steps, passing_count ranges stamp xs)

module _ {g cells most stamp live needed : ℕ} {pins : List ℕ} {lists : Table} {places : ℕ → Option Place} (is : IsKept g cells most stamp live needed pins lists places) where
  pub cell_is : (c : ℕ) → kept_in c (all_kept (rows_for lists) cells) ≡ rows_for lists c
  cell_is c = kept_in-all_kept cells stamp (rows_for lists) is.are_cells c

  pub held_all : length (filter (is_held pins) (all_kept (rows_for lists) cells)) ≡ live + needed
  held_all = held_split pins (all_kept (rows_for lists) cells) ∙ ap₂ (λ (a b : ℕ). a + b) (sym is.live_count) (sym is.needed_count)

  pub held_here : (c : ℕ) → length (filter (is_held pins) (rows_for lists c)) ≤ live + needed
  held_here c =
      let own = ap (λ l. length (filter (is_held pins) l)) (cell_is c) in
      let swapped = ap length (filter_swap (λ l. l.row.cell == c) (is_held pins) (all_kept (rows_for lists) cells)) in
      omega (arith, held_all, own, swapped, length_filter_le (λ l. l.row.cell == c) (filter (is_held pins) (all_kept (rows_for lists) cells)))

  pub few_here : (c : ℕ) → length (rows_for lists c) ≤ 16777248
  few_here c = (let a : length (rows_for lists c) ≤ 2 * length (filter (is_held pins) (rows_for lists c)) + 32 = is.few c in let b = held_here c in let d = is.few_needed in let e = is.most_small.1 in omega arith)

  pub held_in_is : (c : ℕ) → length (filter (λ k. lives_at stamp k || is_needed pins k) (kept_in c (all_kept (rows_for lists) cells))) ≡ length (filter (is_held pins) (rows_for lists c))
  held_in_is c =
      ap (λ l. length (filter (λ k. lives_at stamp k || is_needed pins k) l)) (cell_is c)
      ∙ ap length (filter_same (λ k. lives_at stamp k || is_needed pins k) (is_held pins) (rows_for lists c)
      (all_weaken (λ k. (lives_at stamp k || is_needed pins k) ≡ is_held pins k) (IsDated stamp) (rows_for lists c) (λ k d. ap (λ b. b || is_needed pins k) (lives_now stamp k is.stamp_small d)) (is.are_cells.dated c)))

  pub few_kept_is : (c : ℕ) → length (kept_in c (all_kept (rows_for lists) cells)) ≤ 2 * length (filter (λ k. lives_at stamp k || is_needed pins k) (kept_in c (all_kept (rows_for lists) cells))) + 32
  few_kept_is c = (let a = ap length (cell_is c) in let b = held_in_is c in let d : length (rows_for lists c) ≤ 2 * length (filter (is_held pins) (rows_for lists c)) + 32 = is.few c in omega arith)

  -- what a cell has, as it is shown
  pub shown_rows : (c : ℕ) (o : Option CellRows) → MatchOption o (rows_for lists c ≡ []) (λ view. (view ≡ record { cell = c; g = lists.g; rows = rows_for lists c }) × (0 < length view.rows))
      → MatchOption o (kept_in c (all_kept (rows_for lists) cells) ≡ []) (λ view. (view ≡ record { cell = c; g = g; rows = kept_in c (all_kept (rows_for lists) cells) }) × (0 < length view.rows))
  shown_rows c None here = cell_is c ∙ here
  shown_rows c (Some r) here = (here.0 ∙ ap₂ (λ (n : ℕ) (l : List Kept). let x : CellRows = record { cell = c; g = n; rows = l } in x) is.g_is (sym (cell_is c)), here.1)

  pub shown_few : (c : ℕ) (o : Option CellRows) → MatchOption o (rows_for lists c ≡ []) (λ view. (view ≡ record { cell = c; g = lists.g; rows = rows_for lists c }) × (0 < length view.rows)) → IfSome o (λ view. length view.rows ≤ 16777248)
  shown_few c None here = tt
  shown_few c (Some r) here = omega (arith, few_here c, ap (λ (v : CellRows). length v.rows) here.0)

  pub shown_ids : (c : ℕ) (o : Option CellRows) → MatchOption o (rows_for lists c ≡ []) (λ view. (view ≡ record { cell = c; g = lists.g; rows = rows_for lists c }) × (0 < length view.rows))
      → IfSome o (λ view. AllByRecursion (λ k. k.row.id ≤ 2147483647) view.rows)
  shown_ids c None here = tt
  shown_ids c (Some r) here = subst (λ (v : CellRows). AllByRecursion (λ k. k.row.id ≤ 2147483647) v.rows) (sym here.0) (is.are_cells.ids c)

  pub shown_born : (c : ℕ) (o : Option CellRows) → MatchOption o (rows_for lists c ≡ []) (λ view. (view ≡ record { cell = c; g = lists.g; rows = rows_for lists c }) × (0 < length view.rows))
      → IfSome o (λ view. AllByRecursion (λ k. k.born ≤ stamp) view.rows)
  shown_born c None here = tt
  shown_born c (Some r) here =
      all_weaken (λ k. k.born ≤ stamp) (IsDated stamp) r.rows (λ k d. d.born) (subst (λ (v : CellRows). AllByRecursion (IsDated stamp) v.rows) (sym here.0) (is.are_cells.dated c))

  small_cell : (c : ℕ) → 0 < length (rows_for lists c) → c < cells
  small_cell c h = elim (cases_lt c cells) [
    | inl small ↦ small
    | inr past ↦ absurd (omega (arith, h, ap length (is.are_cells.none_past c past)))
  ]

  pub next_is : (from : ℕ) (o : Option ℕ)
      → MatchOption o ((c : ℕ) → from ≤ c → rows_for lists c ≡ []) (λ cell. (from ≤ cell) × (0 < length (rows_for lists cell)) × ((c : ℕ) → from ≤ c → c < cell → rows_for lists c ≡ []))
      → IsNextCell (record { g = g; cells = cells; most = most; kept = all_kept (rows_for lists) cells; stamp = stamp; pins = pins }) from o
  next_is from None none = λ c h. cell_is c ∙ none c h
  next_is from (Some cell) m =
      let some : 0 < length (rows_for lists cell) = m.1 in
      (m.0, small_cell cell some, subst (λ (l : List Kept). 0 < length l) (sym (cell_is cell)) some, λ c a b. cell_is c ∙ m.2 c a b)

  pub counted : (ranges : List (ℕ × ℕ)) (s : ℕ) → length (filter (λ k. slot_passes ranges s (slot_of k)) (rows_below (rows_for lists) cells)) ≡ length (passing_at ranges s (all_kept (rows_for lists) cells))
  counted ranges s = sym (count_below (λ k. slot_passes ranges s (slot_of k)) (rows_for lists) cells) ∙ sym (passing_count ranges s (all_kept (rows_for lists) cells))

  -- where all ids pass, all live rows do
  pub all_pass : (ranges : List (ℕ × ℕ)) → ((id : ℕ) → id ≤ 2147483647 → in_ranges ranges id ≡ true) → length (passing_at ranges stamp (all_kept (rows_for lists) cells)) ≡ live
  all_pass ranges every =
      passing_count ranges stamp (all_kept (rows_for lists) cells)
      ∙ ap length (filter_same (λ k. slot_passes ranges stamp (slot_of k)) (lives_at stamp) (all_kept (rows_for lists) cells)
      (all_weaken (λ k. slot_passes ranges stamp (slot_of k) ≡ lives_at stamp k) (λ k. k.row.id ≤ 2147483647) (all_kept (rows_for lists) cells)
      (λ k small. let h = every k.row.id small in grind (arith, common_steps))
      (all-all_kept (λ k. k.row.id ≤ 2147483647) (rows_for lists) cells is.are_cells.ids)))
      ∙ sym (length-map (filter (lives_at stamp) (all_kept (rows_for lists) cells)) (λ k. k.row))
      ∙ live_count_is is

  -- and so do those of a cell
  pub cell_pass : (ranges : List (ℕ × ℕ)) → ((id : ℕ) → id ≤ 2147483647 → in_ranges ranges id ≡ true) → (c : ℕ) → length (passing_at ranges stamp (rows_for lists c)) ≡ length (filter is_live (rows_for lists c))
  cell_pass ranges every c =
      passing_count ranges stamp (rows_for lists c)
      ∙ ap length (filter_same (λ k. slot_passes ranges stamp (slot_of k)) is_live (rows_for lists c)
      (all_weaken (λ k. slot_passes ranges stamp (slot_of k) ≡ is_live k) (λ k. (k.row.id ≤ 2147483647) × IsDated stamp k) (rows_for lists c)
      (λ k both. let h = every k.row.id both.0 in let l = lives_now stamp k is.stamp_small both.1 in grind (arith, common_steps))
      (all_both (λ k. k.row.id ≤ 2147483647) (IsDated stamp) (rows_for lists c) (is.are_cells.ids c) (is.are_cells.dated c))))

  -- a pin of the present stamp makes no dead row needed
  pinned_needs : (k : Kept) → IsDated stamp k → is_live k ≡ false → is_needed (pins ++ stamp ∷ []) k ≡ is_needed pins k
  pinned_needs k d dead =
      let any = list_any-append (λ s. lives_at s k) pins (stamp ∷ []) in
      let now = lives_now stamp k is.stamp_small d in
      grind (arith, common_steps)

  pub IsKept-pinned : length pins < 64 → IsKept g cells most stamp live needed (pins ++ stamp ∷ []) lists places
  IsKept-pinned room = record {
    g_small = is.g_small;
    cells_small = is.cells_small;
    most_small = is.most_small;
    stamp_small = is.stamp_small;
    are_cells = is.are_cells;
    g_is = is.g_is;
    index = is.index;
    live_count = is.live_count;
    few_live = is.few_live;
    few_needed = is.few_needed;
    needed_count = is.needed_count ∙ ap length (sym (filter_same (is_needed_dead (pins ++ stamp ∷ [])) (is_needed_dead pins) (all_kept (rows_for lists) cells)
        (all_weaken (λ k. is_needed_dead (pins ++ stamp ∷ []) k ≡ is_needed_dead pins k) (IsDated stamp) (all_kept (rows_for lists) cells) (λ k d. let h = pinned_needs k d in grind (arith, common_steps)) (all_dated is))));
    few_pins = omega (arith, length-append pins (stamp ∷ []));
    pins_before = all_push (λ s. s ≤ stamp) pins stamp is.pins_before (omega arith);
    few = λ c.
        let same : filter (is_held (pins ++ stamp ∷ [])) (rows_for lists c) ≡ filter (is_held pins) (rows_for lists c) =
        filter_same (is_held (pins ++ stamp ∷ [])) (is_held pins) (rows_for lists c) (all_weaken (λ k. is_held (pins ++ stamp ∷ []) k ≡ is_held pins k) (IsDated stamp) (rows_for lists c) (λ k d. let h = pinned_needs k d in grind (arith, common_steps)) (is.are_cells.dated c)) in
        subst (λ (l : List Kept). length (rows_for lists c) ≤ 2 * length l + 32) (sym same) (is.few c);
  }
