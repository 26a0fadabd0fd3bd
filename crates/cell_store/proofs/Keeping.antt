-- What a store's parts tell of its rows: which live, which ids are there, and how many.
use Rattle.cell_store.proofs.Words.{is_row_of, and_parts, ◌≡◌, ◌≢◌, ℕ, zero, suc, ◌+◌, ◌*◌, ◌^◌, ◌<◌, ◌≤◌, Bool, true, false, List, [], ◌∷◌, ◌++◌, length, map, get_or, refl, sym, ap, ap₂, ◌∙◌, subst, arith, inl, inr, filter, ◌==◌, not, ◌||◌, ◌&&◌, Some, None, Option, is_some, nat_le, if◌then◌else◌, AllByRecursion, list_any, cases_Bool, common_steps, length-map, has_id, Place, Kept, is_live, is_needed, lives_at, rows_at, IsDated, row_at, no_row, rows_below, rows_for, AreCells, IsIndex, AreFew, IsKept, is_needed_dead, Table, insert_refusal, InsertRefusal, all_weaken, filter_same}
pub use Rattle.std.proofs.lemmas.Bool.{eq-eqb, eqb-true}
use Rattle.book_model.specs.Order.{sorted}
use Rattle.cell_store.specs.Cells.{all_kept}
use Rattle.cell_store.specs.declared.InsertRefusal.TheVariants.{Present, Full, Held}
use Rattle.cell_store.proofs.Merge.{kept_in-all_kept, all-all_kept}
use Rattle.cell_store.proofs.Index.{Listed}

-- ---- what lives now

pub lives_now : (stamp : ℕ) (k : Kept) → stamp ≤ 2 ^ 62 → IsDated stamp k → lives_at stamp k ≡ is_live k
lives_now stamp k small d = (let b = d.born in let e = d.died in grind (arith, common_steps))

pub live_now : (stamp : ℕ) (all : List Kept) → stamp ≤ 2 ^ 62 → AllByRecursion (IsDated stamp) all → filter (lives_at stamp) all ≡ filter is_live all
live_now stamp all small dated = filter_same (lives_at stamp) is_live all (all_weaken (λ k. lives_at stamp k ≡ is_live k) (IsDated stamp) all (λ k d. lives_now stamp k small d) dated)

pub needed_now : (stamp : ℕ) (pins : List ℕ) (all : List Kept) → stamp ≤ 2 ^ 62 → AllByRecursion (IsDated stamp) all
    → filter (λ k. not (lives_at stamp k) && is_needed pins k) all ≡ filter (is_needed_dead pins) all
needed_now stamp pins all small dated =
    filter_same (λ k. not (lives_at stamp k) && is_needed pins k) (is_needed_dead pins) all
    (all_weaken (λ k. (not (lives_at stamp k) && is_needed pins k) ≡ is_needed_dead pins k) (IsDated stamp) all (λ k d. ap (λ b. not b && is_needed pins k) (lives_now stamp k small d)) dated)

-- ---- whether an id is live

pub any_row : (id : ℕ) (xs : List Kept) → list_any (λ row. row.id == id) (map (λ k. k.row) (filter is_live xs)) ≡ list_any (is_row_of id) xs
any_row id [] = refl
any_row id (x ∷ xs) = elim (cases_Bool (is_live x)) [ inl live ↦ simp (live, any_row id xs) | inr dead ↦ simp (dead, any_row id xs) ]

pub any_at : {X : Type 0} (p : X → Bool) (xs : List X) (at : ℕ) (d : X) → at < length xs → p (get_or xs at d) ≡ true → list_any p xs ≡ true
any_at p [] at d h is = absurd (omega arith)
any_at p (x ∷ xs) zero d h is = ap (λ b. b || list_any p xs) is
any_at p (x ∷ xs) (suc at) d h is = grind (arith, common_steps, any_at p xs at d (omega arith) is)

pub any_of_some : {X : Type 0} (p q : X → Bool) (xs : List X) → list_any p (filter q xs) ≡ true → list_any p xs ≡ true
any_of_some p q [] h = h
any_of_some p q (x ∷ xs) h = grind (arith, common_steps, any_of_some p q xs)

pub any_same : {X : Type 0} (p q : X → Bool) (xs : List X) → AllByRecursion (λ x. p x ≡ q x) xs → list_any p xs ≡ list_any q xs
any_same p q [] all = refl
any_same p q (x ∷ xs) all = ap₂ (λ (a b : Bool). a || b) all.0 (any_same p q xs all.1)

pub none_of : {X : Type 0} (p : X → Bool) (xs : List X) → AllByRecursion (λ x. p x ≡ false) xs → list_any p xs ≡ false
none_of p [] all = refl
none_of p (x ∷ xs) all = ap₂ (λ (a b : Bool). a || b) all.0 (none_of p xs all.1)

pub eq_false : (a b : ℕ) → a ≢ b → (a == b) ≡ false
eq_false a b h = grind (arith, common_steps)

pub is_row : (id : ℕ) (k : Kept) → is_live k ≡ true → k.row.id ≡ id → is_row_of id k ≡ true
is_row id k lives same = ap₂ (λ (a b : Bool). a && b) lives (eq-eqb k.row.id id same)

pub row_id : (id : ℕ) (k : Kept) → is_row_of id k ≡ true → (is_live k ≡ true) × (k.row.id ≡ id)
row_id id k h = (let both = and_parts (is_live k) (k.row.id == id) h in (both.0, eqb-true k.row.id id both.1))

pub no_row_of : (id : ℕ) (k : Kept) → (is_live k ≡ true → k.row.id ≢ id) → is_row_of id k ≡ false
no_row_of id k other = elim (cases_Bool (is_live k)) [ inl lives ↦ ap₂ (λ (a b : Bool). a && b) lives (eq_false k.row.id id (other lives)) | inr dead ↦ ap (λ b. b && (k.row.id == id)) dead ]

module _ (n stamp : ℕ) (rows : ℕ → List Kept) (places : ℕ → Option Place) (are : AreCells n stamp rows) (index : IsIndex rows places) where
  pub has_live : (id : ℕ) (found : Option Place) → places id ≡ found → list_any (is_row_of id) (all_kept rows n) ≡ is_some found
  has_live id None is = none_of (is_row_of id) (all_kept rows n) (all-all_kept (λ k. is_row_of id k ≡ false) rows n (λ c.
      all_weaken (λ k. is_row_of id k ≡ false) (Listed places c) (rows c)
      (λ k listed. no_row_of id k (λ live same. (let e : Some (record { cell = c; born = k.born }) ≡ None = sym (listed live) ∙ ap places same ∙ is in cc))) (index.listed c)))
  has_live id (Some place) is =
      let at = index.live id place is in
      any_of_some (is_row_of id) (λ k. k.row.cell == place.cell) (all_kept rows n)
      (ap (list_any (is_row_of id)) (kept_in-all_kept n stamp rows are place.cell)
      ∙ any_at (is_row_of id) (rows place.cell) at.0 no_row at.1 (is_row id (row_at (rows place.cell) at.0) at.4 at.3))

module _ {g cells most stamp live needed : ℕ} {pins : List ℕ} {lists : Table} {places : ℕ → Option Place} (is : IsKept g cells most stamp live needed pins lists places) where
  pub all_dated : AllByRecursion (IsDated stamp) (all_kept (rows_for lists) cells)
  all_dated = all-all_kept (IsDated stamp) (rows_for lists) cells is.are_cells.dated

  pub live_rows_are : rows_at stamp (all_kept (rows_for lists) cells) ≡ map (λ k. k.row) (filter is_live (all_kept (rows_for lists) cells))
  live_rows_are = ap (map (λ (k : Kept). k.row)) (live_now stamp (all_kept (rows_for lists) cells) is.stamp_small all_dated)

  pub live_count_is : length (rows_at stamp (all_kept (rows_for lists) cells)) ≡ live
  live_count_is = ap length live_rows_are ∙ length-map (filter is_live (all_kept (rows_for lists) cells)) (λ k. k.row) ∙ sym is.live_count

  pub needed_count_is : length (filter (λ k. not (lives_at stamp k) && is_needed pins k) (all_kept (rows_for lists) cells)) ≡ needed
  needed_count_is = ap length (needed_now stamp pins (all_kept (rows_for lists) cells) is.stamp_small all_dated) ∙ sym is.needed_count

  pub has_id_is : (id : ℕ) → has_id (rows_at stamp (all_kept (rows_for lists) cells)) id ≡ is_some (places id)
  has_id_is id =
      ap (λ l. has_id l id) live_rows_are
      ∙ any_row id (all_kept (rows_for lists) cells)
      ∙ has_live cells stamp (rows_for lists) places is.are_cells is.index id (places id) refl

-- ---- a store that keeps nothing

module _ (lists : Table) (none : (c : ℕ) → rows_for lists c ≡ []) where
  no_rows : rows_for lists ≡ (λ c. [])
  no_rows = λ i c. none c i

  below_none : (n : ℕ) → rows_below (λ c. []) n ≡ []
  below_none zero = refl
  below_none (suc n) = ap (λ (xs : List Kept). xs ++ []) (below_none n)

  pub all_none : (n : ℕ) → all_kept (rows_for lists) n ≡ []
  unfolding all_kept sorted
  all_none n = ap (λ r. all_kept r n) no_rows ∙ ap (sorted _) (below_none n)

  pub IsKept-empty : (g cells most : ℕ) (places : ℕ → Option Place) → ((q : ℕ) → places q ≡ None) → lists.g ≡ g → (1 ≤ g) × (g ≤ 32) → (1 ≤ cells) × (cells ≤ 1048576) → (1 ≤ most) × (most ≤ 4194304)
      → IsKept g cells most 0 0 0 [] lists places
  IsKept-empty g cells most places empty g_is g_small cells_small most_small = record {
    g_small = g_small;
    cells_small = cells_small;
    most_small = most_small;
    stamp_small = omega arith;
    are_cells = subst (AreCells cells 0) (sym no_rows) (record { of_cell = λ c. tt; none_past = λ c h. refl; rising = λ c. tt; apart = λ c e differ. tt; dated = λ c. tt; ids = λ c. tt });
    g_is = g_is;
    index = subst (λ (r : ℕ → List Kept). IsIndex r places) (sym no_rows)
        (record { listed = λ c. tt; live = λ id place here. absurd (let e : Some place ≡ None = sym here ∙ empty id in cc) });
    live_count = sym (ap (λ l. length (filter is_live l)) (all_none cells));
    needed_count = sym (ap (λ l. length (filter (is_needed_dead []) l)) (all_none cells));
    few_live = omega arith;
    few_needed = omega arith;
    few_pins = omega arith;
    pins_before = tt;
    few = λ c. subst (AreFew []) (sym (none c)) (omega arith);
  }

abbrev pub first_cause : ℕ → Bool → ℕ → ℕ → Option InsertRefusal
first_cause most there live needed = if there then Some Present else (if nat_le most live then Some Full else (if nat_le (2 * most) (live + needed) then Some Held else None))

-- ---- a store whose maps answer as before

pub all_kept_same : (old new : ℕ → List Kept) → ((c : ℕ) → new c ≡ old c) → (n : ℕ) → all_kept new n ≡ all_kept old n
all_kept_same old new same n = ap (λ (r : ℕ → List Kept). all_kept r n) (λ i c. same c i)

module _ {g cells most stamp live needed : ℕ} {pins : List ℕ} {lists : Table} {places : ℕ → Option Place} (is : IsKept g cells most stamp live needed pins lists places) where
  pub IsKept-same : (lists' : Table) (places' : ℕ → Option Place) → ((c : ℕ) → rows_for lists' c ≡ rows_for lists c) → lists'.g ≡ g
      → ((q : ℕ) → places' q ≡ places q) → IsKept g cells most stamp live needed pins lists' places'
  IsKept-same lists' places' same are rest =
      let rows : rows_for lists' ≡ rows_for lists = (λ i c. same c i) in
      let keys : places' ≡ places = (λ i q. rest q i) in
      record {
        g_small = is.g_small;
        cells_small = is.cells_small;
        most_small = is.most_small;
        stamp_small = is.stamp_small;
        are_cells = subst (AreCells cells stamp) (sym rows) is.are_cells;
        g_is = are;
        index = subst (λ (r : ℕ → List Kept). IsIndex r places') (sym rows) (subst (IsIndex (rows_for lists)) (sym keys) is.index);
        live_count = is.live_count ∙ ap (λ (r : ℕ → List Kept). length (filter is_live (all_kept r cells))) (sym rows);
        needed_count = is.needed_count ∙ ap (λ (r : ℕ → List Kept). length (filter (is_needed_dead pins) (all_kept r cells))) (sym rows);
        few_live = is.few_live;
        few_needed = is.few_needed;
        few_pins = is.few_pins;
        pins_before = is.pins_before;
        few = λ c. subst (AreFew pins) (sym (same c)) (is.few c);
      }

  -- the cause for which an insert is refused, told from the counts
  pub refusal_is : (id : ℕ) → insert_refusal (record { g = g; cells = cells; most = most; kept = all_kept (rows_for lists) cells; stamp = stamp; pins = pins }) id
      ≡ first_cause most (is_some (places id)) live needed
  refusal_is id =
      ap (λ b. first_cause most b (length (rows_at stamp (all_kept (rows_for lists) cells))) (length (filter (λ k. not (lives_at stamp k) && is_needed pins k) (all_kept (rows_for lists) cells))))
      (has_id_is is id)
      ∙ ap₂ (λ (l n : ℕ). first_cause most (is_some (places id)) l n)
      (live_count_is is) (needed_count_is is)
