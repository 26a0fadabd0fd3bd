-- What a store's parts obey after a pin was taken away.
use Rattle.cell_store.proofs.Words.{FewPinned, Option, IsIndex, ◌≡◌, ◌≢◌, ℕ, zero, suc, ◌+◌, ◌-◌, ◌<◌, ◌≤◌, Bool, true, List, [], ◌∷◌, ◌++◌, length, take, get_or, refl, sym, ap, ap₂, ◌∙◌, subst, arith, inl, inr, filter, ◌==◌, remove, AllByRecursion, list_any, cases_lt, length-take-le, get_or-take, same_number_lists, Place, rows_at, Kept, is_live, is_held, is_needed, lives_at, Rising, IsDated, Unpins, all_kept, rows_for, rows_below, AreCells, AreFew, IsKept, is_needed_dead, IsTidied, Table, held_rows, all_filter, all_weaken, all_remove, filter_through, filter_swap, length_filter_less, length_filter_le, common_steps}
use Rattle.std.proofs.lemmas.List.Edits.{length-remove, get_or-remove_below, get_or-remove_above}
use Rattle.cell_store.proofs.Merge.{rising-all_kept, kept_in-all_kept, same_by_cell}
use Rattle.cell_store.proofs.Steps.{rising_filter}
use Rattle.cell_store.proofs.Index.{Listed, LiveAt, live_filtered}
use Rattle.cell_store.proofs.Ending.{live_holds, dead_holds}
use Rattle.cell_store.proofs.Counts.{count_below}
use Rattle.cell_store.proofs.Pinned.{few_through}

pub tidied : (pins : List ℕ) (P : List Kept → Type 0) (old new : List Kept) → IsTidied pins old new → P old → P (filter (is_held pins) old) → P new
tidied pins P old new is a b = elim is [ inl same ↦ subst P (sym same) a | inr less ↦ subst P (sym less) b ]

pub IsIndex-tidied : (pins : List ℕ) (old new : ℕ → List Kept) → ((c : ℕ) → IsTidied pins (old c) (new c)) → (places : ℕ → Option Place) → IsIndex old places → IsIndex new places
IsIndex-tidied pins old new tidy places is = record {
  listed = λ c. tidied pins (AllByRecursion (Listed places c)) (old c) (new c) (tidy c) (is.listed c) (all_filter (Listed places c) (is_held pins) (old c) (is.listed c));
  live = λ id place here.
      let at = is.live id place here in
      tidied pins (λ l. LiveAt l id place.born) (old place.cell) (new place.cell) (tidy place.cell) at (live_filtered (is_held pins) id place.born (live_holds pins) (old place.cell) at);
}

module _ (n stamp : ℕ) (pins : List ℕ) (old new : ℕ → List Kept) (are : AreCells n stamp old) (tidy : (c : ℕ) → IsTidied pins (old c) (new c)) where
  all_tidied : (P : Kept → Type 0) (c : ℕ) → AllByRecursion P (old c) → AllByRecursion P (new c)
  all_tidied P c all = tidied pins (AllByRecursion P) (old c) (new c) (tidy c) all (all_filter P (is_held pins) (old c) all)

  pub AreCells-tidied : AreCells n stamp new
  AreCells-tidied = record {
    of_cell = λ c. all_tidied (λ k. k.row.cell ≡ c) c (are.of_cell c);
    none_past = λ c h. tidied pins (λ l. l ≡ []) (old c) (new c) (tidy c) (are.none_past c h) (ap (filter (is_held pins)) (are.none_past c h));
    rising = λ c. tidied pins Rising (old c) (new c) (tidy c) (are.rising c) (rising_filter (is_held pins) (old c) (are.rising c));
    apart = λ c e differ.
        all_tidied (λ k. AllByRecursion (λ l. k.born ≢ l.born) (new e)) c
        (all_weaken (λ k. AllByRecursion (λ l. k.born ≢ l.born) (new e)) (λ k. AllByRecursion (λ l. k.born ≢ l.born) (old e)) (old c) (λ k h. all_tidied (λ l. k.born ≢ l.born) e h) (are.apart c e differ));
    dated = λ c. all_tidied (IsDated stamp) c (are.dated c);
    ids = λ c. all_tidied (λ k. k.row.id ≤ 2147483647) c (are.ids c);
  }

  -- tests that only held rows pass see no change
  pub tidied_through : (r : Kept → Bool) → ((k : Kept) → r k ≡ true → is_held pins k ≡ true) → filter r (all_kept new n) ≡ filter r (all_kept old n)
  tidied_through r held =
      same_by_cell (filter r (all_kept new n)) (filter r (all_kept old n))
      (rising_filter r (all_kept new n) (rising-all_kept n stamp new AreCells-tidied)) (rising_filter r (all_kept old n) (rising-all_kept n stamp old are))
      (λ c.
      filter_swap (λ k. k.row.cell == c) r (all_kept new n)
      ∙ ap (filter r) (kept_in-all_kept n stamp new AreCells-tidied c)
      ∙ tidied pins (λ l. filter r l ≡ filter r (old c)) (old c) (new c) (tidy c) refl (filter_through r (is_held pins) (old c) held)
      ∙ ap (filter r) (sym (kept_in-all_kept n stamp old are c))
      ∙ filter_swap r (λ k. k.row.cell == c) (all_kept old n))

-- ---- a list with an element less

any_remove : {X : Type 0} (p : X → Bool) (xs : List X) (i : ℕ) → list_any p (remove xs i) ≡ true → list_any p xs ≡ true
any_remove p [] zero h = h
any_remove p [] (suc i) h = h
any_remove p (x ∷ xs) zero h = grind (arith, common_steps)
any_remove p (x ∷ xs) (suc i) h = grind (arith, common_steps, any_remove p xs i)

-- ---- a pin less

fewer : (gone : ℕ) (pins ps : List ℕ) → Unpins gone pins ps → (k : Kept) → is_needed ps k ≡ true → is_needed pins k ≡ true
fewer gone pins ps un k h = any_remove (λ s. lives_at s k) pins un.0 (subst (λ (l : List ℕ). is_needed l k ≡ true) un.3 h)

pub still_held : (gone : ℕ) (pins ps : List ℕ) → Unpins gone pins ps → (k : Kept) → is_held ps k ≡ true → is_held pins k ≡ true
still_held gone pins ps un k h = (let f = fewer gone pins ps un k in grind (arith, common_steps, f))

still_dead : (gone : ℕ) (pins ps : List ℕ) → Unpins gone pins ps → (k : Kept) → is_needed_dead ps k ≡ true → is_needed_dead pins k ≡ true
still_dead gone pins ps un k h = (let f = fewer gone pins ps un k in grind (arith, common_steps, f))

module _ {g cells most stamp live needed : ℕ} {pins : List ℕ} {lists : Table} {places : ℕ → Option Place} (is : IsKept g cells most stamp live needed pins lists places)
    (pins' : List ℕ) (lists' : Table) (tidy : (c : ℕ) → IsTidied pins' (rows_for lists c) (rows_for lists' c)) (gone : ℕ) (un : Unpins gone pins pins') where
  same_through : (r : Kept → Bool) → ((k : Kept) → r k ≡ true → is_held pins' k ≡ true) → filter r (all_kept (rows_for lists') cells) ≡ filter r (all_kept (rows_for lists) cells)
  same_through = tidied_through cells stamp pins' (rows_for lists) (rows_for lists') is.are_cells tidy

  pub IsKept-unpinned : (count : ℕ) → count ≡ length (filter (is_needed_dead pins') (rows_below (rows_for lists') cells)) → lists'.g ≡ g → length pins' ≤ 64
      → ((c : ℕ) → AreFew pins' (rows_for lists' c)) → IsKept g cells most stamp live count pins' lists' places
  IsKept-unpinned count counted are few_pins few =
      let needed' : count ≡ length (filter (is_needed_dead pins') (all_kept (rows_for lists') cells)) = counted ∙ sym (count_below (is_needed_dead pins') (rows_for lists') cells) in
      let less : length (filter (is_needed_dead pins') (all_kept (rows_for lists) cells)) ≤ length (filter (is_needed_dead pins) (all_kept (rows_for lists) cells)) =
      length_filter_less (is_needed_dead pins') (is_needed_dead pins) (all_kept (rows_for lists) cells) (still_dead gone pins pins' un) in
      record {
        g_small = is.g_small;
        cells_small = is.cells_small;
        most_small = is.most_small;
        stamp_small = is.stamp_small;
        are_cells = AreCells-tidied cells stamp pins' (rows_for lists) (rows_for lists') is.are_cells tidy;
        g_is = are;
        index = IsIndex-tidied pins' (rows_for lists) (rows_for lists') tidy places is.index;
        live_count = is.live_count ∙ ap length (sym (same_through is_live (live_holds pins')));
        needed_count = needed';
        few_live = is.few_live;
        few_needed = omega (arith, is.few_needed, is.needed_count, needed', ap length (same_through (is_needed_dead pins') (dead_holds pins')), less);
        few_pins = few_pins;
        pins_before = subst (AllByRecursion (λ s. s ≤ stamp)) (sym un.3) (all_remove (λ s. s ≤ stamp) pins un.0 is.pins_before);
        few = few;
      }

  pub unpinned_held : held_rows pins' (all_kept (rows_for lists') cells) ≡ held_rows pins' (all_kept (rows_for lists) cells)
  unpinned_held = same_through (is_held pins') (λ k h. h)

  pub unpinned_few : FewPinned most pins (all_kept (rows_for lists) cells) → FewPinned most pins' (all_kept (rows_for lists') cells)
  unpinned_few few = few_through most pins' (all_kept (rows_for lists) cells) (all_kept (rows_for lists') cells) (all_kept (rows_for lists) cells) unpinned_held (λ s has. refl)
      (subst (λ (ps : List ℕ). FewPinned most ps (all_kept (rows_for lists) cells)) (sym un.3) (all_remove (λ s. length (rows_at s (all_kept (rows_for lists) cells)) ≤ most) pins un.0 few))

-- ---- the rows of the first cells, and what a cell that has none is

pub below_upto : (old new : ℕ → List Kept) (n : ℕ) → ((c : ℕ) → c < n → new c ≡ old c) → rows_below new n ≡ rows_below old n
below_upto old new zero same = refl
below_upto old new (suc n) same = ap₂ (λ (xs ys : List Kept). xs ++ ys) (below_upto old new n (λ c h. same c (omega arith))) (same n (omega arith))

pub few_none : (pins : List ℕ) (rows : List Kept) → rows ≡ [] → AreFew pins rows
few_none pins rows none = subst (AreFew pins) (sym none) (omega arith)

-- as few needed rows as the cell had rows
pub settled_few : (pins : List ℕ) (old new was : List Kept) (count : ℕ) → count ≡ length (filter (is_needed_dead pins) new) → IsTidied pins old new → old ≡ was → length was ≤ 16777248 → count ≤ 16777248
settled_few pins old new was count counted tidy same few = omega (arith, counted, length_filter_le (is_needed_dead pins) new, tidied pins (λ l. length l ≤ length old) old new tidy (omega arith) (length_filter_le (is_held pins) old), ap length same, few)

-- ---- pins that were closed up

pub closed_up : (old new : List ℕ) (at n : ℕ) → at < n → n ≤ length old → length new ≡ length old → ((k : ℕ) → k < at → get_or new k 0 ≡ get_or old k 0)
    → ((k : ℕ) → at ≤ k → k + 1 < n → get_or new k 0 ≡ get_or old (k + 1) 0) → take (n - 1) new ≡ remove (take n old) at
closed_up old new at n h room size before behind =
    let front : length (take n old) ≡ n = length-take-le n old room in
    let less : length (take (n - 1) new) ≡ n - 1 = length-take-le (n - 1) new (omega arith) in
    let here : at < length (take n old) = omega arith in
    let one : length (remove (take n old) at) + 1 ≡ length (take n old) = length-remove (take n old) at here in
    same_number_lists (take (n - 1) new) (remove (take n old) at) (omega arith) (λ k small.
    let below : k < n - 1 = omega arith in
    get_or-take (n - 1) new k 0 below
    ∙ elim (cases_lt k at) [
      | inl low ↦ before k low ∙ sym (get_or-remove_below (take n old) at 0 k low here ∙ get_or-take n old k 0 (omega arith))
      | inr high ↦ behind k high (omega arith) ∙ sym (get_or-remove_above (take n old) at 0 k high here ∙ get_or-take n old (k + 1) 0 (omega arith))
    ])
