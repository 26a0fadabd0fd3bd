-- What holds of every store, from what its parts obey.
use Rattle.cell_store.proofs.Words.{Store, IsTimed, ◌≡◌, ℕ, zero, suc, ◌+◌, ◌*◌, ◌<◌, ◌≤◌, true, false, List, [], ◌∷◌, length, map, sym, ap, ◌∙◌, subst, arith, inl, inr, length-append, filter, ◌==◌, Some, AllByRecursion, cases_lt, eqb_tells, filter-append, IsCode, Row, Place, Kept, is_live, is_held, rows_at, FewPinned, Rising, rows_for, rows_below, AreFew, IsKept, Table, IsRow, IsStore, put_cause, put_refusal, all_passing, all_weaken, all_both, all_map, Option}
use Rattle.std.specs.List.{IsDistinct}
use Rattle.cell_store.specs.Cells.{all_kept}
use Rattle.cell_store.proofs.StoreLemmas.{put_cause_is}
use Rattle.cell_store.proofs.EndedLemmas.{live_ids}
use Rattle.cell_store.proofs.Merge.{rising-all_kept, all-all_kept}
use Rattle.cell_store.proofs.Steps.{rising_filter}
use Rattle.cell_store.proofs.Index.{Listed, some_place}
use Rattle.cell_store.proofs.Keeping.{all_dated, live_rows_are, live_count_is}
use Rattle.cell_store.proofs.Counts.{length_sorted, held_all, count_below}

-- ---- how many rows all cells keep

below_few : (pins : List ℕ) (rows : ℕ → List Kept) (n : ℕ) → ((c : ℕ) → AreFew pins (rows c)) → length (rows_below rows n) ≤ 2 * length (filter (is_held pins) (rows_below rows n)) + 32 * n
below_few pins rows zero few = omega arith
below_few pins rows (suc n) few = simp (filter-append, length-append) (omega (arith, few n, below_few pins rows n few))

length_all : (rows : ℕ → List Kept) (n : ℕ) → length (all_kept rows n) ≡ length (rows_below rows n)
unfolding all_kept
length_all rows n = length_sorted (rows_below rows n)

module _ (places : ℕ → Option Place) where
  abbrev InPlace : Kept → Type 0
  InPlace k = places k.row.id ≡ Some (record { cell = k.row.cell; born = k.born })

  apart_ids : (x k : Kept) → InPlace x → InPlace k → x.born < k.born → (x.row.id == k.row.id) ≡ false
  apart_ids x k at here less = elim (eqb_tells x.row.id k.row.id) [
    | inl same ↦ absurd (let e : x.born ≡ k.born = ap (λ (p : Place). p.born) (some_place (sym at ∙ ap places same.1 ∙ here)) in omega (arith, e, less))
    | inr off ↦ off.0
  ]

  -- rows that the index lists have ids of their own
  distinct : (xs : List Kept) → Rising xs → AllByRecursion InPlace xs → IsDistinct (λ a b. a == b) (map (λ (row : Row). row.id) (map (λ (k : Kept). k.row) xs))
  unfolding IsDistinct
  distinct [] rises all = tt
  distinct (x ∷ xs) rises all = (
    all_map (λ (i : ℕ). (x.row.id == i) ≡ false) (λ (row : Row). row.id) (map (λ (k : Kept). k.row) xs)
        (all_map (λ (row : Row). (x.row.id == row.id) ≡ false) (λ (k : Kept). k.row) xs
        (all_weaken (λ k. (x.row.id == k.row.id) ≡ false) (λ k. InPlace k × (x.born < k.born)) xs (λ k both. apart_ids x k all.0 both.0 both.1) (all_both InPlace (λ k. x.born < k.born) xs all.1 rises.0))),
    distinct xs rises.1 all.1,
  )

module _ {g cells most stamp live needed : ℕ} {pins : List ℕ} {lists : Table} {places : ℕ → Option Place} (is : IsKept g cells most stamp live needed pins lists places) where
  abbrev pub all : List Kept
  all = all_kept (rows_for lists) cells

  -- each live row is listed
  pub listed_all : AllByRecursion (λ k. is_live k ≡ true → InPlace places k) all
  listed_all = all-all_kept (λ k. is_live k ≡ true → InPlace places k) (rows_for lists) cells (λ c.
      all_weaken (λ k. is_live k ≡ true → InPlace places k) (λ k. Listed places c k × (k.row.cell ≡ c)) (rows_for lists c)
      (λ k both lives. both.0 lives ∙ ap (λ (n : ℕ). Some (let p : Place = record { cell = n; born = k.born } in p)) (sym both.1))
      (all_both (Listed places c) (λ k. k.row.cell ≡ c) (rows_for lists c) (is.index.listed c) (is.are_cells.of_cell c)))

  pub ids_apart : IsDistinct (λ a b. a == b) (live_ids all)
  ids_apart = distinct places (filter is_live all) (rising_filter is_live all (rising-all_kept cells stamp (rows_for lists) is.are_cells)) (all_passing (InPlace places) is_live all listed_all)

  live_apart : IsDistinct (λ a b. a == b) (map (λ (row : Row). row.id) (rows_at stamp all))
  live_apart = subst (λ (rows : List Row). IsDistinct (λ a b. a == b) (map (λ (row : Row). row.id) rows)) (sym (live_rows_are is)) ids_apart

  abbrev pub store_of : Store
  store_of = record { g = g; cells = cells; most = most; kept = all; stamp = stamp; pins = pins }

  pub timed_kept : IsTimed store_of
  timed_kept = record { stamp = is.stamp_small; pins = is.pins_before; dated = all_dated is }

  module _ (widths : List ℕ) (codes : (c : ℕ) → AllByRecursion (λ k. IsCode widths g k.row.code) (rows_for lists c)) (few : FewPinned most pins (all_kept (rows_for lists) cells)) where
    row_is : (c : ℕ) → AllByRecursion (λ k. IsRow widths g cells k.row) (rows_for lists c)
    row_is c = elim (cases_lt c cells) [
      | inl small ↦
          all_weaken (λ k. IsRow widths g cells k.row) (λ k. ((k.row.id ≤ 2147483647) × (k.row.cell ≡ c)) × IsCode widths g k.row.code) (rows_for lists c)
          (λ k all. record { id = all.0.0; cell = subst (λ (n : ℕ). n < cells) (sym all.0.1) small; code = all.1 })
          (all_both (λ k. (k.row.id ≤ 2147483647) × (k.row.cell ≡ c)) (λ k. IsCode widths g k.row.code) (rows_for lists c)
          (all_both (λ k. k.row.id ≤ 2147483647) (λ k. k.row.cell ≡ c) (rows_for lists c) (is.are_cells.ids c) (is.are_cells.of_cell c)) (codes c))
      | inr past ↦ subst (AllByRecursion (λ k. IsRow widths g cells k.row)) (sym (is.are_cells.none_past c past)) tt
    ]

    pub IsStore-kept : IsStore widths (record { g = g; cells = cells; most = most; kept = all_kept (rows_for lists) cells; stamp = stamp; pins = pins })
    IsStore-kept =
        let held = held_all is in
        record {
          g = is.g_small;
          cells = is.cells_small;
          most = is.most_small;
          stamp = is.stamp_small;
          few_pins = is.few_pins;
          pins = is.pins_before;
          rows = all-all_kept (λ k. IsRow widths g cells k.row) (rows_for lists) cells row_is;
          dated = all_dated is;
          rising = rising-all_kept cells stamp (rows_for lists) is.are_cells;
          apart = live_apart;
          few_live = omega (arith, live_count_is is, is.few_live);
          few_pinned = few;
          few_held = omega (arith, held, is.few_needed);
          few_kept =
              omega (
                arith,
                held,
                is.few_needed,
                length_all (rows_for lists) cells,
                below_few pins (rows_for lists) cells is.few,
                count_below (is_held pins) (rows_for lists) cells,
              );
        }

  pub put_cause_kept : (row : Row) → put_cause store_of row ≡ put_refusal store_of row.id
  put_cause_kept row = put_cause_is store_of timed_kept row live_apart
