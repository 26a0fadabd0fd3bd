-- What the table of ids tells of the rows.
use Rattle.cell_store.proofs.Words.{◌≡◌, ◌≤◌, ℕ, ◌<◌, List, arith, all_at, no_row, sym, subst, refl, Some, None, Option, is_some, Place, Kept, rows_for, Table, IsIndex}
use Rattle.std.specs.FinMap as fin
use Rattle.id_table.specs.Table.{Places}
use Rattle.cell_store.specs.Groups.{IsGrouped, IsIndexed}
use Rattle.cell_store.proofs.Keeping.{IsKept-same}
use Rattle.cell_store.proofs.Grouped.{none_grouped, listed_too, grouped_same}

module _ {g cells most stamp live needed : ℕ} {pins : List ℕ} {lists : Table} {ids : Places} (is : IsIndexed g cells most stamp live needed pins lists ids) where
  -- the table answers as the index
  pub there_is : (id : ℕ) → is_some (fin.get ids id) ≡ is_some (is.places id)
  there_is id = listed_too (rows_for lists) id (is.places id) (fin.get ids id) (is.grouped id)

  pub free_is : (id : ℕ) → fin.get ids id ≡ None → is.places id ≡ None
  free_is id none = none_grouped (rows_for lists) id (is.places id) (fin.get ids id) (is.grouped id) none

  -- the row that was found
  pub found_is : (id : ℕ) (found : Option Place) → ((places : ℕ → Option Place) → IsIndex (rows_for lists) places → IsGrouped (rows_for lists) places ids → found ≡ places id) → is.places id ≡ found
  found_is id found finds = sym (finds is.places is.kept.index is.grouped)

  pub IsIndexed-same : (lists' : Table) (ids' : Places) → ((c : ℕ) → rows_for lists' c ≡ rows_for lists c) → lists'.g ≡ g → ids' ≡ ids → IsIndexed g cells most stamp live needed pins lists' ids'
  IsIndexed-same lists' ids' same g_is again = record {
    places = is.places;
    kept = IsKept-same is.kept lists' is.places same g_is (λ q. refl);
    grouped = subst (IsGrouped (rows_for lists') is.places) (sym again) (grouped_same (rows_for lists') (rows_for lists) is.places ids is.grouped same);
  }

  -- no live row has a larger id
  large_place : (id : ℕ) → 2147483647 < id → (o : Option Place) → is.places id ≡ o → o ≡ None
  large_place id large None here = refl
  large_place id large (Some place) here =
      let at = is.kept.index.live id place here in
      absurd (let small = all_at (λ (k : Kept). k.row.id ≤ 2147483647) (rows_for lists place.cell) at.0 no_row (is.kept.are_cells.ids place.cell) at.1 in omega (arith, small, at.3, large))

  pub large_none : (id : ℕ) → 2147483647 < id → is.places id ≡ None
  large_none id large = large_place id large (is.places id) refl
