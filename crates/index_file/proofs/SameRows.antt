-- The live rows of a store by rising cell may stand in an index.
use Rattle.std.proofs.Common.{◌≡◌, ℕ, zero, suc, ◌+◌, ◌*◌, ◌<◌, ◌≤◌, List, [], ◌∷◌, ◌++◌, map, Ok, refl, sym, ap, subst, ◌∙◌, arith, inl, inr}
use Rattle.std.specs.Prelude.{◌==◌}
use Rattle.std.specs.List.{flat_map, range_with_len, AllByRecursion}
use Rattle.std.specs.List.Sorted.{IsPermutation}
use Rattle.std.proofs.lemmas.Bool.{cases_eq, cases_lt, eq-eqb, ne_eqb}
use Rattle.std.proofs.lemmas.List.Concat.{flat_map-cons}
use Rattle.std.proofs.lemmas.List.Elements.{All-from_recursion, recursion_from_All}
use Rattle.std.proofs.lemmas.List.Sorted.{IsPermutation-refl, IsPermutation-sym, IsPermutation-trans, IsPermutation-cons, IsPermutation-map, IsPermutation-append_left, IsPermutation-middle, All-permutation}
use Rattle.std.proofs.lemmas.Map.Keys.{IsDistinct-IsPermutation}
use Rattle.book_model.specs.Book.{Book, IsGood}
use Rattle.book_model.specs.Rows.{Row, rows_in}
use Rattle.book_model.proofs.AllLemmas.{all_append}
use Rattle.cell_store.specs.State.{Store, live_rows}
use Rattle.cell_store.specs.Held.{IsRow, IsStore}
use Rattle.index_file.specs.Spelling.{by_cell, index_bytes}
use Rattle.index_file.specs.Reading.{index_outcome}
use Rattle.index_file.specs.Laws.{AreByCell, AreIndexed}
use Rattle.index_file.proofs.Groups.{all_in, yes, no, flat_map_below, by_cell_count}
use Rattle.index_file.proofs.Groupings.{higher, in_cell, run_by_cell}
use Rattle.index_file.proofs.Members.{live_all, rows_within}
use Rattle.index_file.proofs.Indexes.{are_read}

-- a row of a later cell changes nothing in the cells before
skipped : (n : ℕ) (row : Row) (rows : List Row) → n ≤ row.cell → by_cell n (row ∷ rows) ≡ by_cell n rows
skipped zero row rows le = refl
skipped (suc n) row rows le =
    flat_map_below (λ cell. rows_in cell (row ∷ rows)) n
    ∙ ap (λ (l : List Row). l ++ rows_in n (row ∷ rows)) (skipped n row rows (omega (arith, le)))
    ∙ ap (λ (l : List Row). by_cell n rows ++ l) (no (λ (r : Row). r.cell == n) row rows (ne_eqb row.cell n (λ e. omega (arith, le, e))))
    ∙ sym (flat_map_below (λ cell. rows_in cell rows) n)

one_moves : (n : ℕ) (row : Row) (rows : List Row) → row.cell < n → IsPermutation (row ∷ by_cell n rows) (by_cell n (row ∷ rows))
one_moves zero row rows lt = absurd (omega (arith, lt))
one_moves (suc n) row rows lt =
    subst (λ (l : List Row). IsPermutation (row ∷ l) (by_cell (suc n) (row ∷ rows))) (sym (flat_map_below (λ cell. rows_in cell rows) n))
    (subst (λ (l : List Row). IsPermutation (row ∷ (by_cell n rows ++ rows_in n rows)) l) (sym (flat_map_below (λ cell. rows_in cell (row ∷ rows)) n)) (elim (cases_eq row.cell n) [
      | inl is ↦
          let here : rows_in n (row ∷ rows) ≡ row ∷ rows_in n rows = yes (λ (r : Row). r.cell == n) row rows (eq-eqb row.cell n is) in
          let others : by_cell n (row ∷ rows) ≡ by_cell n rows = skipped n row rows (omega (arith, is)) in
          subst (λ (l : List Row). IsPermutation (row ∷ (by_cell n rows ++ rows_in n rows)) (l ++ rows_in n (row ∷ rows))) (sym others)
          (subst (λ (l : List Row). IsPermutation (row ∷ (by_cell n rows ++ rows_in n rows)) (by_cell n rows ++ l)) (sym here) (IsPermutation-sym _ _ (IsPermutation-middle (by_cell n rows) row (rows_in n rows))))
      | inr other ↦
          let here : rows_in n (row ∷ rows) ≡ rows_in n rows = no (λ (r : Row). r.cell == n) row rows (ne_eqb row.cell n other) in
          subst (λ (l : List Row). IsPermutation (row ∷ (by_cell n rows ++ rows_in n rows)) (by_cell n (row ∷ rows) ++ l)) (sym here)
          (IsPermutation-append_left (rows_in n rows) (row ∷ by_cell n rows) (by_cell n (row ∷ rows)) (one_moves n row rows (lower row.cell n lt other)))
    ]))
  where
    lower : (a b : ℕ) → a < suc b → (a ≡ b → ⊥) → a < b
    lower a b lt ne = elim (cases_lt a b) [ inl less ↦ less | inr ge ↦ absurd (ne (omega (arith, lt, ge))) ]

nothing : (n : ℕ) → by_cell n [] ≡ []
nothing zero = refl
nothing (suc n) = flat_map_below (λ cell. rows_in cell []) n ∙ ap (λ (l : List Row). l ++ []) (nothing n)

-- the same rows in another order
by_cell_moves : (n : ℕ) (rows : List Row) → AllByRecursion (λ r. r.cell < n) rows → IsPermutation rows (by_cell n rows)
by_cell_moves n [] all = subst (λ (l : List Row). IsPermutation [] l) (sym (nothing n)) (IsPermutation-refl [])
by_cell_moves n (row ∷ rows) all = IsPermutation-trans (row ∷ rows) (row ∷ by_cell n rows) (by_cell n (row ∷ rows)) (IsPermutation-cons row rows (by_cell n rows) (by_cell_moves n rows all.1)) (one_moves n row rows all.0)

-- ---- their cells do not fall

abbrev cells_on : List Row → ℕ → ℕ → List Row
cells_on rows a n = flat_map (λ cell. rows_in cell rows) (range_with_len a n)

from_cell : (rows : List Row) (n a : ℕ) → AllByRecursion (λ r. a ≤ r.cell) (cells_on rows a n)
from_cell rows zero a = tt
from_cell rows (suc n) a = subst (λ (l : List Row). AllByRecursion (λ r. a ≤ r.cell) l) (sym (flat_map-cons (λ cell. rows_in cell rows) a (range_with_len (a + 1) n)))
    (all_append (λ r. a ≤ r.cell) (rows_in a rows) (cells_on rows (a + 1) n) (in_cell a a (rows_in a rows) (omega arith) (all_in a rows)) (higher a (a + 1) (cells_on rows (a + 1) n) (omega arith) (from_cell rows n (a + 1))))

in_order : (rows : List Row) (n a : ℕ) → AreByCell (cells_on rows a n)
in_order rows zero a = tt
in_order rows (suc n) a = subst AreByCell (sym (flat_map-cons (λ cell. rows_in cell rows) a (range_with_len (a + 1) n)))
    (run_by_cell a (rows_in a rows) (cells_on rows (a + 1) n) (all_in a rows) (higher a (a + 1) (cells_on rows (a + 1) n) (omega arith) (from_cell rows n (a + 1))) (in_order rows n (a + 1)))

-- ---- a store's rows

same_test : (a b : ℕ) → (a == b) ≡ (b == a)
same_test a b = elim (cases_eq a b) [ inl is ↦ eq-eqb a b is ∙ sym (eq-eqb b a (sym is)) | inr other ↦ ne_eqb a b other ∙ sym (ne_eqb b a (λ e. other (sym e))) ]

pub rows_indexed : (book : Book) (store : Store) → IsStore book.widths store → store.g ≡ book.g → store.cells ≡ book.k0 * book.k1 → AreIndexed book (by_cell store.cells (live_rows store))
rows_indexed book store is g cells =
    let rows = live_rows store in
    let moves = by_cell_moves store.cells rows (rows_within book.widths store is) in
    let each : AllByRecursion (IsRow book.widths store.g store.cells) rows = live_all (IsRow book.widths store.g store.cells) store.stamp store.kept is.rows in
    let all : AllByRecursion (IsRow book.widths store.g store.cells) (by_cell store.cells rows) =
    recursion_from_All (IsRow book.widths store.g store.cells) (by_cell store.cells rows)
    (All-permutation (IsRow book.widths store.g store.cells) rows (by_cell store.cells rows) moves (All-from_recursion (IsRow book.widths store.g store.cells) rows each)) in
    record {
      few = omega (arith, by_cell_count store.cells rows (rows_within book.widths store is), is.few_live, is.most);
      each = subst (λ (n : ℕ). AllByRecursion (IsRow book.widths book.g n) (by_cell store.cells rows)) cells (subst (λ (n : ℕ). AllByRecursion (IsRow book.widths n store.cells) (by_cell store.cells rows)) g all);
      apart = IsDistinct-IsPermutation (λ a b. a == b) same_test (map (λ (r : Row). r.id) rows) (map (λ (r : Row). r.id) (by_cell store.cells rows))
          (IsPermutation-map (λ (r : Row). r.id) rows (by_cell store.cells rows) moves) is.apart;
      ordered = in_order rows store.cells 0;
    }

-- an index of a store's rows is read again
pub read_again : (widths : List ℕ) (book : Book) (store : Store) → book.widths ≡ widths → IsGood book → IsStore widths store → store.g ≡ book.g → store.cells ≡ book.k0 * book.k1
    → index_outcome (index_bytes book (by_cell store.cells (live_rows store))) ≡ Ok (record { book = book; rows = by_cell store.cells (live_rows store) })
read_again widths book store same good is g cells =
    let of_book : IsStore book.widths store = subst (λ (w : List ℕ). IsStore w store) (sym same) is in
    (are_read book (by_cell store.cells (live_rows store)) good (rows_indexed book store of_book g cells)).1
