-- The cells of a store that have a live row.
use Rattle.std.proofs.Common.{◌≡◌, ◌∙◌, ℕ, zero, suc, ◌+◌, Bool, true, false, cond, List, [], ◌∷◌, filter, map, ◌||◌, refl, sym, ap, ap₂}
use Rattle.std.specs.Prelude.{◌==◌, if◌then◌else◌}
use Rattle.std.specs.List.{list_any}
use Rattle.book_model.specs.Sums.{sum_below}
use Rattle.book_model.specs.Rows.{Row}
use Rattle.cell_store.specs.State.{Store, Kept, lives_at, rows_at, kept_in, live_rows, used_count}
use Rattle.adc_program.specs.Rows.{cell_count}

-- one retained row more, that lies in the cell or not, and lives or not
one_more : (here lives : Bool) (k : Kept) (kept living : List Kept) (lv : Kept → Bool) (cl : Row → Bool) → lv k ≡ lives → cl k.row ≡ here → list_any lv kept ≡ list_any cl (map (λ x. x.row) living)
    → list_any lv (cond here (k ∷ kept) kept) ≡ list_any cl (map (λ x. x.row) (cond lives (k ∷ living) living))
one_more true true k kept living lv cl e f h = ap (λ b. b || list_any lv kept) e ∙ sym (ap (λ b. b || list_any cl (map (λ x. x.row) living)) f)
one_more true false k kept living lv cl e f h = ap (λ b. b || list_any lv kept) e ∙ h
one_more false true k kept living lv cl e f h = h ∙ sym (ap (λ b. b || list_any cl (map (λ x. x.row) living)) f)
one_more false false k kept living lv cl e f h = h

-- a row of a cell that lives is a live row of the cell
lives_in : (stamp cell : ℕ) (kept : List Kept) → list_any (lives_at stamp) (kept_in cell kept) ≡ list_any (λ (row : Row). row.cell == cell) (rows_at stamp kept)
lives_in stamp cell [] = refl
lives_in stamp cell (k ∷ kept) =
    one_more (k.row.cell == cell) (lives_at stamp k) k (kept_in cell kept) (filter (lives_at stamp) kept) (lives_at stamp) (λ (row : Row). row.cell == cell) refl refl (lives_in stamp cell kept)

same_sum : (f g : ℕ → ℕ) → ((n : ℕ) → f n ≡ g n) → (n : ℕ) → sum_below n f ≡ sum_below n g
same_sum f g h zero = refl
same_sum f g h (suc n) = ap₂ (λ a b. a + b) (same_sum f g h n) (h n)

pub cell_count_is : (store : Store) → used_count store ≡ cell_count store.cells (live_rows store)
unfolding cell_count
cell_count_is store = same_sum _ _ (λ cell. ap (λ (b : Bool). if b then 1 else 0) (lives_in store.stamp cell store.kept)) store.cells
