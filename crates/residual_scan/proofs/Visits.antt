-- The counts of a visit, and its first and its next cell.
use Rattle.std.proofs.Common.{◌≡◌, ◌≢◌, ℕ, zero, suc, ◌+◌, ◌*◌, ◌/◌, ◌%◌, ◌<◌, ◌≤◌, Bool, true, false, cond, List, [], ◌∷◌, ◌++◌, length, take, get_or, refl, sym, ap, subst, ◌∙◌, arith, length-append}
use Rattle.std.specs.Prelude.{◌==◌, nat_lt, Option}
use Rattle.std.specs.List.{AllByRecursion}
use Rattle.std.proofs.lemmas.Bool.{lt-ltb, le-ltb}
use Rattle.std.proofs.lemmas.List.{length-take}
use Rattle.book_model.specs.Book.{Book}
use Rattle.book_model.specs.Order.{Pair, sorted}
use Rattle.book_model.specs.Rows.{Row, rows_in}
use Rattle.book_model.specs.Visit.{rows_of_cells}
use Rattle.book_model.proofs.AllLemmas.{all_filter, all_weaken}
use Rattle.cell_store.specs.State.{Kept, kept_in, passing_at}
use Rattle.cell_store.specs.Held.{IsRow}
use Rattle.cell_store.proofs.ShownLemmas.{kept_in-cell}
use Rattle.best_k.specs.Least.{least}
use Rattle.query_engine.proofs.Passing.{passing-le}
use Rattle.residual_scan.specs.Answer.{is_residual_full, full_in_cell, full_in_cells}
use Rattle.lru.specs.LruCache.{LruCache}
use Rattle.half_tables.specs.Half.{HalfSeen}
use Rattle.residual_scan.specs.Misses.{misses, cell_keys, kept_after, keys_here, keys_in}
use Rattle.residual_scan.specs.Caching.{Stands}
use Rattle.residual_scan.proofs.Tables.{misses-le}

one_le : (b : Bool) → cond b 1 0 ≤ 1
one_le true = omega arith
one_le false = omega arith

module _ (book : Book) (v : List ℕ) (k : ℕ) (rows : List Row) where
  full_le_rows : (before seen rs : List Row) → full_in_cell book v k before seen rs ≤ length rs
  full_le_rows before seen [] = omega arith
  full_le_rows before seen (r ∷ rs) = omega (arith, full_le_rows before (seen ++ r ∷ []) rs, one_le (is_residual_full book v k before seen r))

  -- no more rows are full than are visited
  pub full_le : (seen : List Row) (xs : List Pair) → full_in_cells book v k rows seen xs ≤ length (rows_of_cells rows xs)
  full_le seen [] = omega arith
  full_le seen (x ∷ xs) =
      omega (arith, full_le (seen ++ rows_in x.1 rows) xs, full_le_rows seen seen (rows_in x.1 rows), length-append (rows_in x.1 rows) (rows_of_cells rows xs))

-- a cell uses two keys, and none without a row
here_le : (b : Bool) (a c : ℕ) → length (cond b (a ∷ c ∷ []) []) ≤ 2
here_le true a c = omega arith
here_le false a c = omega arith

pub keys_few : (book : Book) (rows : List Row) (cell : ℕ) → length (keys_here book rows cell) ≤ 2
keys_few book rows cell = here_le (nat_lt 0 (length rows)) (cell / book.k1) (book.k0 + cell % book.k1)

keys_le : (book : Book) (rows : List Row) (xs : List Pair) → length (keys_in book rows xs) ≤ 2 * length xs
keys_le book rows [] = omega arith
keys_le book rows (x ∷ xs) = omega (arith, keys_le book rows xs, keys_few book (rows_in x.1 rows) x.1, length-append (keys_here book (rows_in x.1 rows) x.1) (keys_in book rows xs))

pub keys_some : (book : Book) (rows : List Row) (cell : ℕ) → length rows ≢ 0 → keys_here book rows cell ≡ cell_keys book cell
keys_some book rows cell some = ap (λ b. cond b (cell_keys book cell) []) (lt-ltb 0 (length rows) (omega (arith, some)))

pub keys_none : (book : Book) (rows : List Row) (cell : ℕ) → length rows ≡ 0 → keys_here book rows cell ≡ []
keys_none book rows cell none = ap (λ b. cond b (cell_keys book cell) []) (le-ltb 0 (length rows) (omega (arith, none)))

-- few halves are filled
pub halves_le : (book : Book) (cache : ℕ) (rows : List Row) (order : List Pair) (c : ℕ) → misses cache [] (keys_in book rows (take c order)) ≤ 2 * c
halves_le book cache rows order c =
    omega (arith, misses-le cache [] (keys_in book rows (take c order)), keys_le book rows (take c order), length-take c order)

-- before the first row no pair is held
pub least_none : (k : ℕ) → least k [] ≡ []
unfolding least sorted
least_none zero = refl
least_none (suc k) = refl

-- a cell with a row is one of the store
has_cell : (cell n : ℕ) (ks : List Kept) → length ks ≢ 0 → AllByRecursion (λ (k : Kept). k.row.cell < n) ks → AllByRecursion (λ (k : Kept). k.row.cell ≡ cell) ks → cell < n
has_cell cell n [] some below is = absurd (some refl)
has_cell cell n (k ∷ ks) some below is = subst (λ c. c < n) is.0 below.0

pub cell_below : (widths : List ℕ) (g n cell : ℕ) (ranges : List (ℕ × ℕ)) (stamp : ℕ) (kept : List Kept) → AllByRecursion (λ (k : Kept). IsRow widths g n k.row) kept
    → length (passing_at ranges stamp (kept_in cell kept)) ≢ 0 → cell < n
cell_below widths g n cell ranges stamp kept rows some =
    has_cell cell n (kept_in cell kept) (λ none. some (omega (arith, none, passing-le ranges stamp (kept_in cell kept))))
    (all_weaken (λ (k : Kept). k.row.cell < n) (λ (k : Kept). IsRow widths g n k.row) (kept_in cell kept) (λ k row. row.cell)
    (all_filter (λ (k : Kept). IsRow widths g n k.row) (λ (k : Kept). k.row.cell == cell) kept rows))
    (kept_in-cell cell kept)

-- what stands for the keys that were used, with equal parts
pub stands_as : (book : Book) (v kept : List ℕ) (n cache : ℕ) → n ≡ cache → (keys here : List ℕ) → keys ≡ here → (slots : Option (LruCache ℕ ℕ)) (places places' : List ℕ) → places' ≡ places → (halves halves' : List HalfSeen) → halves' ≡ halves → (old new : ℕ)
    → Stands book v (kept_after n kept keys) slots places halves × (new ≡ old + misses n kept keys) → Stands book v (kept_after cache kept here) slots places' halves' × (new ≡ old + misses cache kept here)
stands_as book v kept n cache n_is keys here keys_is slots places places' places_is halves halves' halves_is old new h = (
  subst (λ (hs : List HalfSeen). Stands book v (kept_after cache kept here) slots places' hs) (sym halves_is)
      (subst (λ (ps : List ℕ). Stands book v (kept_after cache kept here) slots ps halves) (sym places_is)
      (subst (λ (ks : List ℕ). Stands book v (kept_after cache kept ks) slots places halves) keys_is
      (subst (λ (m : ℕ). Stands book v (kept_after m kept keys) slots places halves) n_is h.0))),
  h.1 ∙ ap (λ (m : ℕ). old + misses m kept keys) n_is ∙ ap (λ (ks : List ℕ). old + misses cache kept ks) keys_is,
)

-- an element is the same whatever stands for one past the end
pub same_default : {X : Type 0} (xs : List X) (i : ℕ) (d e : X) → i < length xs → get_or xs i d ≡ get_or xs i e
same_default [] i d e lt = absurd (omega arith)
same_default (x ∷ xs) zero d e lt = refl
same_default (x ∷ xs) (suc i) d e lt = same_default xs i d e (omega arith)
