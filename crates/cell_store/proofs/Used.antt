-- How many cells have a live row.
use Rattle.cell_store.proofs.Words.{◌≡◌, ◌≢◌, ℕ, zero, suc, ◌+◌, ◌<◌, ◌≤◌, Bool, true, false, List, [], ◌∷◌, ◌++◌, sym, ap, ◌∙◌, arith, inl, inr, ◌||◌, if◌then◌else◌, eqb_tells, list_any, sum_below, Place, Kept, is_live, lives_at, kept_in, used_count, IsDated, used_in, used_below, rows_for, all_kept, IsKept, IsTidied, Table, all_weaken, list_any-append, cases_Bool, sum_below-same, sum_below-zero, nat_lt, Option}
use Rattle.cell_store.proofs.Counting.{any_counts, tidied_live}
use Rattle.cell_store.proofs.Ending.{or_true}
use Rattle.cell_store.proofs.Keeping.{lives_now}
use Rattle.cell_store.proofs.Counts.{cell_is}
use Rattle.cell_store.proofs.Putting.{any_same}

pub used_few : (rows : ℕ → List Kept) (n : ℕ) → used_below rows n ≤ n
used_few rows zero = omega arith
used_few rows (suc n) = elim (cases_Bool (list_any is_live (rows n))) [ inl some ↦ simp some (omega (arith, used_few rows n)) | inr none ↦ simp none (omega (arith, used_few rows n)) ]

pub used_none : (rows : ℕ → List Kept) (n : ℕ) → ((c : ℕ) → rows c ≡ []) → used_below rows n ≡ 0
used_none rows n none = sum_below-same n (used_in rows) (λ c. 0) (λ c h. ap (λ l. if list_any is_live l then 1 else 0) (none c)) ∙ sum_below-zero n

-- where one term changes, the sum does by as much
sum_changed : (f g : ℕ → ℕ) (n at : ℕ) → at < n → ((c : ℕ) → c ≢ at → g c ≡ f c) → sum_below n g + f at ≡ sum_below n f + g at
sum_changed f g zero at h others = absurd (omega arith)
sum_changed f g (suc n) at h others = elim (eqb_tells n at) [
  | inl here ↦ omega (arith, sum_below-same n g f (λ c small. others c (λ same. (let e : n ≡ at = here.1 in omega arith))), ap f here.1, ap g here.1)
  | inr off ↦ omega (arith, sum_changed f g n at (let e : n ≢ at = off.1 in omega arith) others, others n off.1)
]

pub used_changed : (old new : ℕ → List Kept) (n cell : ℕ) → cell < n → ((c : ℕ) → c ≢ cell → new c ≡ old c) → used_below new n + used_in old cell ≡ used_below old n + used_in new cell
used_changed old new n cell h others = sum_changed (used_in old) (used_in new) n cell h (λ c differ. ap (λ l. if list_any is_live l then 1 else 0) (others c differ))

-- a cell whose last row is live
pub used_last : (rows : ℕ → List Kept) (cell : ℕ) (xs : List Kept) (k : Kept) → rows cell ≡ xs ++ k ∷ [] → is_live k ≡ true → used_in rows cell ≡ 1
used_last rows cell xs k own live =
    ap (λ l. if list_any is_live l then 1 else 0) own
    ∙ ap (λ (b : Bool). if b then 1 else 0) (list_any-append is_live xs (k ∷ []) ∙ ap (λ b. list_any is_live xs || (b || false)) live ∙ or_true (list_any is_live xs))

-- a tidied cell has a live row where it had one
tidied_any : (pins : List ℕ) (old new : List Kept) → IsTidied pins old new → list_any is_live new ≡ list_any is_live old
tidied_any pins old new is = sym (any_counts is_live new) ∙ ap (nat_lt 0) (tidied_live pins old new is) ∙ any_counts is_live old

pub used_tidied : (pins : List ℕ) (old new : ℕ → List Kept) (n : ℕ) → ((c : ℕ) → IsTidied pins (old c) (new c)) → used_below new n ≡ used_below old n
used_tidied pins old new n tidy = sum_below-same n (used_in new) (used_in old) (λ c h. ap (λ (b : Bool). if b then 1 else 0) (tidied_any pins (old c) (new c) (tidy c)))

pub used_is : {g cells most stamp live needed : ℕ} {pins : List ℕ} {lists : Table} {places : ℕ → Option Place} (is : IsKept g cells most stamp live needed pins lists places)
    → used_below (rows_for lists) cells ≡ used_count (record { g = g; cells = cells; most = most; kept = all_kept (rows_for lists) cells; stamp = stamp; pins = pins })
used_is {cells = cells} {stamp = stamp} {lists = lists} is =
    sum_below-same cells (used_in (rows_for lists)) (λ cell. if list_any (lives_at stamp) (kept_in cell (all_kept (rows_for lists) cells)) then 1 else 0) (λ c h.
    ap (λ (b : Bool). if b then 1 else 0)
    (any_same is_live (lives_at stamp) (rows_for lists c) (all_weaken (λ k. is_live k ≡ lives_at stamp k) (IsDated stamp) (rows_for lists c) (λ k d. sym (lives_now stamp k is.stamp_small d)) (is.are_cells.dated c))
    ∙ ap (list_any (lives_at stamp)) (sym (cell_is is c))))
