-- How many rows live at a pinned stamp.
use Rattle.cell_store.proofs.Words.{Store, IsHeldStamp, map, lives_at, held_rows, ◌∙◌, ◌≡◌, ℕ, ◌≤◌, List, [], ◌∷◌, ◌++◌, length, get_or, sym, ap, subst, arith, inl, inr, ◌⊎◌, Contains, Contains-get_or, in_ranges, Place, Kept, rows_at, passing_at, FewPinned, rows_for, all_kept, IsKept, Table, all_at, all_push, all_by_index, length_filter_le, Option}
use Rattle.cell_store.proofs.Keeping.{all_kept_same, live_count_is}
use Rattle.cell_store.proofs.Ending.{same_through, pin_holds}

-- the rows at each pinned stamp are those that the held rows tell
pub few_through : (most : ℕ) (pins : List ℕ) (old new model : List Kept) → held_rows pins new ≡ held_rows pins model → ((s : ℕ) → Contains pins s → rows_at s model ≡ rows_at s old) → FewPinned most pins old → FewPinned most pins new
few_through most pins old new model held stay few = all_by_index (λ s. length (rows_at s new) ≤ most) pins 0 (λ n h.
    let has = Contains-get_or pins n 0 h in
    let same : rows_at (get_or pins n 0) new ≡ rows_at (get_or pins n 0) old = ap (map (λ (k : Kept). k.row)) (same_through pins pins (lives_at (get_or pins n 0)) new model (pin_holds pins (get_or pins n 0) has) (pin_holds pins (get_or pins n 0) has) held) ∙ stay (get_or pins n 0) has in
    omega (arith, ap length same, all_at (λ s. length (rows_at s old) ≤ most) pins n 0 few h))

-- each cell has the rows that it had
pub few_same : (most : ℕ) (pins : List ℕ) (old new : ℕ → List Kept) (cells : ℕ) → ((c : ℕ) → new c ≡ old c) → FewPinned most pins (all_kept old cells) → FewPinned most pins (all_kept new cells)
few_same most pins old new cells same few = subst (FewPinned most pins) (sym (all_kept_same old new same cells)) few

module _ {g cells most stamp live needed : ℕ} {pins : List ℕ} {lists : Table} {places : ℕ → Option Place} (is : IsKept g cells most stamp live needed pins lists places)
    (few : FewPinned most pins (all_kept (rows_for lists) cells)) where
  few_now : length (rows_at stamp (all_kept (rows_for lists) cells)) ≤ most
  few_now = omega (arith, live_count_is is, is.few_live)

  -- the present stamp is pinned too
  pub few_pushed : FewPinned most (pins ++ stamp ∷ []) (all_kept (rows_for lists) cells)
  few_pushed = all_push (λ s. length (rows_at s (all_kept (rows_for lists) cells)) ≤ most) pins stamp few few_now

  few_rows : (s : ℕ) → (s ≡ stamp) ⊎ Contains pins s → length (rows_at s (all_kept (rows_for lists) cells)) ≤ most
  few_rows s held = elim held [
    | inl now ↦ subst (λ (t : ℕ). length (rows_at t (all_kept (rows_for lists) cells)) ≤ most) (sym now) few_now
    | inr pin ↦
        subst (λ (n : ℕ). length (rows_at n (all_kept (rows_for lists) cells)) ≤ most) pin.2 (all_at (λ n. length (rows_at n (all_kept (rows_for lists) cells)) ≤ most) pins pin.0 s few pin.1)
  ]

  -- told of the store as it is seen
  pub few_held : {t : Store} → record { g = g; cells = cells; most = most; kept = all_kept (rows_for lists) cells; stamp = stamp; pins = pins } ≡ t → (ranges : List (ℕ × ℕ)) (s : ℕ) → IsHeldStamp t s
      → length (passing_at ranges s t.kept) ≤ t.most
  few_held same ranges s = subst (λ (v : Store). IsHeldStamp v s → length (passing_at ranges s v.kept) ≤ v.most) same
      (λ held. omega (arith, length_filter_le (λ row. in_ranges ranges row.id) (rows_at s (all_kept (rows_for lists) cells)), few_rows s held))

  pub few_passing : {t : Store} → record { g = g; cells = cells; most = most; kept = all_kept (rows_for lists) cells; stamp = stamp; pins = pins } ≡ t → (ranges : List (ℕ × ℕ)) (s : ℕ) → IsHeldStamp t s
      → length (passing_at ranges s t.kept) ≤ 8388608
  few_passing {t} same ranges s held = omega (arith, few_held same ranges s held, ap (λ (v : Store). v.most) same, is.most_small.1)
