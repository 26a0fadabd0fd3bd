-- How many elements of a list pass a test.
use Rattle.cell_store.proofs.Words.{◌≡◌, ℕ, zero, suc, ◌+◌, ◌<◌, ◌≤◌, Bool, true, false, List, [], ◌∷◌, length, get_or, get_or_default, set, refl, sym, ap, ◌∙◌, arith, inl, inr, filter, SomeIndex, nat_lt, ◌==◌, ◌||◌, ◌&&◌, not, list_any, list_all, AllByRecursion, cases_Bool, cases_lt, common_steps, Kept, is_live, is_held, is_needed, slot_is_live, slot_at, AreRising, Slot, Rows, IsTidied, is_needed_dead, rows_in, rows_of, filter_yes, filter_no, filter_all, filter_through, length_filter_le}
use Rattle.cell_store.proofs.FinishLemmas.{length-filter_slots}
use Rattle.cell_store.proofs.RowLemmas.{length-rows_of, slots-rows_of}

module _ {X : Type 0} (p : X → Bool) where
  pub any_counts : (xs : List X) → nat_lt 0 (length (filter p xs)) ≡ list_any p xs
  any_counts [] = refl
  any_counts (x ∷ xs) = grind (arith, common_steps, any_counts xs)

  pub all_counts : (xs : List X) → (length (filter p xs) == length xs) ≡ list_all p xs
  all_counts [] = refl
  all_counts (x ∷ xs) = grind (arith, common_steps, all_counts xs, length_filter_le p xs)

  -- one that passed passes no more
  pub count_ended : (xs : List X) (at : ℕ) (d y : X) → at < length xs → p (get_or xs at d) ≡ true → p y ≡ false → length (filter p (set xs at y)) + 1 ≡ length (filter p xs)
  count_ended [] at d y h was is = absurd (omega (arith, h))
  count_ended (x ∷ xs) zero d y h was is = grind (arith, common_steps)
  count_ended (x ∷ xs) (suc at) d y h was is = grind (arith, common_steps, count_ended xs at d y (omega (arith, h)) was is)

  pub some_counts : (xs : List X) (at : ℕ) (d : X) → at < length xs → p (get_or xs at d) ≡ true → 0 < length (filter p xs)
  some_counts [] at d h was = absurd (omega (arith, h))
  some_counts (x ∷ xs) zero d h was = grind (arith, common_steps)
  some_counts (x ∷ xs) (suc at) d h was = grind (arith, common_steps, some_counts xs at d (omega (arith, h)) was)

-- the live rows of a cell by its slots
pub live_of : (widths : List ℕ) (cell : ℕ) (slots : List Slot) (codes : List (List ℕ)) → length slots ≤ length codes → length (filter is_live (rows_of widths cell slots codes)) ≡ length (filter slot_is_live slots)
live_of widths cell slots codes room = sym (ap (λ (l : List Slot). length (filter slot_is_live l)) (sym (slots-rows_of widths cell slots codes room)) ∙ length-filter_slots slot_is_live (rows_of widths cell slots codes))

pub live_count : (widths : List ℕ) (cell : ℕ) (rows : Rows) → length rows.slots.items ≤ length rows.codes.codes → length (filter slot_is_live rows.slots.items) ≡ length (filter is_live (rows_in widths cell rows))
live_count widths cell rows room = sym (live_of widths cell rows.slots.items rows.codes.codes room)

-- what a view shows of its rows
pub ruleset shown_rows = (length-rows_of, slots-rows_of, live_of)

-- a tidied cell has its live rows
pub tidied_live : (pins : List ℕ) (old new : List Kept) → IsTidied pins old new → length (filter is_live new) ≡ length (filter is_live old)
tidied_live pins old new is = elim is [
  | inl same ↦ ap (λ (l : List Kept). length (filter is_live l)) same
  | inr less ↦ ap (λ (l : List Kept). length (filter is_live l)) less ∙ ap length (filter_through is_live (is_held pins) old (λ k live. ap (λ b. b || is_needed pins k) live))
]

-- live rows are held
pub live_fewer : (pins : List ℕ) (rows : List Kept) → length (filter is_live rows) ≤ length (filter (is_held pins) rows)
live_fewer pins rows =
    let through : filter is_live (filter (is_held pins) rows) ≡ filter is_live rows = filter_through is_live (is_held pins) rows (λ k live. ap (λ b. b || is_needed pins k) live) in
    omega (arith, ap length through, length_filter_le is_live (filter (is_held pins) rows))

-- births that rise are each at one place
pub one_birth : (slots : List Slot) (i j : ℕ) → AreRising slots → i < length slots → j < length slots → (slot_at slots i).born ≡ (slot_at slots j).born → i ≡ j
one_birth slots i j rising a b same = elim (cases_lt i j) [
  | inl low ↦ absurd (let h = rising i j low b in omega (arith, h, same))
  | inr high ↦ elim (cases_lt j i) [ inl above ↦ absurd (let h = rising j i above a in omega (arith, h, same)) | inr here ↦ omega (arith, high, here) ]
]

-- the row of a birth is live where some row of that birth is
pub live_of_birth : (slots : List Slot) (born at : ℕ) → AreRising slots → SomeIndex slots (λ i. ((slot_at slots i).born ≡ born) × (slot_is_live (slot_at slots i) ≡ true))
    → at < length slots → (slot_at slots at).born ≡ born → (e : Slot) → slot_is_live (get_or slots at e) ≡ true
live_of_birth slots born at rising there within found e =
    let same : there.0 ≡ at = one_birth slots there.0 at rising there.1 within (there.2.0 ∙ sym found) in
    ap slot_is_live (get_or_default slots at e (record { id = 0; born = 0; died = 0 }) within) ∙ ap (λ n. slot_is_live (slot_at slots n)) (sym same) ∙ there.2.1

-- ---- cells whose rows are all live

all_pass : {X : Type 0} (p : X → Bool) (xs : List X) → length (filter p xs) ≡ length xs → AllByRecursion (λ x. p x ≡ true) xs
all_pass p [] h = tt
all_pass p (x ∷ xs) h = elim (cases_Bool (p x)) [
  | inl held ↦ (held, all_pass p xs (let e = ap length (filter_yes p x xs held) in omega (arith, h, e)))
  | inr gone ↦ absurd (let e = ap length (filter_no p x xs gone) in omega (arith, h, e, length_filter_le p xs))
]

pub whole_needs : (pins : List ℕ) (rows : List Kept) → length (filter is_live rows) ≡ length rows → filter (is_needed_dead pins) rows ≡ []
whole_needs pins [] all = refl
whole_needs pins (x ∷ xs) all =
    let live = all_pass is_live (x ∷ xs) all in
    filter_no (is_needed_dead pins) x xs (ap (λ b. not b && is_needed pins x) live.0) ∙ whole_needs pins xs (ap length (filter_all is_live xs live.1))
