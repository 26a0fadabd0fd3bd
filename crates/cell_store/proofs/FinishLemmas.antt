-- A row in the middle of a list, and births along slots.
use Rattle.cell_store.proofs.Words.{◌≡◌, ℕ, zero, suc, ◌<◌, ◌≤◌, Bool, List, [], ◌∷◌, length, map, take, drop, set, sym, ◌∙◌, arith, filter, Some, get_or-map, length-map, take_all, Slot, Kept, Rising, slot_at, AreRising, row_at, no_row, slot_of, ended, is_needed, IsTidied, AreFew, Ends, set-get_or, set_split, all_at, filter_of_map}

-- a row of a cell that ends
pub ends_at : {born now : ℕ} {pins : List ℕ} {rows new : List Kept} {needed : Bool} (at : ℕ) → at < length rows → (row_at rows at).born ≡ born → IsTidied pins (set rows at (ended now (row_at rows at))) new
    → needed ≡ is_needed pins (ended now (row_at rows at)) → AreFew pins new → Ends born now pins rows new needed
ends_at {now = now} {rows = rows} at here born tidied needed few = record {
  front = take at rows;
  row = row_at rows at;
  back = drop (suc at) rows;
  was = sym (set-get_or rows at no_row) ∙ set_split rows at (row_at rows at) here;
  at = born;
  is = rw (set_split rows at (ended now (row_at rows at)) here) at tidied;
  needed_is = needed;
  few = few;
}

pub rising_at : (xs : List Kept) (i j : ℕ) → Rising xs → i < j → j < length xs → (row_at xs i).born < (row_at xs j).born
rising_at [] i j h order here = absurd (omega arith)
rising_at (x ∷ xs) i zero h order here = absurd (omega arith)
rising_at (x ∷ xs) zero (suc j) h order here = all_at (λ l. x.born < l.born) xs j no_row h.0 (omega arith)
rising_at (x ∷ xs) (suc i) (suc j) h order here = rising_at xs i j h.1 (omega arith) (omega arith)

pub slot_at-map : (xs : List Kept) (i : ℕ) → i < length xs → slot_at (map slot_of xs) i ≡ slot_of (row_at xs i)
slot_at-map xs i h = get_or-map slot_of xs i no_row (record { id = 0; born = 0; died = 0 }) h

pub slots_rise : (xs : List Kept) → Rising xs → AreRising (map slot_of xs)
slots_rise xs h = λ i j order here.
    let second : j < length xs = omega (arith, length-map xs slot_of) in
    rw (slot_at-map xs i (omega arith), slot_at-map xs j second) (rising_at xs i j h order second)

pub length-filter_slots : (p : Slot → Bool) (xs : List Kept) → length (filter p (map slot_of xs)) ≡ length (filter (λ k. p (slot_of k)) xs)
length-filter_slots p xs = simp (filter_of_map, length-map)

pub some_same : {X : Type 0} {x y : X} → Some x ≡ Some y → x ≡ y
some_same e = cc

-- ---- stretches of lists

pub take_whole : {X : Type 0} (n m : ℕ) (xs : List X) → length xs ≤ n → length xs ≤ m → take n xs ≡ take m xs
take_whole n m xs h k = take_all n xs h ∙ sym (take_all m xs k)
