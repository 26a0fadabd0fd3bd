-- Slots and codes as rows.
use Rattle.cell_store.proofs.Words.{◌≡◌, ℕ, zero, suc, ◌<◌, ◌≤◌, List, [], ◌∷◌, ◌++◌, length, map, take, get_or, set, refl, sym, ap, ◌∙◌, subst, arith, length-map, length-take, Slot, kept_of, rows_of, slot_of, row_at}

module _ (widths : List ℕ) (cell : ℕ) where
  pub slots-rows_of : (slots : List Slot) (codes : List (List ℕ)) → length slots ≤ length codes → map slot_of (rows_of widths cell slots codes) ≡ slots
  slots-rows_of [] codes h = refl
  slots-rows_of (s ∷ slots) [] h = absurd (omega arith)
  slots-rows_of (s ∷ slots) (c ∷ codes) h = ap (λ l. s ∷ l) (slots-rows_of slots codes (omega arith))

  pub length-rows_of : (slots : List Slot) (codes : List (List ℕ)) → length slots ≤ length codes → length (rows_of widths cell slots codes) ≡ length slots
  length-rows_of slots codes h = sym (length-map (rows_of widths cell slots codes) slot_of) ∙ ap length (slots-rows_of slots codes h)

  pub row_at-rows_of : (slots : List Slot) (codes : List (List ℕ)) (i : ℕ) (e : Slot) → i < length slots → length slots ≤ length codes
      → row_at (rows_of widths cell slots codes) i ≡ kept_of widths cell (get_or slots i e) (get_or codes i [])
  row_at-rows_of [] codes i e h room = absurd (omega arith)
  row_at-rows_of (s ∷ slots) [] i e h room = absurd (omega arith)
  row_at-rows_of (s ∷ slots) (c ∷ codes) zero e h room = refl
  row_at-rows_of (s ∷ slots) (c ∷ codes) (suc i) e h room = row_at-rows_of slots codes i e (omega arith) (omega arith)

  pub rows_of-set : (slots : List Slot) (codes : List (List ℕ)) (i : ℕ) (s : Slot) (w : List ℕ)
      → rows_of widths cell (set slots i s) (set codes i w) ≡ set (rows_of widths cell slots codes) i (kept_of widths cell s w)
  rows_of-set [] codes i s w = refl
  rows_of-set (t ∷ slots) [] zero s w = refl
  rows_of-set (t ∷ slots) [] (suc i) s w = refl
  rows_of-set (t ∷ slots) (c ∷ codes) zero s w = refl
  rows_of-set (t ∷ slots) (c ∷ codes) (suc i) s w = ap (λ l. kept_of widths cell t c ∷ l) (rows_of-set slots codes i s w)

  pub rows_of-front : (n : ℕ) (slots : List Slot) (codes : List (List ℕ)) → take n (rows_of widths cell slots codes) ≡ rows_of widths cell (take n slots) (take n codes)
  rows_of-front zero slots codes = refl
  rows_of-front (suc n) [] codes = refl
  rows_of-front (suc n) (s ∷ slots) [] = refl
  rows_of-front (suc n) (s ∷ slots) (c ∷ codes) = ap (λ l. kept_of widths cell s c ∷ l) (rows_of-front n slots codes)

  -- codes past the last slot mean nothing
  pub rows_of-enough : (n : ℕ) (slots : List Slot) (codes : List (List ℕ)) → length slots ≤ n → rows_of widths cell slots codes ≡ rows_of widths cell slots (take n codes)
  rows_of-enough n [] codes h = refl
  rows_of-enough zero (s ∷ slots) codes h = absurd (omega arith)
  rows_of-enough (suc n) (s ∷ slots) [] h = refl
  rows_of-enough (suc n) (s ∷ slots) (c ∷ codes) h = ap (λ l. kept_of widths cell s c ∷ l) (rows_of-enough n slots codes (omega arith))

  pub rows_of-push : (slots : List Slot) (codes : List (List ℕ)) (s : Slot) (w : List ℕ) → length slots < length codes
      → rows_of widths cell (slots ++ s ∷ []) (set codes (length slots) w) ≡ rows_of widths cell slots codes ++ kept_of widths cell s w ∷ []
  rows_of-push [] [] s w h = absurd (omega arith)
  rows_of-push [] (c ∷ codes) s w h = refl
  rows_of-push (t ∷ slots) [] s w h = absurd (omega arith)
  rows_of-push (t ∷ slots) (c ∷ codes) s w h = ap (λ l. kept_of widths cell t c ∷ l) (rows_of-push slots codes s w (omega arith))

  -- the first rows, over codes that begin alike
  pub rows_of-take : (n : ℕ) (slots : List Slot) (codes others : List (List ℕ)) → take n others ≡ take n codes
      → rows_of widths cell (take n slots) others ≡ take n (rows_of widths cell slots codes)
  rows_of-take n slots codes others same =
      rows_of-enough n (take n slots) others (omega (arith, length-take n slots))
      ∙ ap (rows_of widths cell (take n slots)) same
      ∙ sym (rows_of-front n slots codes)

  -- more codes behind those in use
  pub rows_of-kept : (slots : List Slot) (codes more : List (List ℕ)) → length slots ≤ length codes → take (length codes) more ≡ codes
      → rows_of widths cell slots more ≡ rows_of widths cell slots codes
  rows_of-kept slots codes more h same = rows_of-enough (length codes) slots more h ∙ ap (rows_of widths cell slots) same

  pub rows_of-pushed : (slots : List Slot) (codes more : List (List ℕ)) (s : Slot) (w : List ℕ) (at : ℕ) → length slots ≤ length codes
      → take (length codes) more ≡ codes → at ≡ length slots → at < length more
      → rows_of widths cell (slots ++ s ∷ []) (set more at w) ≡ rows_of widths cell slots codes ++ kept_of widths cell s w ∷ []
  rows_of-pushed slots codes more s w at h same place room =
      ap (λ n. rows_of widths cell (slots ++ s ∷ []) (set more n w)) place
      ∙ rows_of-push slots more s w (subst (λ (n : ℕ). n < length more) place room)
      ∙ ap (λ l. l ++ kept_of widths cell s w ∷ []) (rows_of-kept slots codes more h same)
