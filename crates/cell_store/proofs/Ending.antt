-- Rows that are held, and tests and counts around a row of a list.
use Rattle.cell_store.proofs.Words.{◌≡◌, ℕ, ◌+◌, ◌<◌, Bool, true, false, List, [], ◌∷◌, ◌++◌, length, refl, ap, ◌∙◌, sym, arith, filter, not, ◌||◌, Contains, and_parts, common_steps, append-nil, length-append, filter-append, Kept, never, is_live, is_held, is_needed, is_needed_dead, lives_at, ended, held_rows, filter_yes, filter_no, filter_through}
use Rattle.cell_store.proofs.Keeping.{any_at}

pub or_true : (b : Bool) → (b || true) ≡ true
or_true true = refl
or_true false = refl

pub or_false : (b : Bool) → (b || false) ≡ b
or_false true = refl
or_false false = refl

-- ---- rows that are held

pub live_holds : (pins : List ℕ) (k : Kept) → is_live k ≡ true → is_held pins k ≡ true
live_holds pins k h = ap (λ b. b || is_needed pins k) h

pub dead_holds : (pins : List ℕ) (k : Kept) → is_needed_dead pins k ≡ true → is_held pins k ≡ true
dead_holds pins k h = ap (λ b. is_live k || b) (and_parts (not (is_live k)) (is_needed pins k) h).1 ∙ or_true (is_live k)

pub pin_holds : (pins : List ℕ) (s : ℕ) → Contains pins s → (k : Kept) → lives_at s k ≡ true → is_held pins k ≡ true
pin_holds pins s has k lives = ap (λ b. is_live k || b) (any_at (λ s. lives_at s k) pins has.0 s has.1 (ap (λ n. lives_at n k) has.2 ∙ lives)) ∙ or_true (is_live k)

-- tests that only held rows pass see no more than these
pub same_through : (pins ps : List ℕ) (r : Kept → Bool) (xs ys : List Kept) → ((k : Kept) → r k ≡ true → is_held pins k ≡ true) → ((k : Kept) → r k ≡ true → is_held ps k ≡ true)
    → held_rows pins xs ≡ held_rows ps ys → filter r xs ≡ filter r ys
same_through pins ps r xs ys holds held same = sym (filter_through r (is_held pins) xs holds) ∙ ap (filter r) same ∙ filter_through r (is_held ps) ys held

-- a live row that ends later lived at no stamp less
pub life_before : (stamp s : ℕ) (k : Kept) → s < stamp → s < never → is_live k ≡ true → lives_at s (ended stamp k) ≡ lives_at s k
life_before stamp s k h small live = grind (arith, common_steps)

-- ---- counts

pub count_push : (p : Kept → Bool) (xs : List Kept) (k : Kept) → p k ≡ true → length (filter p (xs ++ k ∷ [])) ≡ length (filter p xs) + 1
count_push p xs k held =
    ap length (filter-append p xs (k ∷ [])) ∙ length-append (filter p xs) (filter p (k ∷ [])) ∙ ap (λ l. length (filter p xs) + length l) (filter_yes p k [] held)

pub count_same : (p : Kept → Bool) (xs : List Kept) (k : Kept) → p k ≡ false → filter p (xs ++ k ∷ []) ≡ filter p xs
count_same p xs k out = filter-append p xs (k ∷ []) ∙ ap (λ l. filter p xs ++ l) (filter_no p k [] out) ∙ append-nil (filter p xs)
