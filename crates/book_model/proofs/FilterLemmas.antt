-- What a filter keeps of a list.
use Rattle.std.proofs.Common.{◌≡◌, ℕ, ◌≤◌, ◌<◌, Bool, true, false, cond, not, List, [], ◌∷◌, length, map, filter, refl, sym, ap, ap₂, ◌∙◌, subst, arith, inl, inr}
use Rattle.std.specs.List.{AllByRecursion, list_any}
use Rattle.std.proofs.lemmas.Bool.{cases_Bool}

module _ {X : Type 0} (p : X → Bool) where
  -- at an element that passes, and at one that does not
  pub filter_yes : (x : X) (xs : List X) → p x ≡ true → filter p (x ∷ xs) ≡ x ∷ filter p xs
  filter_yes x xs h = ap (λ b. cond b (x ∷ filter p xs) (filter p xs)) h

  pub filter_no : (x : X) (xs : List X) → p x ≡ false → filter p (x ∷ xs) ≡ filter p xs
  filter_no x xs h = ap (λ b. cond b (x ∷ filter p xs) (filter p xs)) h

  pub filter_all : (xs : List X) → AllByRecursion (λ x. p x ≡ true) xs → filter p xs ≡ xs
  filter_all [] all = refl
  filter_all (x ∷ xs) all = filter_yes x xs all.0 ∙ ap (λ l. x ∷ l) (filter_all xs all.1)

  pub filter_of_map : {Y : Type 0} (f : Y → X) (ys : List Y) → filter p (map f ys) ≡ map f (filter (λ y. p (f y)) ys)
  filter_of_map f [] = refl
  filter_of_map f (y ∷ ys) = elim (cases_Bool (p (f y))) [
    | inl kept ↦ simp (kept, filter_of_map f ys)
    | inr left ↦ simp (left, filter_of_map f ys)
  ]

  pub length_filter_le : (xs : List X) → length (filter p xs) ≤ length xs
  length_filter_le [] = omega arith
  length_filter_le (x ∷ xs) = elim (cases_Bool (p x)) [
    | inl kept ↦ simp kept (omega (arith, length_filter_le xs))
    | inr left ↦ simp left (omega (arith, length_filter_le xs))
  ]

-- two tests that agree on a list keep the same of it
pub filter_same : {X : Type 0} (p q : X → Bool) (xs : List X) → AllByRecursion (λ x. p x ≡ q x) xs → filter p xs ≡ filter q xs
filter_same p q [] all = refl
filter_same p q (x ∷ xs) all = ap₂ (λ (b : Bool) l. cond b (x ∷ l) l) all.0 (filter_same p q xs all.1)

-- a filter that lets through what another one keeps
pub filter_through : {X : Type 0} (r q : X → Bool) (xs : List X) → ((x : X) → r x ≡ true → q x ≡ true) → filter r (filter q xs) ≡ filter r xs
filter_through r q [] f = refl
filter_through r q (x ∷ xs) f = elim (cases_Bool (q x)) [
  | inl kept ↦ ap (filter r) (filter_yes q x xs kept) ∙ ap (λ l. cond (r x) (x ∷ l) l) (filter_through r q xs f)
  | inr left ↦
      let out : r x ≡ false = elim (cases_Bool (r x)) [ inl in' ↦ (let e : q x ≡ true = f x in' in cc) | inr out' ↦ out' ] in
      ap (filter r) (filter_no q x xs left) ∙ filter_through r q xs f ∙ sym (filter_no r x xs out)
]

pub filter_swap : {X : Type 0} (p q : X → Bool) (xs : List X) → filter p (filter q xs) ≡ filter q (filter p xs)
filter_swap p q [] = refl
filter_swap p q (x ∷ xs) = elim (cases_Bool (p x)) [
  | inl px ↦ elim (cases_Bool (q x)) [
    | inl qx ↦ ap (filter p) (filter_yes q x xs qx) ∙ filter_yes p x (filter q xs) px ∙ ap (λ l. x ∷ l) (filter_swap p q xs) ∙ sym (filter_yes q x (filter p xs) qx) ∙ ap (filter q) (sym (filter_yes p x xs px))
    | inr qx ↦ ap (filter p) (filter_no q x xs qx) ∙ filter_swap p q xs ∙ sym (filter_no q x (filter p xs) qx) ∙ ap (filter q) (sym (filter_yes p x xs px))
  ]
  | inr px ↦ elim (cases_Bool (q x)) [
    | inl qx ↦ ap (filter p) (filter_yes q x xs qx) ∙ filter_no p x (filter q xs) px ∙ filter_swap p q xs ∙ ap (filter q) (sym (filter_no p x xs px))
    | inr qx ↦ ap (filter p) (filter_no q x xs qx) ∙ filter_swap p q xs ∙ ap (filter q) (sym (filter_no p x xs px))
  ]
]

-- a test that lets less through keeps fewer
pub length_filter_less : {X : Type 0} (p q : X → Bool) (xs : List X) → ((x : X) → p x ≡ true → q x ≡ true) → length (filter p xs) ≤ length (filter q xs)
length_filter_less p q xs f = subst (λ (n : ℕ). n ≤ length (filter q xs)) (ap length (filter_through p q xs f)) (length_filter_le p (filter q xs))

-- what some element fails keeps fewer than all
pub filter_shorter : {X : Type 0} (p : X → Bool) (xs : List X) → list_any p xs ≡ true → length (filter (λ x. not (p x)) xs) < length xs
filter_shorter p [] h = cc
filter_shorter p (x ∷ xs) h = elim (cases_Bool (p x)) [
  | inl e ↦ simp e (omega (arith, length_filter_le (λ x. not (p x)) xs))
  | inr e ↦ (let rest : list_any p xs ≡ true = simp e at h in simp e (omega (arith, filter_shorter p xs rest)))
]
