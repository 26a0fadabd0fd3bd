-- What holds of each element of a list, after an edit of it.
use Rattle.std.proofs.Common.{◌≡◌, ℕ, zero, suc, ◌<◌, Bool, true, cond, List, [], ◌∷◌, ◌++◌, length, map, take, drop, filter, get_or, set, replicate, sym, ap, subst, arith, inl, inr}
use Rattle.std.specs.Prelude.{remove}
use Rattle.std.specs.List.{AllByRecursion}
use Rattle.std.proofs.lemmas.Bool.{cases_Bool}

module _ {X : Type 0} (P : X → Type 0) where
  pub all_at : (xs : List X) (i : ℕ) (d : X) → AllByRecursion P xs → i < length xs → P (get_or xs i d)
  all_at [] i d all h = absurd (omega arith)
  all_at (x ∷ xs) zero d all h = all.0
  all_at (x ∷ xs) (suc i) d all h = all_at xs i d all.1 (omega arith)

  -- from each place
  pub all_from_places : (xs : List X) → ((i : ℕ) (d : X) → i < length xs → P (get_or xs i d)) → AllByRecursion P xs
  all_from_places [] each = tt
  all_from_places (x ∷ xs) each = (each 0 x (omega arith), all_from_places xs (λ i d h. each (suc i) d (omega arith)))

  pub all_by_index : (xs : List X) (d : X) → ((i : ℕ) → i < length xs → P (get_or xs i d)) → AllByRecursion P xs
  all_by_index [] d each = tt
  all_by_index (x ∷ xs) d each = (each 0 (omega arith), all_by_index xs d (λ i h. each (suc i) (omega arith)))

  pub all_every : (xs : List X) → ((x : X) → P x) → AllByRecursion P xs
  all_every [] f = tt
  all_every (x ∷ xs) f = (f x, all_every xs f)

  pub all_same : (n : ℕ) (x : X) → P x → AllByRecursion P (replicate n x)
  all_same zero x here = tt
  all_same (suc n) x here = (here, all_same n x here)

  pub all_append : (xs ys : List X) → AllByRecursion P xs → AllByRecursion P ys → AllByRecursion P (xs ++ ys)
  all_append [] ys all more = more
  all_append (x ∷ xs) ys all more = (all.0, all_append xs ys all.1 more)

  pub all_push : (xs : List X) (y : X) → AllByRecursion P xs → P y → AllByRecursion P (xs ++ y ∷ [])
  all_push xs y all here = all_append xs (y ∷ []) all (here, tt)

  pub all_front : (xs ys : List X) → AllByRecursion P (xs ++ ys) → AllByRecursion P xs
  all_front [] ys all = tt
  all_front (x ∷ xs) ys all = (all.0, all_front xs ys all.1)

  pub all_back : (xs ys : List X) → AllByRecursion P (xs ++ ys) → AllByRecursion P ys
  all_back [] ys all = all
  all_back (x ∷ xs) ys all = all_back xs ys all.1

  pub all_middle : (xs : List X) (x : X) (ys : List X) → AllByRecursion P (xs ++ x ∷ ys) → P x
  all_middle xs x ys all = (all_back xs (x ∷ ys) all).0

  pub all_swap : (xs : List X) (x y : X) (ys : List X) → (P x → P y) → AllByRecursion P (xs ++ x ∷ ys) → AllByRecursion P (xs ++ y ∷ ys)
  all_swap [] x y ys f all = (f all.0, all.1)
  all_swap (z ∷ xs) x y ys f all = (all.0, all_swap xs x y ys f all.1)

  pub all_set : (xs : List X) (i : ℕ) (y : X) → AllByRecursion P xs → P y → AllByRecursion P (set xs i y)
  all_set [] i y all here = tt
  all_set (x ∷ xs) zero y all here = (here, all.1)
  all_set (x ∷ xs) (suc i) y all here = (all.0, all_set xs i y all.1 here)

  pub all_take : (n : ℕ) (xs : List X) → AllByRecursion P xs → AllByRecursion P (take n xs)
  all_take zero xs all = tt
  all_take (suc n) [] all = tt
  all_take (suc n) (x ∷ xs) all = (all.0, all_take n xs all.1)

  pub all_drop : (n : ℕ) (xs : List X) → AllByRecursion P xs → AllByRecursion P (drop n xs)
  all_drop zero xs all = all
  all_drop (suc n) [] all = tt
  all_drop (suc n) (x ∷ xs) all = all_drop n xs all.1

  pub all_remove : (xs : List X) (i : ℕ) → AllByRecursion P xs → AllByRecursion P (remove xs i)
  all_remove xs i all = all_append (take i xs) (drop (suc i) xs) (all_take i xs all) (all_drop (suc i) xs all)

  pub all_map : {Y : Type 0} (f : Y → X) (ys : List Y) → AllByRecursion (λ y. P (f y)) ys → AllByRecursion P (map f ys)
  all_map f [] all = tt
  all_map f (y ∷ ys) all = (all.0, all_map f ys all.1)

  -- of those that a filter keeps
  pub all_passing : (p : X → Bool) (xs : List X) → AllByRecursion (λ x. p x ≡ true → P x) xs → AllByRecursion P (filter p xs)
  all_passing p [] all = tt
  all_passing p (x ∷ xs) all = elim (cases_Bool (p x)) [
    | inl kept ↦ subst (AllByRecursion P) (sym (ap (λ b. cond b (x ∷ filter p xs) (filter p xs)) kept)) (all.0 kept, all_passing p xs all.1)
    | inr left ↦ subst (AllByRecursion P) (sym (ap (λ b. cond b (x ∷ filter p xs) (filter p xs)) left)) (all_passing p xs all.1)
  ]

  -- from another fact of each element
  pub all_weaken : (Q : X → Type 0) (xs : List X) → ((x : X) → Q x → P x) → AllByRecursion Q xs → AllByRecursion P xs
  all_weaken Q [] f all = tt
  all_weaken Q (x ∷ xs) f all = (f x all.0, all_weaken Q xs f all.1)

  pub all_filter : (p : X → Bool) (xs : List X) → AllByRecursion P xs → AllByRecursion P (filter p xs)
  all_filter p [] all = tt
  all_filter p (x ∷ xs) all = elim (cases_Bool (p x)) [
    | inl kept ↦ subst (AllByRecursion P) (sym (ap (λ b. cond b (x ∷ filter p xs) (filter p xs)) kept)) (all.0, all_filter p xs all.1)
    | inr left ↦ subst (AllByRecursion P) (sym (ap (λ b. cond b (x ∷ filter p xs) (filter p xs)) left)) (all_filter p xs all.1)
  ]

pub all_both : {X : Type 0} (P Q : X → Type 0) (xs : List X) → AllByRecursion P xs → AllByRecursion Q xs → AllByRecursion (λ x. P x × Q x) xs
all_both P Q [] a b = tt
all_both P Q (x ∷ xs) a b = ((a.0, b.0), all_both P Q xs a.1 b.1)
