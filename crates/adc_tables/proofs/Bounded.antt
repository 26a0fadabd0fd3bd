-- Lists whose numbers are at most a bound.
use Rattle.std.proofs.Common.{ℕ, zero, suc, ◌+◌, ◌≤◌, List, [], ◌∷◌, ◌++◌, get_or, take, drop, replicate, arith}
use Rattle.std.proofs.lemmas.List.{get_or-drop}
use borrow.Rule.Slice.PartMut.{put_mid}

abbrev pub Bounded : ℕ → List ℕ → Type 0
Bounded most xs = (i : ℕ) → get_or xs i 0 ≤ most

pub bounded_append : (most : ℕ) (xs ys : List ℕ) → Bounded most xs → Bounded most ys → Bounded most (xs ++ ys)
bounded_append most [] ys hx hy i = hy i
bounded_append most (x ∷ xs) ys hx hy zero = hx zero
bounded_append most (x ∷ xs) ys hx hy (suc i) = bounded_append most xs ys (λ k. hx (suc k)) hy i

pub bounded_take : (most n : ℕ) (xs : List ℕ) → Bounded most xs → Bounded most (take n xs)
bounded_take most zero xs h i = omega arith
bounded_take most (suc n) [] h i = h i
bounded_take most (suc n) (x ∷ xs) h zero = h zero
bounded_take most (suc n) (x ∷ xs) h (suc i) = bounded_take most n xs (λ k. h (suc k)) i

pub bounded_drop : (most n : ℕ) (xs : List ℕ) → Bounded most xs → Bounded most (drop n xs)
bounded_drop most n xs h i = omega (arith, get_or-drop n xs i 0, h (n + i))

pub bounded_zeros : (most n : ℕ) → Bounded most (replicate n 0)
bounded_zeros most zero i = omega arith
bounded_zeros most (suc n) zero = omega arith
bounded_zeros most (suc n) (suc i) = bounded_zeros most n i

pub bounded_put : (most a k : ℕ) (xs ys : List ℕ) → Bounded most xs → Bounded most ys → Bounded most (put_mid a k xs ys)
bounded_put most a k xs ys hx hy =
    bounded_append most _ _ (bounded_take most a xs hx) (bounded_append most _ _ hy (bounded_drop most k _ (bounded_drop most a xs hx)))
