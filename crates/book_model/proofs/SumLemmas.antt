-- Sums over the numbers below n.
use Rattle.std.proofs.Common.{◌≡◌, ℕ, zero, suc, ◌+◌, ◌-◌, ◌*◌, ◌≤◌, ◌<◌, refl, ap, ◌∙◌, arith, inl, inr, eq-zero-or-pos}
use Rattle.book_model.specs.Sums.{sum_below}

pub sum_below-same : (n : ℕ) (f g : ℕ → ℕ) → ((i : ℕ) → i < n → f i ≡ g i) → sum_below n f ≡ sum_below n g
sum_below-same zero f g h = refl
sum_below-same (suc n) f g h = omega (arith, h n (omega arith), sum_below-same n f g (λ i lt. h i (omega arith)))

pub sum_below-le : (n : ℕ) (f g : ℕ → ℕ) → ((i : ℕ) → i < n → f i ≤ g i) → sum_below n f ≤ sum_below n g
sum_below-le zero f g h = omega arith
sum_below-le (suc n) f g h = omega (arith, h n (omega arith), sum_below-le n f g (λ i lt. h i (omega arith)))

-- of numbers that are at most m each
pub sum_below-bounded : (n : ℕ) (f : ℕ → ℕ) (m : ℕ) → ((i : ℕ) → i < n → f i ≤ m) → sum_below n f ≤ n * m
sum_below-bounded zero f m h = omega arith
sum_below-bounded (suc n) f m h = omega (arith, sum_below-bounded n f m (λ i lt. h i (omega arith)), h n (omega arith))

pub sum_below-zero : (n : ℕ) → sum_below n (λ _. 0) ≡ 0
sum_below-zero zero = refl
sum_below-zero (suc n) = omega (arith, sum_below-zero n)

pub sum_below-scaled : (n s : ℕ) (f : ℕ → ℕ) → sum_below n (λ i. f i * s) ≡ sum_below n f * s
sum_below-scaled zero s f = omega arith
sum_below-scaled (suc n) s f = omega (arith, sum_below-scaled n s f)

pub sum_below-plus : (n : ℕ) (f g : ℕ → ℕ) → sum_below n (λ i. f i + g i) ≡ sum_below n f + sum_below n g
sum_below-plus zero f g = omega arith
sum_below-plus (suc n) f g = omega (arith, sum_below-plus n f g)

-- terms from m on that are 0 add nothing
pub sum_below-past : (m n : ℕ) (f : ℕ → ℕ) → m ≤ n → ((i : ℕ) → m ≤ i → f i ≡ 0) → sum_below n f ≡ sum_below m f
sum_below-past m zero f le h = ap (λ i. sum_below i f) {x = 0} {y = m} (omega arith)
sum_below-past m (suc n) f le h = elim (eq-zero-or-pos (suc n - m)) [
  | inl e ↦ ap (λ i. sum_below i f) {x = suc n} {y = m} (omega (arith, e))
  | inr l ↦ omega (arith, sum_below-past m n f (omega (arith, l)) h, h n (omega (arith, l)))
]

pub sum_below-split : (n m : ℕ) (f : ℕ → ℕ) → sum_below (n + m) f ≡ sum_below n f + sum_below m (λ i. f (n + i))
sum_below-split n zero f = ap (λ i. sum_below i f) {x = n + 0} {y = n} (omega arith) ∙ omega arith
sum_below-split n (suc m) f = ap (λ i. sum_below i f) {x = n + suc m} {y = suc (n + m)} (omega arith) ∙ omega (arith, sum_below-split n m f)
