-- The least of the first numbers, and what one more number changes.
use Rattle.std.proofs.Common.{ℕ, zero, suc, ◌+◌, ◌≤◌, ◌<◌, arith, inl, inr}
use Rattle.std.proofs.lemmas.Bool.{cases_eq}
use Rattle.std.proofs.Common.{subst, sym}

-- among the first n numbers that at i is at most each other one, and below each before it
pub record IsBest (d : ℕ → ℕ) (n i : ℕ) : Type 0 where
  pub within : i < n
  pub least : (k : ℕ) → k < n → d i ≤ d k
  pub before : (k : ℕ) → k < i → d i < d k

pub one_best : (d : ℕ → ℕ) → IsBest d 1 0
one_best d = record {
  within = omega arith;
  least = λ k. elim k as (λ k. k < 1 → d 0 ≤ d k) [ zero ↦ λ lt. omega arith | suc k ↦ λ lt. absurd (omega arith) ];
  before = λ k lt. absurd (omega arith);
}

pub best_stays : (d : ℕ → ℕ) (n i : ℕ) → IsBest d n i → d i ≤ d n → IsBest d (n + 1) i
best_stays d n i best not_nearer = record {
  within = omega (arith, best.within);
  least = λ k lt. elim (cases_eq k n) [
    | inl e ↦ subst (λ m. d i ≤ d m) (sym e) not_nearer
    | inr ne ↦ best.least k (omega arith)
  ];
  before = best.before;
}

pub best_moves : (d : ℕ → ℕ) (n i : ℕ) → IsBest d n i → d n < d i → IsBest d (n + 1) n
best_moves d n i best nearer = record {
  within = omega arith;
  least = λ k lt. elim (cases_eq k n) [
    | inl e ↦ subst (λ m. d n ≤ d m) (sym e) (omega arith)
    | inr ne ↦ omega (arith, best.least k (omega arith))
  ];
  before = λ k lt. omega (arith, best.least k lt);
}
