-- The k least pairs after one more.
use Rattle.std.proofs.Common.{◌≡◌, ℕ, ◌-◌, ◌<◌, ◌≤◌, List, [], ◌∷◌, ◌++◌, length, arith}
use Rattle.std.specs.List.{AllByRecursion}
use Rattle.book_model.specs.Order.{Pair, sorted, pair_cmp, kth_least}
use Rattle.book_model.proofs.Good.{all_at}
use Rattle.book_model.proofs.Rising.{all-sorted}
use Rattle.book_model.proofs.Best.{length-sorted, far_stays}
use Rattle.best_k.specs.Least.{least}

-- a pair above the k-th leaves the k least
pub least_stays : (k : ℕ) (pairs : List Pair) (x : Pair) → 1 ≤ k → k ≤ length pairs → kth_least k pairs < x.0 → least k (pairs ++ x ∷ []) ≡ least k pairs
unfolding least
least_stays = far_stays

-- where no pair is below a number, the k-th is not
pub kth_above : (n k : ℕ) (pairs : List Pair) → 1 ≤ k → k ≤ length pairs → AllByRecursion (λ (p : Pair). n ≤ p.0) pairs → n ≤ kth_least k pairs
kth_above n k pairs some long all =
    all_at (λ (p : Pair). n ≤ p.0) (sorted pair_cmp pairs) (k - 1) (0, 0) (all-sorted (λ (p : Pair). n ≤ p.0) pair_cmp pairs all) (omega (arith, length-sorted pair_cmp pairs))
