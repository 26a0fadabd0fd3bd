-- A pair of an exact search as the two numbers by which it is ordered.
use Rattle.std.specs.Prelude.{ℕ, ◌≤◌, Bool, true, List, length, map, filter, nat_le, Option, None, Some}
use Rattle.std.specs.declared.cmp.Ordering.{Ordering}
use Rattle.book_model.specs.Order.{Pair, pair_cmp, kth_least}
use Rattle.flat_truth.specs.declared.TruePair.{TruePair}
use Rattle.flat_truth.specs.declared.answer.Exact.TheInside.{Inside}

-- the distance, and the number of the base row
abbrev pub key_of : TruePair → Pair
key_of pair = (pair.distance, pair.row)

-- pairs are compared by these
abbrev pub by_key : TruePair → TruePair → Ordering
by_key a b = pair_cmp (key_of a) (key_of b)

abbrev pub view_exact : Inside → List Pair
view_exact answer = map key_of answer.pairs.items

-- whether a pair is no farther than this distance, if there is one
abbrev pub is_near : Option ℕ → Pair → Bool
is_near None pair = true
is_near (Some most) pair = nat_le pair.0 most

-- the pairs that are no farther
abbrev pub near : Option ℕ → List Pair → List Pair
near None pairs = pairs
near (Some most) pairs = filter (λ pair. nat_le pair.0 most) pairs

-- k of these pairs are no farther than this, so that no farther one is among the k least of them and of more
pub record IsReach (k : ℕ) (pairs : List Pair) (most : ℕ) : Type 0 where
  pub some : 1 ≤ k
  pub enough : k ≤ length pairs
  pub kth : kth_least k pairs ≤ most
