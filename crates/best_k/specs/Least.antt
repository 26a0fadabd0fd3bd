-- The least pairs of a list, and what a best list is.
use Rattle.std.specs.Prelude.{ℕ, List, take}
use Rattle.std.specs.declared.cmp.Ordering.{Ordering}
use Rattle.book_model.specs.Order.{Pair as Ordered, sorted, pair_cmp}
use Rattle.best_k.specs.declared.Pair.{Pair}

-- the two numbers by which a pair is ordered
abbrev pub key_of : Pair → Ordered
key_of pair = (pair.distance, pair.id)

-- pairs are compared by these
abbrev pub by_key : Pair → Pair → Ordering
by_key a b = pair_cmp (key_of a) (key_of b)

-- the k least pairs in rising order, or all of them
unfoldable pub least : ℕ → List Ordered → List Ordered
least k pairs = take k (sorted pair_cmp pairs)

-- at most k pairs are held, in rising order, and k is at most the room
pub record Kept : Type 0 where
  pub room : ℕ
  pub k : ℕ
  pub pairs : List Ordered
