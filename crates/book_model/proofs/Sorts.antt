-- What std's sorts leave is the sorted list.
use Rattle.std.proofs.Common.{◌≡◌, suc, ◌+◌, false, List, [], ◌∷◌, get_or, refl, ap, ◌∙◌, arith}
use Rattle.std.specs.List.Sorted.{IsPermutation, IsSorted}
use Rattle.std.specs.declared.cmp.Ordering.{Ordering}
use Rattle.std.specs.declared.cmp.Ordering.TheVariants.{Less, Equal, Greater}
use Rattle.std.specs.Ordering.{is_gt, is_lt, ordering_reverse}
use Rattle.std.specs.Cmp.{IsTotalOrder}
use Rattle.std.proofs.lemmas.Map.Lookups.{CmpEqualImpliesEq}
use Rattle.book_model.specs.Order.{sorted, IsRising, Pair, pair_cmp}
use Rattle.book_model.proofs.Sorting.{sorted-unique, below_all, pair_total, pair_exact}

not_less : (r : Ordering) → is_lt r ≡ false → is_gt (ordering_reverse r) ≡ false
not_less Less h = cc
not_less Equal h = refl
not_less Greater h = refl

module _ {X : Type 0} (cmp : X → X → Ordering) (o : IsTotalOrder cmp) (exact : CmpEqualImpliesEq cmp) where
  later : (x : X) (xs : List X) → IsSorted cmp (x ∷ xs) → IsSorted cmp xs
  later x xs h k d low high =
      let e : suc k + 1 ≡ suc (k + 1) = omega arith in
      let next : is_lt (cmp (get_or (x ∷ xs) (suc k + 1) d) (get_or (x ∷ xs) (suc k) d)) ≡ false = h (suc k) d (omega arith) (omega arith) in
      rw e at next

  -- no element below the one before it: none is above a later one
  pub rising_from_sorted : (xs : List X) → IsSorted cmp xs → IsRising cmp xs
  rising_from_sorted [] h = tt
  rising_from_sorted (x ∷ []) h = (tt, tt)
  rising_from_sorted (x ∷ y ∷ ys) h =
      let xy : is_gt (cmp x y) ≡ false = ap is_gt (o.antisymm x y) ∙ not_less (cmp y x) (h 0 x (omega arith) (omega arith)) in
      let rest : IsRising cmp (y ∷ ys) = rising_from_sorted (y ∷ ys) (later x (y ∷ ys) h) in
      ((xy, below_all cmp o exact x y ys xy rest.0), rest)

-- a sort by the order of pairs leaves the sorted list
pub sorted_by_sort : (xs ys : List Pair) → IsPermutation xs ys → IsSorted pair_cmp ys → ys ≡ sorted pair_cmp xs
sorted_by_sort xs ys moved rises = sorted-unique pair_cmp pair_total pair_exact xs ys moved (rising_from_sorted pair_cmp pair_total pair_exact ys rises)
