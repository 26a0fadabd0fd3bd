-- Lists that rise, and what is put last in them.
use Rattle.std.proofs.Common.{◌≡◌, ℕ, suc, ◌≤◌, ◌<◌, false, List, [], ◌∷◌, ◌++◌, length, map, get_or, refl, sym, ap, ◌∙◌, arith, inl, inr}
use Rattle.std.specs.List.{AllByRecursion}
use Rattle.std.specs.List.Sorted.{IsPermutation, IsSortedBy}
use Rattle.std.specs.declared.cmp.Ordering.{Ordering}
use Rattle.std.specs.declared.cmp.Ordering.TheVariants.{Less, Equal, Greater}
use Rattle.std.specs.Ordering.{is_gt, is_lt, ordering_reverse}
use Rattle.std.specs.Cmp.{IsTotalOrder}
use Rattle.std.proofs.lemmas.Bool.{cases_Bool}
use Rattle.std.proofs.lemmas.Map.Lookups.{CmpEqualImpliesEq}
use Rattle.std.proofs.lemmas.List.Sorted.{IsPermutation-sym, IsPermutation-to_front, IsPermutation-map, sorted_far, ranks_by}
use Rattle.book_model.proofs.AllLemmas.{all_append}
use Rattle.book_model.specs.Order.{placed, sorted, IsRising}
use Rattle.book_model.proofs.Sorting.{placed-gt, placed-le, sorted-rising, sorted-unique}
pub use Rattle.book_model.proofs.Sorting.{all-sorted}

module _ {X : Type 0} (cmp : X → X → Ordering) where
  rises-push : (us : List X) (x : X) → IsRising cmp us → AllByRecursion (λ u. is_gt (cmp u x) ≡ false) us → IsRising cmp (us ++ x ∷ [])
  rises-push [] x h above = (tt, tt)
  rises-push (u ∷ us) x h above = (all_append (λ v. is_gt (cmp u v) ≡ false) us (x ∷ []) h.0 (above.0, tt), rises-push us x h.1 above.1)

  -- what is not above the last comes before it
  pub placed_before_last : (x t : X) (us : List X) → is_gt (cmp x t) ≡ false → placed cmp x (us ++ t ∷ []) ≡ placed cmp x us ++ t ∷ []
  placed_before_last x t [] h = placed-le cmp x t [] h
  placed_before_last x t (u ∷ us) h = elim (cases_Bool (is_gt (cmp x u))) [
    | inl xu ↦ placed-gt cmp x u (us ++ t ∷ []) xu ∙ ap (λ w. u ∷ w) (placed_before_last x t us h) ∙ sym (ap (λ w. w ++ t ∷ []) (placed-gt cmp x u us xu))
    | inr xu ↦ placed-le cmp x u (us ++ t ∷ []) xu ∙ sym (ap (λ w. w ++ t ∷ []) (placed-le cmp x u us xu))
  ]

not_above : (r : Ordering) → is_lt r ≡ false → is_gt (ordering_reverse r) ≡ false
not_above Less h = cc
not_above Equal h = refl
not_above Greater h = refl

module _ {X : Type 0} (cmp : X → X → Ordering) (o : IsTotalOrder cmp) where
  -- y is not below x, so x is not above y
  pub gt_from_lt : (x y : X) → is_lt (cmp y x) ≡ false → is_gt (cmp x y) ≡ false
  gt_from_lt x y h = ap is_gt (o.antisymm x y) ∙ not_above (cmp y x) h

  module _ {P : Type 0} (key : P → X) where
    rises_at : (xs : List P) → ((i j : ℕ) (d : P) → i ≤ j → j < length xs → is_lt (cmp (key (get_or xs j d)) (key (get_or xs i d))) ≡ false) → IsRising cmp (map key xs)
    rises_at [] h = tt
    rises_at (x ∷ xs) h = (
      all_keys x xs (λ i d lt. gt_from_lt (key x) (key (get_or xs i d)) (h 0 (suc i) d (omega arith) (omega arith))),
      rises_at xs (λ i j d le lt. h (suc i) (suc j) d (omega arith) (omega arith)),
    )
      where
        all_keys : (x : P) (ys : List P) → ((i : ℕ) (d : P) → i < length ys → is_gt (cmp (key x) (key (get_or ys i d))) ≡ false) → AllByRecursion (λ y. is_gt (cmp (key x) y) ≡ false) (map key ys)
        all_keys x [] h = tt
        all_keys x (y ∷ ys) h = (h 0 y (omega arith), all_keys x ys (λ i d lt. h (suc i) d (omega arith)))

    -- what std's sort leaves rises
    pub rising_from_sort : (xs : List P) → IsSortedBy (λ a b. is_lt (cmp (key a) (key b))) xs → IsRising cmp (map key xs)
    rising_from_sort xs up = rises_at xs (sorted_far (λ a b. is_lt (cmp (key a) (key b))) (ranks_by o key) xs up)

  module _ (exact : CmpEqualImpliesEq cmp) where
    -- what none is above comes last
    pub placed-last : (x : X) (us : List X) → IsRising cmp us → AllByRecursion (λ u. is_gt (cmp u x) ≡ false) us → placed cmp x us ≡ us ++ x ∷ []
    unfolding sorted
    placed-last x us rises above =
        sym (ap (placed cmp x) (sorted-rising cmp o exact us rises)) ∙ sym (sorted-unique cmp o exact (x ∷ us) (us ++ x ∷ []) (IsPermutation-sym _ _ (IsPermutation-to_front us x)) (rises-push cmp us x rises above))

    -- so a sort by std is the sorted list
    pub sorted_from_sort : {P : Type 0} (key : P → X) (xs ys : List P) → IsPermutation xs ys → IsSortedBy (λ a b. is_lt (cmp (key a) (key b))) ys → map key ys ≡ sorted cmp (map key xs)
    sorted_from_sort key xs ys moved up = sorted-unique cmp o exact (map key xs) (map key ys) (IsPermutation-map key xs ys moved) (rising_from_sort key ys up)
