-- The least pairs after one more.
use Rattle.std.proofs.Common.{◌≡◌, ℕ, zero, suc, ◌≤◌, ◌<◌, true, false, List, [], ◌∷◌, ◌++◌, length, take, drop, map, get_or, Some, slice_get, ◌-◌, refl, sym, ap, ◌∙◌, arith}
use Rattle.std.proofs.lemmas.List.{length-map}
use Rattle.std.specs.BinaryHeap.{IsUpperBound}
use Rattle.std.specs.Ordering.{is_lt}
use Rattle.std.specs.declared.cmp.Ordering.TheVariants.{Less, Equal, Greater}
use Rattle.std.specs.List.{AllByRecursion}
use Rattle.std.specs.List.Sorted.{IsPermutation}
use Rattle.std.specs.declared.cmp.Ordering.{Ordering}
use Rattle.std.specs.Ordering.{is_gt}
use Rattle.std.specs.Cmp.{IsTotalOrder}
use Rattle.std.proofs.lemmas.Cmp.{upto}
use Rattle.std.proofs.lemmas.Map.Lookups.{CmpEqualImpliesEq}
use Rattle.std.proofs.lemmas.List.Sorted.{IsPermutation-map}
use Rattle.std.proofs.lemmas.Option.{get_or_from_slice_get}
use Rattle.book_model.specs.Order.{kth_least, Pair as Ordered, placed, sorted, IsRising, pair_cmp}
use Rattle.book_model.proofs.Sorting.{sorted-push, sorted-rising, sorted-rises, sorted-permutation, pair_total, pair_exact}
use Rattle.book_model.proofs.Best.{length-placed, length-sorted, take-placed}
use Rattle.book_model.proofs.AllLemmas.{all_take}
use Rattle.book_model.proofs.Rising.{all-sorted, placed-last, placed_before_last, gt_from_lt}
use Rattle.best_k.specs.Least.{key_of, by_key, least, Kept}
use Rattle.best_k.specs.declared.Pair.{Pair}

take_all : {X : Type 0} (k : ℕ) (us : List X) → length us ≤ k → take k us ≡ us
take_all zero [] h = refl
take_all zero (u ∷ us) h = absurd (omega arith)
take_all (suc k) [] h = refl
take_all (suc k) (u ∷ us) h = ap (λ w. u ∷ w) (take_all k us (omega arith))

take_front : {X : Type 0} (k : ℕ) (us vs : List X) → length us ≡ k → take k (us ++ vs) ≡ us
take_front zero [] vs h = refl
take_front zero (u ∷ us) vs h = absurd (omega arith)
take_front (suc k) [] vs h = absurd (omega arith)
take_front (suc k) (u ∷ us) vs h = ap (λ w. u ∷ w) (take_front k us vs (omega arith))

module _ {X : Type 0} (cmp : X → X → Ordering) (o : IsTotalOrder cmp) (exact : CmpEqualImpliesEq cmp) where
  -- the greatest is the last
  greatest_last : (t : X) (ms : List X) → AllByRecursion (λ m. is_gt (cmp m t) ≡ false) ms → sorted cmp (t ∷ ms) ≡ sorted cmp ms ++ t ∷ []
  unfolding sorted
  greatest_last t ms top = placed-last cmp o exact t (sorted cmp ms) (sorted-rises cmp o exact ms) (all-sorted (λ m. is_gt (cmp m t) ≡ false) cmp ms top)

  -- one that is not above it takes its place
  takes_place : (t x : X) (ms : List X) → AllByRecursion (λ m. is_gt (cmp m t) ≡ false) ms → is_gt (cmp x t) ≡ false → take (suc (length ms)) (placed cmp x (sorted cmp (t ∷ ms))) ≡ sorted cmp (x ∷ ms)
  unfolding sorted
  takes_place t x ms top below =
      ap (λ w. take (suc (length ms)) (placed cmp x w)) (greatest_last t ms top)
      ∙ ap (take (suc (length ms))) (placed_before_last cmp x t (sorted cmp ms) below)
      ∙ take_front (suc (length ms)) (placed cmp x (sorted cmp ms)) (t ∷ []) (length-placed cmp x (sorted cmp ms) ∙ ap suc (length-sorted cmp ms))

  all_below : (t x : X) (ms : List X) → AllByRecursion (λ m. is_gt (cmp m t) ≡ false) ms → is_gt (cmp t x) ≡ false → AllByRecursion (λ m. is_gt (cmp m x) ≡ false) ms
  all_below t x [] top above = tt
  all_below t x (m ∷ ms) top above = (upto o m t x top.0 above, all_below t x ms top.1 above)

  -- one that it is not above is left out
  left_out : (t x : X) (ms : List X) → AllByRecursion (λ m. is_gt (cmp m t) ≡ false) ms → is_gt (cmp t x) ≡ false → take (suc (length ms)) (placed cmp x (sorted cmp (t ∷ ms))) ≡ sorted cmp (t ∷ ms)
  left_out t x ms top above =
      ap (take (suc (length ms))) (placed-last cmp o exact x (sorted cmp (t ∷ ms)) (sorted-rises cmp o exact (t ∷ ms)) (all-sorted (λ m. is_gt (cmp m x) ≡ false) cmp (t ∷ ms) (above, all_below t x ms top above)))
      ∙ take_front (suc (length ms)) (sorted cmp (t ∷ ms)) (x ∷ []) (length-sorted cmp (t ∷ ms))

rising-take : {X : Type 0} (cmp : X → X → Ordering) (k : ℕ) (us : List X) → IsRising cmp us → IsRising cmp (take k us)
rising-take cmp zero us h = tt
rising-take cmp (suc k) [] h = tt
rising-take cmp (suc k) (u ∷ us) h = (all_take (λ v. is_gt (cmp u v) ≡ false) k us h.0, rising-take cmp k us h.1)

-- the least of what is held in order, and one more
least-push : (k : ℕ) (pairs : List Ordered) (x : Ordered) → least k (sorted pair_cmp pairs ++ x ∷ []) ≡ take k (placed pair_cmp x (sorted pair_cmp pairs))
unfolding least
least-push k pairs x =
    ap (take k) (sorted-push pair_cmp pair_total pair_exact (sorted pair_cmp pairs) x ∙ ap (placed pair_cmp x) (sorted-rising pair_cmp pair_total pair_exact (sorted pair_cmp pairs) (sorted-rises pair_cmp pair_total pair_exact pairs)))

-- the k least of all offered, from the k least of those before
pub least_of_all : (k : ℕ) (offered held : List Ordered) (x : Ordered) → held ≡ least k offered → least k (held ++ x ∷ []) ≡ least k (offered ++ x ∷ [])
unfolding least
least_of_all k offered held x e =
    ap (λ w. take k (sorted pair_cmp (w ++ x ∷ []))) e
    ∙ ap (take k) (sorted-push pair_cmp pair_total pair_exact (take k (sorted pair_cmp offered)) x)
    ∙ ap (λ w. take k (placed pair_cmp x w)) (sorted-rising pair_cmp pair_total pair_exact (take k (sorted pair_cmp offered)) (rising-take pair_cmp k (sorted pair_cmp offered) (sorted-rises pair_cmp pair_total pair_exact offered)))
    ∙ take-placed pair_cmp k x (sorted pair_cmp offered)
    ∙ sym (ap (take k) (sorted-push pair_cmp pair_total pair_exact offered x))

held : List Pair → List Ordered
held heap = sorted pair_cmp (map key_of heap)

not_gt : (o : Ordering) → is_lt o ≡ true → is_gt o ≡ false
not_gt Less h = refl
not_gt Equal h = refl
not_gt Greater h = cc

-- the keys of the elements that the top is above
keys_below : (t : Pair) (heap : List Pair) → IsUpperBound by_key t heap → AllByRecursion (λ m. is_gt (pair_cmp m (key_of t)) ≡ false) (map key_of heap)
keys_below t [] top = tt
keys_below t (x ∷ xs) top = (gt_from_lt pair_cmp pair_total (key_of x) (key_of t) top.0, keys_below t xs top.1)

-- what a heap holds after one more, with room for it
pub held-added : (k : ℕ) (heap heap' : List Pair) (x : Pair) → length heap < k → IsPermutation (x ∷ heap) heap' → sorted pair_cmp (map key_of heap') ≡ least k (sorted pair_cmp (map key_of heap) ++ key_of x ∷ [])
unfolding sorted
held-added k heap heap' x room moved =
    sorted-permutation pair_cmp pair_total pair_exact (map key_of (x ∷ heap)) (map key_of heap') (IsPermutation-map key_of (x ∷ heap) heap' moved)
    ∙ sym (take_all k (placed pair_cmp (key_of x) (sorted pair_cmp (map key_of heap))) (omega (arith, length-placed pair_cmp (key_of x) (sorted pair_cmp (map key_of heap)), length-sorted pair_cmp (map key_of heap), length-map heap key_of)))
    ∙ sym (least-push k (map key_of heap) (key_of x))

-- after one more below the top, which goes
pub held-replaced : (k : ℕ) (heap heap' : List Pair) (t x : Pair) → 0 < k → length heap ≡ k → t ≡ get_or heap 0 t → IsUpperBound by_key t heap → is_lt (by_key x t) ≡ true → IsPermutation (x ∷ drop 1 heap) heap' → sorted pair_cmp (map key_of heap') ≡ least k (sorted pair_cmp (map key_of heap) ++ key_of x ∷ [])
held-replaced k [] heap' t x some full first top below moved = absurd (omega arith)
held-replaced k (h ∷ hs) heap' t x some full first top below moved =
    sorted-permutation pair_cmp pair_total pair_exact (map key_of (x ∷ hs)) (map key_of heap') (IsPermutation-map key_of (x ∷ hs) heap' moved)
    ∙ sym (takes_place pair_cmp pair_total pair_exact (key_of t) (key_of x) (map key_of hs) (keys_below t hs top.1) (not_gt (by_key x t) below))
    ∙ (λ i. take (at_k i) (placed pair_cmp (key_of x) (sorted pair_cmp (key_of (first i) ∷ map key_of hs))))
    ∙ sym (least-push k (map key_of (h ∷ hs)) (key_of x))
  where
    at_k : suc (length (map key_of hs)) ≡ k
    at_k = omega (arith, length-map hs key_of, full)

-- after one more that is not below the top
pub held-left : (k : ℕ) (heap : List Pair) (t x : Pair) → 0 < k → length heap ≡ k → t ≡ get_or heap 0 t → IsUpperBound by_key t heap → is_lt (by_key x t) ≡ false → sorted pair_cmp (map key_of heap) ≡ least k (sorted pair_cmp (map key_of heap) ++ key_of x ∷ [])
held-left k [] t x some full first top above = absurd (omega arith)
held-left k (h ∷ hs) t x some full first top above =
    (λ i. sorted pair_cmp (key_of (sym first i) ∷ map key_of hs))
    ∙ sym (left_out pair_cmp pair_total pair_exact (key_of t) (key_of x) (map key_of hs) (keys_below t hs top.1) (gt_from_lt pair_cmp pair_total (key_of t) (key_of x) above))
    ∙ (λ i. take (at_k i) (placed pair_cmp (key_of x) (sorted pair_cmp (key_of (first i) ∷ map key_of hs))))
    ∙ sym (least-push k (map key_of (h ∷ hs)) (key_of x))
  where
    at_k : suc (length (map key_of hs)) ≡ k
    at_k = omega (arith, length-map hs key_of, full)

slice_get-last : {X : Type 0} (us : List X) (t : X) (k : ℕ) → length us ≡ k → slice_get (us ++ t ∷ []) k ≡ Some t
slice_get-last [] t zero h = refl
slice_get-last [] t (suc k) h = absurd (omega arith)
slice_get-last (u ∷ us) t zero h = absurd (omega arith)
slice_get-last (u ∷ us) t (suc k) h = slice_get-last us t k (omega arith)

-- the top is the last in order
pub held-worst : (k : ℕ) (heap : List Pair) (t : Pair) → 0 < k → length heap ≡ k → t ≡ get_or heap 0 t → IsUpperBound by_key t heap → slice_get (sorted pair_cmp (map key_of heap)) (k - 1) ≡ Some (key_of t)
held-worst k [] t some full first top = absurd (omega arith)
held-worst k (h ∷ hs) t some full first top =
    (λ i. slice_get (sorted pair_cmp (key_of (sym first i) ∷ map key_of hs)) (k - 1))
    ∙ ap (λ w. slice_get w (k - 1)) (greatest_last pair_cmp pair_total pair_exact (key_of t) (map key_of hs) (keys_below t hs top.1))
    ∙ slice_get-last (sorted pair_cmp (map key_of hs)) (key_of t) (k - 1) (omega (arith, length-sorted pair_cmp (map key_of hs), length-map hs key_of, full))

pub length-held : (heap : List Pair) → length (sorted pair_cmp (map key_of heap)) ≡ length heap
length-held heap = length-sorted pair_cmp (map key_of heap) ∙ length-map heap key_of

get_or-take : {X : Type 0} (us : List X) (k i : ℕ) (d : X) → i < k → get_or (take k us) i d ≡ get_or us i d
get_or-take us zero i d h = absurd (omega arith)
get_or-take [] (suc k) i d h = refl
get_or-take (u ∷ us) (suc k) zero d h = refl
get_or-take (u ∷ us) (suc k) (suc i) d h = get_or-take us k i d (omega arith)

-- the last held is the k-th least offered
pub kth_of_all : (k : ℕ) (pairs offered : List Ordered) (x : Ordered) → 0 < k → slice_get pairs (k - 1) ≡ Some x → pairs ≡ least k offered → x.0 ≡ kth_least k offered
unfolding least
kth_of_all k pairs offered x some last e =
    sym (ap (λ (p : Ordered). p.0) (get_or_from_slice_get pairs (k - 1) x (0, 0) last))
    ∙ ap (λ (w : List Ordered). (get_or w (k - 1) (0, 0)).0) e
    ∙ ap (λ (p : Ordered). p.0) (get_or-take (sorted pair_cmp offered) k (k - 1) (0, 0) (omega arith))

-- what changes in a best list is its pairs
pub kept-with : (room k : ℕ) (pairs pairs' : List Ordered) → pairs ≡ pairs' → ◌≡◌ {A = Kept} (record { room = room; k = k; pairs = pairs }) (record { room = room; k = k; pairs = pairs' })
kept-with room k pairs pairs' e = ap (λ (w : List Ordered). record { room = room; k = k; pairs = w }) e
