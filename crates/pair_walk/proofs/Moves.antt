-- Lists of pairs that are put together in any order, and the least of them.
use Rattle.std.proofs.Common.{◌≡◌, ℕ, zero, suc, ◌+◌, ◌≤◌, ◌<◌, List, [], ◌∷◌, ◌++◌, length, drop, get_or, set, Some, slice_get, refl, sym, ap, subst, ◌∙◌, arith, inl, inr, get_or-set_same, get_or-set_other}
use Rattle.std.proofs.Math.ListN.{length-set}
use Rattle.std.specs.List.{AllByRecursion, flat_map, swap}
use Rattle.std.specs.List.Sorted.{IsPermutation}
use Rattle.std.proofs.lemmas.Bool.{cases_eq}
use Rattle.std.proofs.lemmas.List.Edits.{swap_is}
use Rattle.std.proofs.lemmas.List.Sorted.{IsPermutation-keeps, IsPermutation-sym, IsPermutation-trans, IsPermutation-append_right}
use Rattle.book_model.specs.Order.{Pair, placed, sorted, pair_cmp}
use Rattle.book_model.proofs.Sorting.{placed-le, placed-cancel, sorted-permutation, sorted-moves, pair_total, pair_exact}
use Rattle.book_model.proofs.Rising.{all-sorted}
use Rattle.coarse_rank.proofs.RankLemmas.{front_moves}
use Rattle.pair_walk.proofs.Keys.{Le}

-- what has one sorted list has the same elements
same_elements : (xs ys : List Pair) → sorted pair_cmp ys ≡ sorted pair_cmp xs → IsPermutation xs ys
same_elements xs ys e = IsPermutation-trans _ _ _ (sorted-moves pair_cmp pair_total pair_exact xs)
    (subst (λ (w : List Pair). IsPermutation w ys) e (IsPermutation-sym _ _ (sorted-moves pair_cmp pair_total pair_exact ys)))

-- a common front may be left out
sorted-cancel : (us xs ys : List Pair) → sorted pair_cmp (us ++ xs) ≡ sorted pair_cmp (us ++ ys) → sorted pair_cmp xs ≡ sorted pair_cmp ys
unfolding sorted
sorted-cancel [] xs ys h = h
sorted-cancel (u ∷ us) xs ys h = sorted-cancel us xs ys (placed-cancel pair_cmp pair_total pair_exact u (sorted pair_cmp (us ++ xs)) (sorted pair_cmp (us ++ ys)) h)

module _ {X : Type 0} (f : X → List Pair) where
  all_of : List X → List Pair
  all_of xs = flat_map f xs

  -- what a change of one element does
  change_moves : (xs : List X) (i : ℕ) (v d : X) → i < length xs → IsPermutation (f (get_or xs i d) ++ flat_map f (set xs i v)) (f v ++ flat_map f xs)
  change_moves [] i v d h = absurd (omega arith)
  change_moves (x ∷ xs) zero v d h = front_moves (f x) (f v) (flat_map f xs)
  change_moves (x ∷ xs) (suc i) v d h = IsPermutation-trans _ _ _ (front_moves (f (get_or xs i d)) (f x) (flat_map f (set xs i v)))
      (IsPermutation-trans _ _ _ (IsPermutation-append_right (f x) _ _ (change_moves xs i v d (omega arith))) (front_moves (f x) (f v) (flat_map f xs)))

  change_sorted : (xs : List X) (i : ℕ) (v d : X) → i < length xs → sorted pair_cmp (f (get_or xs i d) ++ flat_map f (set xs i v)) ≡ sorted pair_cmp (f v ++ flat_map f xs)
  change_sorted xs i v d h = sym (sorted-permutation pair_cmp pair_total pair_exact _ _ (change_moves xs i v d h))

  swap_sorted : (xs : List X) (i j : ℕ) (d : X) → i < length xs → j < length xs → sorted pair_cmp (flat_map f (swap xs i j)) ≡ sorted pair_cmp (flat_map f xs)
  swap_sorted xs i j d p q =
      let a : X = get_or xs i d in
      let b : X = get_or xs j d in
      let w : List X = set xs i b in
      let there : get_or w j d ≡ b = elim (cases_eq j i) [
        | inl e ↦ ap (λ n. get_or w n d) e ∙ get_or-set_same xs i b d p
        | inr n ↦ get_or-set_other xs i j b d n
      ] in
      ap (λ l. sorted pair_cmp (flat_map f l)) (sym (swap_is xs i j d p q))
      ∙ sorted-cancel (f b) (flat_map f (set w j a)) (flat_map f xs)
      (ap (λ x. sorted pair_cmp (f x ++ flat_map f (set w j a))) (sym there) ∙ change_sorted w j a d (rw length-set q) ∙ change_sorted xs i b d p)

  -- lists of several elements each, in another order
  pub flat_map-permutation : (xs ys : List X) → IsPermutation xs ys → IsPermutation (flat_map f xs) (flat_map f ys)
  flat_map-permutation xs ys moved = same_elements (flat_map f xs) (flat_map f ys)
      (IsPermutation-keeps xs (λ l. sorted pair_cmp (flat_map f l) ≡ sorted pair_cmp (flat_map f xs)) refl
      (λ l i j p q h. swap_sorted l i j (first l i p) p q ∙ h) ys moved)
    where
      first : (l : List X) (i : ℕ) → i < length l → X
      first [] i h = absurd (omega arith)
      first (x ∷ l) i h = x

-- what comes before all others comes first
placed-front : (x : Pair) (ys : List Pair) → AllByRecursion (λ y. Le x y) ys → placed pair_cmp x ys ≡ x ∷ ys
placed-front x [] h = refl
placed-front x (y ∷ ys) h = placed-le pair_cmp x y ys h.0

pub least_first : (x : Pair) (ys : List Pair) → AllByRecursion (λ y. Le x y) ys → sorted pair_cmp (x ∷ ys) ≡ x ∷ sorted pair_cmp ys
unfolding sorted
least_first x ys h = placed-front x (sorted pair_cmp ys) (all-sorted (λ y. Le x y) pair_cmp ys h)

-- the element at a place, and what comes after it
pub at_place : (xs ys : List Pair) (c : ℕ) (x : Pair) → drop c xs ≡ x ∷ ys → slice_get xs c ≡ Some x
at_place [] ys zero x h = cc
at_place [] ys (suc c) x h = cc
at_place (z ∷ zs) ys zero x h = cc
at_place (z ∷ zs) ys (suc c) x h = at_place zs ys c x h

pub after_place : (xs ys : List Pair) (c : ℕ) (x : Pair) → drop c xs ≡ x ∷ ys → drop (c + 1) xs ≡ ys
after_place [] ys zero x h = cc
after_place [] ys (suc c) x h = cc
after_place (z ∷ zs) ys zero x h = (let tail : zs ≡ ys = cc in tail)
after_place (z ∷ zs) ys (suc c) x h =
    let e : suc c + 1 ≡ suc (c + 1) = omega arith in
    rw e (after_place zs ys c x h)

pub place_within : (xs ys : List Pair) (c : ℕ) (x : Pair) → drop c xs ≡ x ∷ ys → c < length xs
place_within [] ys zero x h = cc
place_within [] ys (suc c) x h = cc
place_within (z ∷ zs) ys zero x h = omega arith
place_within (z ∷ zs) ys (suc c) x h = omega (arith, place_within zs ys c x h)

pub none_after : (xs : List Pair) (c : ℕ) → drop c xs ≡ [] → length xs ≤ c
none_after [] c h = omega arith
none_after (z ∷ zs) zero h = cc
none_after (z ∷ zs) (suc c) h = omega (arith, none_after zs c h)
