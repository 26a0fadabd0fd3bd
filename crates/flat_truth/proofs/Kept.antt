-- What is kept of pairs: the first k of the sorted ones.
use Rattle.std.proofs.Common.{◌≡◌, ℕ, zero, suc, ◌+◌, ◌-◌, ◌≤◌, ◌<◌, false, cond, List, [], ◌∷◌, ◌++◌, length, map, take, get_or, Option, None, Some, append_assoc, length-append, refl, sym, ap, ◌∙◌, arith, inl, inr}
use Rattle.std.specs.Prelude.{nat_le}
use Rattle.std.specs.Option.{ForSome}
use Rattle.std.specs.List.{AllByRecursion}
use Rattle.std.specs.declared.cmp.Ordering.{Ordering}
use Rattle.std.specs.Ordering.{is_gt, is_lt}
use Rattle.std.proofs.lemmas.Bool.{cases_Bool, cases_lt, leb-false}
use Rattle.std.proofs.lemmas.List.{append-nil, take_all, map-append, length-map, get_or-map}
use Rattle.std.proofs.lemmas.List.Elements.{recursion_from_All, filter-append}
use Rattle.std.proofs.lemmas.List.Sorted.{IsPermutation-map}
use Rattle.std.proofs.Math.Seq.{take-append_seam, take-take}
use Rattle.itertools.specs.Extremes.{IsKLeast, by_cmp}
use Rattle.book_model.specs.Order.{Pair, placed, sorted, IsRising, pair_cmp, kth_least}
use Rattle.book_model.proofs.AllLemmas.{all_append, all_take}
use Rattle.book_model.proofs.Best.{take-placed, kth_falls, far_stays}
use Rattle.book_model.proofs.Rising.{all-sorted, rising_from_sort, gt_from_lt}
use Rattle.book_model.proofs.Sorting.{placed-le, sorted-middle, sorted-rising, sorted-rises, sorted-permutation, pair_total, pair_exact}
use Rattle.flat_truth.specs.declared.TruePair.{TruePair}
use Rattle.flat_truth.specs.Pairs.{key_of, by_key, is_near, near, IsReach}

-- no more than k, and nothing behind them if fewer
front : {X : Type 0} (k : ℕ) (us vs : List X) → length us ≤ k → (length us < k → vs ≡ []) → take k (us ++ vs) ≡ us
front k us vs few none = elim (cases_lt (length us) k) [
  | inl lt ↦ ap (λ w. take k (us ++ w)) (none lt) ∙ ap (take k) (append-nil us) ∙ take_all k us few
  | inr ge ↦
      let e : k ≡ length us = omega (arith, few, ge) in
      ap (λ (n : ℕ). take n (us ++ vs)) e ∙ take-append_seam us vs
]

module _ {X : Type 0} (cmp : X → X → Ordering) where
  placed-first : (x : X) (ys : List X) → AllByRecursion (λ y. is_gt (cmp x y) ≡ false) ys → placed cmp x ys ≡ x ∷ ys
  placed-first x [] h = refl
  placed-first x (y ∷ ys) h = placed-le cmp x y ys h.0

  -- what none of a rising list is above comes behind it
  sorted-front : (ys zs : List X) → IsRising cmp ys → AllByRecursion (λ y. AllByRecursion (λ z. is_gt (cmp y z) ≡ false) zs) ys → sorted cmp (ys ++ zs) ≡ ys ++ sorted cmp zs
  unfolding sorted
  sorted-front [] zs rising below = refl
  sorted-front (y ∷ ys) zs rising below =
      ap (placed cmp y) (sorted-front ys zs rising.1 below.1)
      ∙ placed-first y (ys ++ sorted cmp zs) (all_append (λ z. is_gt (cmp y z) ≡ false) ys (sorted cmp zs) rising.0 (all-sorted (λ z. is_gt (cmp y z) ≡ false) cmp zs below.0))

  pub rising-take : (k : ℕ) (us : List X) → IsRising cmp us → IsRising cmp (take k us)
  rising-take zero us h = tt
  rising-take (suc k) [] h = tt
  rising-take (suc k) (u ∷ us) h = (all_take (λ v. is_gt (cmp u v) ≡ false) k us h.0, rising-take k us h.1)

-- the k least of xs and ys are those of the k least of xs, and ys
pub merged : (k : ℕ) (xs ys : List Pair) → take k (sorted pair_cmp (take k (sorted pair_cmp xs) ++ ys)) ≡ take k (sorted pair_cmp (xs ++ ys))
merged k xs [] =
    ap (λ (w : List Pair). take k (sorted pair_cmp w)) (append-nil (take k (sorted pair_cmp xs)))
    ∙ ap (take k) (sorted-rising pair_cmp pair_total pair_exact (take k (sorted pair_cmp xs)) (rising-take pair_cmp k (sorted pair_cmp xs) (sorted-rises pair_cmp pair_total pair_exact xs)))
    ∙ take-take k k (sorted pair_cmp xs) (omega arith)
    ∙ sym (ap (λ (w : List Pair). take k (sorted pair_cmp w)) (append-nil xs))
merged k xs (y ∷ ys) =
    ap (take k) (sorted-middle pair_cmp pair_total pair_exact (take k (sorted pair_cmp xs)) y ys)
    ∙ sym (take-placed pair_cmp k y (sorted pair_cmp (take k (sorted pair_cmp xs) ++ ys)))
    ∙ ap (λ (w : List Pair). take k (placed pair_cmp y w)) (merged k xs ys)
    ∙ take-placed pair_cmp k y (sorted pair_cmp (xs ++ ys))
    ∙ sym (ap (take k) (sorted-middle pair_cmp pair_total pair_exact xs y ys))

-- what has the same k least still has them with more pairs behind it
pub merged_with : (k : ℕ) (held all more : List Pair) → take k (sorted pair_cmp held) ≡ take k (sorted pair_cmp all) → take k (sorted pair_cmp (held ++ more)) ≡ take k (sorted pair_cmp (all ++ more))
merged_with k held all more same =
    sym (merged k held more) ∙ ap (λ (w : List Pair). take k (sorted pair_cmp (w ++ more))) same ∙ merged k all more

-- the k least have themselves as their k least
pub kept_again : (k : ℕ) (all : List Pair) → take k (sorted pair_cmp (take k (sorted pair_cmp all))) ≡ take k (sorted pair_cmp all)
kept_again k all =
    ap (λ (w : List Pair). take k (sorted pair_cmp w)) (sym (append-nil (take k (sorted pair_cmp all)))) ∙ merged k all [] ∙ ap (λ (w : List Pair). take k (sorted pair_cmp w)) (append-nil all)

-- one that is not before another is one that the other is not above
not_above : (ys : List TruePair) (z : TruePair) → AllByRecursion (λ r. is_lt (by_key z r) ≡ false) ys → AllByRecursion (λ y. is_gt (pair_cmp y (key_of z)) ≡ false) (map key_of ys)
not_above [] z h = tt
not_above (y ∷ ys) z h = (gt_from_lt pair_cmp pair_total (key_of y) (key_of z) h.0, not_above ys z h.1)

heads : {X Y : Type 0} (P : X → Y → Type 0) (x : X) (xs : List X) (ys : List Y) → AllByRecursion (λ y. AllByRecursion (λ x. P x y) (x ∷ xs)) ys → AllByRecursion (λ y. P x y) ys
heads P x xs [] h = tt
heads P x xs (y ∷ ys) h = (h.0.0, heads P x xs ys h.1)

tails : {X Y : Type 0} (P : X → Y → Type 0) (x : X) (xs : List X) (ys : List Y) → AllByRecursion (λ y. AllByRecursion (λ x. P x y) (x ∷ xs)) ys → AllByRecursion (λ y. AllByRecursion (λ x. P x y) xs) ys
tails P x xs [] h = tt
tails P x xs (y ∷ ys) h = (h.0.1, tails P x xs ys h.1)

-- what holds of each of ys and each of xs holds of each of xs and each of ys
swapped : {X Y : Type 0} (P : X → Y → Type 0) (xs : List X) (ys : List Y) → AllByRecursion (λ y. AllByRecursion (λ x. P x y) xs) ys → AllByRecursion (λ x. AllByRecursion (λ y. P x y) ys) xs
swapped P [] ys h = tt
swapped P (x ∷ xs) ys h = (heads P x xs ys h, swapped P xs ys (tails P x xs ys h))

none_above : (ys rest : List TruePair) → AllByRecursion (λ z. AllByRecursion (λ r. is_lt (by_key z r) ≡ false) ys) rest → AllByRecursion (λ z. AllByRecursion (λ y. is_gt (pair_cmp y z) ≡ false) (map key_of ys)) (map key_of rest)
none_above ys [] h = tt
none_above ys (z ∷ rest) h = (not_above ys z h.0, none_above ys rest h.1)

sorted_nil : sorted pair_cmp [] ≡ []
unfolding sorted
sorted_nil = refl

-- the k least of pairs are the first k of them in rising order
pub k_least_is_first : (k : ℕ) (xs ys : List TruePair) → IsKLeast (by_cmp by_key) k xs ys → map key_of ys ≡ take k (sorted pair_cmp (map key_of xs))
k_least_is_first k xs ys least =
    let rest : List TruePair = least.2 in
    let keys : List Pair = map key_of ys in
    let left : AllByRecursion (λ z. AllByRecursion (λ r. is_lt (by_key z r) ≡ false) ys) rest =
    recursion_from_All (λ z. AllByRecursion (λ r. is_lt (by_key z r) ≡ false) ys) rest (λ i d lt. recursion_from_All (λ r. is_lt (by_key (get_or rest i d) r) ≡ false) ys (least.5 i d lt)) in
    let behind : sorted pair_cmp (keys ++ map key_of rest) ≡ keys ++ sorted pair_cmp (map key_of rest) =
    sorted-front pair_cmp keys (map key_of rest) (rising_from_sort pair_cmp pair_total key_of ys least.0)
    (swapped (λ y z. is_gt (pair_cmp y z) ≡ false) keys (map key_of rest) (none_above ys rest left)) in
    let all : sorted pair_cmp (map key_of xs) ≡ keys ++ sorted pair_cmp (map key_of rest) =
    sym (sorted-permutation pair_cmp pair_total pair_exact (map key_of xs) (map key_of (ys ++ rest)) (IsPermutation-map key_of xs (ys ++ rest) least.3))
    ∙ ap (sorted pair_cmp) (map-append key_of ys rest) ∙ behind in
    sym (ap (take k) all ∙ front k keys (sorted pair_cmp (map key_of rest)) (omega (arith, least.1, length-map ys key_of)) (λ few. ap (λ (w : List TruePair). sorted pair_cmp (map key_of w)) (least.4 (omega (arith, few, length-map ys key_of))) ∙ sorted_nil))

pub near-nil : (most : Option ℕ) → near most [] ≡ []
near-nil None = refl
near-nil (Some m) = refl

-- what a pair more adds to the near ones
pub near-push : (most : Option ℕ) (xs : List Pair) (x : Pair) → near most (xs ++ x ∷ []) ≡ near most xs ++ cond (is_near most x) (x ∷ []) []
near-push None xs x = refl
near-push (Some m) xs x = filter-append (λ (pair : Pair). nat_le pair.0 m) xs (x ∷ [])

-- k near pairs stay near with more behind them
reach_grows : (k : ℕ) (held more : List Pair) (m : ℕ) → IsReach k held m → IsReach k (held ++ more) m
reach_grows k held more m is = record {
  some = is.some;
  enough = omega (arith, is.enough, length-append held more);
  kth = omega (arith, is.kth, kth_falls k held more is.some is.enough);
}

pub reaches_on : (k : ℕ) (held more : List Pair) (most : Option ℕ) → ForSome most (IsReach k held) → ForSome most (IsReach k (held ++ more))
reaches_on k held more most is = λ m e. reach_grows k held more m (is m e)

-- far pairs are none of the k least
far_is_out : (k : ℕ) (held more : List Pair) (m : ℕ) → IsReach k held m
    → take k (sorted pair_cmp (held ++ near (Some m) more)) ≡ take k (sorted pair_cmp (held ++ more))
far_is_out k held [] m is = refl
far_is_out k held (x ∷ more) m is =
    let onto : (rest : List Pair) → (held ++ x ∷ []) ++ rest ≡ held ++ x ∷ rest = append_assoc held (x ∷ []) in
    elim (cases_Bool (nat_le x.0 m)) [
      | inl le ↦
          ap (λ b. take k (sorted pair_cmp (held ++ cond b (x ∷ near (Some m) more) (near (Some m) more)))) le
          ∙ ap (λ (w : List Pair). take k (sorted pair_cmp w)) (sym (onto (near (Some m) more)))
          ∙ far_is_out k (held ++ x ∷ []) more m (reach_grows k held (x ∷ []) m is)
          ∙ ap (λ (w : List Pair). take k (sorted pair_cmp w)) (onto more)
      | inr gt ↦
          let above : kth_least k held < x.0 = omega (arith, is.kth, leb-false x.0 m gt) in
          ap (λ b. take k (sorted pair_cmp (held ++ cond b (x ∷ near (Some m) more) (near (Some m) more)))) gt
          ∙ far_is_out k held more m is
          ∙ merged_with k held (held ++ x ∷ []) more (sym (far_stays k held x is.some is.enough above))
          ∙ ap (λ (w : List Pair). take k (sorted pair_cmp w)) (onto more)
    ]

pub near_are_enough : (k : ℕ) (held more : List Pair) (most : Option ℕ) → ForSome most (IsReach k held)
    → take k (sorted pair_cmp (held ++ near most more)) ≡ take k (sorted pair_cmp (held ++ more))
near_are_enough k held more None is = refl
near_are_enough k held more (Some m) is = far_is_out k held more m (is m refl)

-- the last of k pairs in rising order is as far as they reach
pub last_is_reach : (k last : ℕ) (pairs : List TruePair) (d : TruePair) → last + 1 ≡ k → last < length pairs → IsRising pair_cmp (map key_of pairs)
    → IsReach k (map key_of pairs) (get_or pairs last d).distance
last_is_reach k last pairs d is lt rising =
    let place : k - 1 ≡ last = omega (arith, is) in
    let at : get_or (map key_of pairs) (k - 1) (0, 0) ≡ key_of (get_or pairs last d) =
    ap (λ (i : ℕ). get_or (map key_of pairs) i (0, 0)) place ∙ get_or-map key_of pairs last d (0, 0) lt in
    record {
      some = omega (arith, is);
      enough = omega (arith, is, lt, length-map pairs key_of);
      kth = omega (arith, ap (λ (w : List Pair). (get_or w (k - 1) (0, 0)).0) (sorted-rising pair_cmp pair_total pair_exact (map key_of pairs) rising), ap (λ (p : Pair). p.0) at);
    }
