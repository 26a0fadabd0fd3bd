-- Keys sort as the pairs that they stand for.
use Rattle.std.proofs.Common.{◌≡◌, ℕ, ◌+◌, ◌-◌, ◌*◌, ◌/◌, ◌%◌, ◌≤◌, ◌<◌, false, List, [], length, map, get_or, refl, sym, ap, ap₂, subst, ◌∙◌, arith, inl, inr, eq-zero-or-pos}
use Rattle.std.specs.List.Sorted.{IsPermutation, IsSorted}
use Rattle.std.specs.declared.cmp.Ordering.TheVariants.{Equal, Greater}
use Rattle.std.specs.Ordering.{nat_cmp, ordering_then, is_lt}
use Rattle.std.specs.Cmp.{nat_cmp_is}
use Rattle.std.proofs.lemmas.Map.Keys.{ge_from_not_lt}
use Rattle.std.proofs.lemmas.List.{ext_get_or, get_or-map, length-map}
use Rattle.std.proofs.lemmas.List.FromFn.{get_or-map-range_with_len, length-map-range_with_len}
use Rattle.book_model.specs.Sums.{numbers_below}
use Rattle.book_model.specs.Order.{Pair, sorted, pair_cmp}
use Rattle.book_model.specs.Distance.{dist, distances}
use Rattle.book_model.proofs.Rising.{sorted_from_sort}
use Rattle.book_model.proofs.Sorting.{pair_total, pair_exact}
use Rattle.coarse_rank.specs.Ranked.{rank_of}

not_below : (a b : ℕ) → b ≤ a → is_lt (nat_cmp a b) ≡ false
not_below a b le = elim (eq-zero-or-pos (a - b)) [
  | inl z ↦ sym (ap is_lt (nat_cmp_is a b Equal (omega (arith, z, le))))
  | inr p ↦ sym (ap is_lt (nat_cmp_is a b Greater (omega (arith, p))))
]

-- a key that is not below another stands for a pair that is not
pair_not_below : (a b : ℕ) → is_lt (nat_cmp a b) ≡ false → is_lt (pair_cmp (rank_of a) (rank_of b)) ≡ false
pair_not_below a b h =
    let le : b ≤ a = ge_from_not_lt a b h in
    let then = nat_cmp (a % 1024) (b % 1024) in
    elim (eq-zero-or-pos (a / 1024 - b / 1024)) [
      | inl z ↦ subst (λ o. is_lt (ordering_then o then) ≡ false) (nat_cmp_is (a / 1024) (b / 1024) Equal (omega (arith, z, le))) (not_below (a % 1024) (b % 1024) (omega (arith, z, le)))
      | inr p ↦ subst (λ o. is_lt (ordering_then o then) ≡ false) (nat_cmp_is (a / 1024) (b / 1024) Greater (omega (arith, p))) refl
    ]

-- sorted keys stand for the sorted pairs
pub sorted_keys : (old new : List ℕ) → IsPermutation old new → IsSorted nat_cmp new → map rank_of new ≡ sorted pair_cmp (map rank_of old)
sorted_keys old new moved rises =
    sorted_from_sort pair_cmp pair_total pair_exact rank_of old new moved (λ k d low high. pair_not_below (get_or new (k + 1) d) (get_or new k d) (rises k d low high))

-- the pairs of numbered distances
pub keys_are : (f : ℕ) (words : List (List ℕ)) (x ds keys : List ℕ) → length words ≤ 1024 → ds ≡ distances f words x → length keys ≡ length ds
    → ((w : ℕ) → w < length keys → get_or keys w 0 ≡ get_or ds w 0 * 1024 + w)
    → map rank_of keys ≡ map (λ i. (dist f x (get_or words i []), i)) (numbers_below (length words))
keys_are f words x ds keys few is long each =
    let pair : ℕ → Pair = λ i. (dist f x (get_or words i []), i) in
    let size : length keys ≡ length words = long ∙ ap length is ∙ length-map words (dist f x) in
    let count : length (map rank_of keys) ≡ length words = length-map keys rank_of ∙ size in
    ext_get_or (0, 0) (map rank_of keys) (map pair (numbers_below (length words))) (count ∙ sym (length-map-range_with_len pair 0 (length words))) (λ i lt.
    let h : i < length words = omega (arith, lt, count) in
    let d : ℕ = get_or ds i 0 in
    let value : d ≡ dist f x (get_or words i []) = ap (λ (l : List ℕ). get_or l i 0) is ∙ get_or-map (dist f x) words i [] 0 h in
    let key : get_or keys i 0 ≡ d * 1024 + i = each i (omega (arith, h, size)) in
    let one : get_or keys i 0 / 1024 ≡ d = omega (arith, key, h, few) in
    let two : get_or keys i 0 % 1024 ≡ i = omega (arith, key, h, few) in
    get_or-map rank_of keys i 0 (0, 0) (omega (arith, h, size)) ∙ ap₂ (λ a b. (a, b)) (one ∙ value) two ∙ sym (get_or-map-range_with_len pair 0 (length words) i i (0, 0) h (omega arith)))
