-- The sums, a field and a word at a time.
use Rattle.std.proofs.Common.{◌≡◌, ℕ, zero, suc, Bool, true, false, cond, ltb, ◌+◌, ◌*◌, ◌/◌, ◌%◌, ◌^◌, ◌<◌, ◌≤◌, List, [], length, get_or, refl, sym, ap, ap₂, ◌∙◌, arith, ltb-true, ltb-false, add-one, below_more, ◌++◌, ◌∷◌, map}
use Rattle.std.proofs.Math.Nat.{mod-eq_of_lt, mod-lt, mul-le-mul_right}
use Rattle.std.proofs.lemmas.Nat.{pow_pos, mod-mul-add}
use Rattle.std.proofs.lemmas.List.{get_or-map, get_or_append_left, get_or_push, length-map, map_push}
use Rattle.book_model.specs.Sums.{sum_below}
use Rattle.shape_core.specs.Word.{field_of, offset_of, code_of_words}
use Rattle.book_model.proofs.SumLemmas.{sum_below-same, sum_below-past, sum_below-split}
use Rattle.shape_core.proofs.Codes.{get_or-code_of_words}
use Rattle.lane_kernels.specs.Table.{Table}
use Rattle.lane_kernels.specs.Sums.{entries_at, width_at, AreTables, HasTables, picked, picked_or_none, word_sum, front_sum, code_sum, lane_words}

taken : (a b n : ℕ) → a < b → cond (ltb a b) n 0 ≡ n
taken a b n lt = go (ltb a b) refl
  where
    go : (t : Bool) → ltb a b ≡ t → cond t n 0 ≡ n
    go true e = refl
    go false e = absurd (omega (arith, ltb-false _ _ e))

left_out : (a b n : ℕ) → b ≤ a → cond (ltb a b) n 0 ≡ 0
left_out a b n le = go (ltb a b) refl
  where
    go : (t : Bool) → ltb a b ≡ t → cond t n 0 ≡ 0
    go true e = absurd (omega (arith, ltb-true _ _ e))
    go false e = refl

module _ (widths : List ℕ) (tables : List Table) (at word : ℕ) where
  pub picked_in : (f : ℕ) → f < length widths → picked_or_none widths tables at word f ≡ picked widths tables at word f
  picked_in f lt = taken f (length widths) _ lt

  pub picked_out : (f : ℕ) → length widths ≤ f → picked_or_none widths tables at word f ≡ 0
  picked_out f le = left_out f (length widths) _ le

  -- four steps take in every field
  pub word_sum-four : length widths ≤ 4 → sum_below 4 (picked_or_none widths tables at word) ≡ word_sum widths tables at word
  word_sum-four le =
      sum_below-past (length widths) 4 (picked_or_none widths tables at word) le picked_out
      ∙ sum_below-same (length widths) (picked_or_none widths tables at word) (picked widths tables at word) picked_in

-- p is the entry at j's low w bits of the table at + f, and j is field f of x
pub picked_is : (widths : List ℕ) (tables : List Table) (at f x o w p j : ℕ) (t : Table) → at + f < length tables → o ≡ offset_of widths f → w ≡ get_or widths f 0
    → j ≡ x / 2 ^ o % 2 ^ w → p ≡ get_or (get_or tables (at + f) t).entries (j % 2 ^ w) 0 → p ≡ picked widths tables at x f
picked_is widths tables at f x o w p j t lt eo ew ej ep =
    let small : j % 2 ^ w ≡ x / 2 ^ o % 2 ^ w = ap (λ n. n % 2 ^ w) ej ∙ mod-eq_of_lt (mod-lt (x / 2 ^ o) (pow_pos w)) in
    let named : x / 2 ^ o % 2 ^ w ≡ field_of widths x f = ap₂ (λ a b. x / 2 ^ a % 2 ^ b) eo ew in
    ep ∙ ap₂ (λ es n. get_or es n 0) (sym (get_or-map (λ u. u.entries) tables (at + f) t [] lt)) (small ∙ named)

-- the tables of word w begin at place w * FIELDS
pub HasTables-of : (widths : List ℕ) (n w : ℕ) (tables : List Table) → AreTables widths n tables → w < n → HasTables widths (w * length widths) tables
HasTables-of widths n w tables are lt =
    let whole : (w + 1) * length widths ≤ n * length widths = mul-le-mul_right (length widths) (omega arith) in
    record {
      room = omega (arith, whole, are.count);
      each = λ f h. are.each (w * length widths + f) (omega (arith, whole, are.count)) ∙ ap (λ m. get_or widths m 0) (mod-mul-add w (length widths) f h);
    }

-- one more table of its field's width
pub width_at-push : (widths : List ℕ) (tables : List Table) (t : Table) (j : ℕ) → length tables ≡ j → ((i : ℕ) → i < j → width_at tables i ≡ get_or widths (i % length widths) 0)
    → t.width ≡ get_or widths (j % length widths) 0 → (i : ℕ) → i < j + 1 → width_at (tables ++ t ∷ []) i ≡ get_or widths (i % length widths) 0
width_at-push widths tables t j long each is =
    let pushed = map_push (λ (u : Table). u.width) tables t in
    let size = length-map tables (λ (u : Table). u.width) in
    below_more (λ i. width_at (tables ++ t ∷ []) i ≡ get_or widths (i % length widths) 0) j
    (λ i h. ap (λ l. get_or l i 0) pushed ∙ get_or_append_left (map (λ (u : Table). u.width) tables) (t.width ∷ []) 0 i (omega (arith, size)) ∙ each i h)
    (ap (λ l. get_or l j 0) pushed ∙ get_or_push (map (λ (u : Table). u.width) tables) t.width 0 j (size ∙ long) ∙ is)

-- one more word of the code in a lane
pub front_sum-more : (widths : List ℕ) (tables : List Table) (words : List (List ℕ)) (lane w fields : ℕ) → w < length words → fields ≡ length widths
    → front_sum widths tables (lane_words words lane) (w + 1) ≡ front_sum widths tables (lane_words words lane) w + word_sum widths tables (w * fields) (get_or (get_or words w []) lane 0)
front_sum-more widths tables words lane w fields lt is =
    ap (front_sum widths tables (lane_words words lane)) (add-one w)
    ∙ ap₂ (λ at x. front_sum widths tables (lane_words words lane) w + word_sum widths tables at x) (ap (λ n. w * n) (sym is)) (get_or-map (λ r. get_or r lane 0) words w [] 0 lt)

-- ---- the sum over the places of a code

module _ (widths : List ℕ) (tables : List Table) (words : List ℕ) where
  front_sum-places : (n : ℕ) → n ≤ length words → front_sum widths tables words n ≡ sum_below (n * length widths) (λ j. get_or (entries_at tables j) (get_or (code_of_words widths words) j 0) 0)
  front_sum-places zero le = ap (λ k. sum_below k (λ j. get_or (entries_at tables j) (get_or (code_of_words widths words) j 0) 0)) {x = 0} {y = 0 * length widths} (omega arith)
  front_sum-places (suc n) le =
      let place : ℕ → ℕ = λ j. get_or (entries_at tables j) (get_or (code_of_words widths words) j 0) 0 in
      let at = n * length widths in
      let word = get_or words n 0 in
      let same = sum_below-same (length widths) (picked widths tables at word) (λ f. place (at + f)) (λ f h. ap (λ x. get_or (entries_at tables (at + f)) x 0) (sym (get_or-code_of_words widths words n f le h))) in
      let whole : sum_below (suc n * length widths) place ≡ sum_below (at + length widths) place = ap (λ k. sum_below k place) (omega arith) in
      omega (arith, front_sum-places n (omega arith), same, sum_below-split at (length widths) place, whole)

  -- what the words of a code pick is what its places pick, place j from table j
  pub code_sum-places : code_sum widths tables words ≡ sum_below (length words * length widths) (λ j. get_or (entries_at tables j) (get_or (code_of_words widths words) j 0) 0)
  code_sum-places = front_sum-places (length words) (omega arith)
