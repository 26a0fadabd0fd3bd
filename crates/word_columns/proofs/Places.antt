-- Words by their blocks.
use Rattle.std.proofs.Common.{ℕ, ◌≡◌, ◌+◌, ◌-◌, ◌*◌, ◌/◌, ◌%◌, ◌<◌, ◌≤◌, get_or, length, ap, ap₂, sym, ◌∙◌, arith, inl, inr, eq-zero-or-pos, List, ◌^◌, w8, w16, Fits}
use Rattle.std.proofs.Math.ListN.{get_or-eq_default}
use Rattle.book_model.proofs.Gaps.{scaled_le, squared_le}
use Rattle.book_model.proofs.SumLemmas.{sum_below-bounded}
use Rattle.book_model.specs.Sums.{sum_below}
use Rattle.book_model.specs.Distance.{squared_gap}
use Rattle.word_columns.specs.Columns.{component, component_of, column_distance, pairs_of, squared, AreColumns}
use Rattle.word_columns.specs.Lanes.{HasLanes}
use Rattle.word_columns.proofs.Lanes.{other, through}
use Rattle.word_columns.proofs.Sums.{component_lt}

-- block b has the words from b * 16 on
pub place : (cs : List ℕ) (n b k : ℕ) → k < 16 → (f : (ℕ → ℕ) → ℕ) → f (component cs (b * (32 * pairs_of n)) k) ≡ f (component_of cs n (b * 16 + k))
place cs n b k h f = ap₂ (λ m j. f (component cs (m * (32 * pairs_of n)) j)) {x = b} {y = (b * 16 + k) / 16} (omega arith) (omega arith)

-- the squares of a block's words
pub squares_at : (cs norms : List ℕ) (n count b : ℕ) → AreColumns n cs norms count → b * 16 < count
    → (k : ℕ) → k < 16 → get_or norms (b * 16 + k) 0 ≡ sum_below n (λ i. squared (component cs (b * (32 * pairs_of n)) k i))
squares_at cs norms n count b are some k h = are.squares (b * 16 + k) (omega arith) ∙ sym (place cs n b k h (λ g. sum_below n (λ i. squared (g i))))

-- a block's products, by its number
pub products_at : (cs x v u : List ℕ) (b at : ℕ) → at ≡ b * (32 * (length x / 2 + length x % 2)) → HasLanes 16 v (λ k. get_or u k 0) → HasLanes 16 u (λ k. sum_below (length x) (λ i. get_or x i 0 * component cs at k i))
    → HasLanes 16 v (λ k. sum_below (length x) (λ i. get_or x i 0 * component cs (b * (32 * pairs_of (length x))) k i))
products_at cs x v u b at e p q =
    let f : ℕ → ℕ → ℕ = λ a k. sum_below (length x) (λ i. get_or x i 0 * component cs a k i) in
    let is : at ≡ b * (32 * pairs_of (length x)) = e ∙ ap (λ m. b * (32 * m)) {x = length x / 2 + length x % 2} {y = pairs_of (length x)} (omega arith) in
    through 16 v u (f (b * (32 * pairs_of (length x)))) p (other 16 (f at) (f (b * (32 * pairs_of (length x)))) u (λ k h. ap (λ a. f a k) is) q)

-- one more block of 16 of m numbers, each of which is what f says
pub words_more : (f : ℕ → ℕ) (m : ℕ) (old new : List ℕ) (b : ℕ) → ((w : ℕ) → w < b * 16 → w < m → get_or old w 0 ≡ f w)
    → ((k : ℕ) → k < 16 → b * 16 + k < m → get_or new (b * 16 + k) 0 ≡ f (b * 16 + k))
    → ((w : ℕ) → w < b * 16 → get_or new w 0 ≡ get_or old w 0) → (w : ℕ) → w < (b + 1) * 16 → w < m → get_or new w 0 ≡ f w
words_more f m old new b before block stays w h l =
    elim (eq-zero-or-pos (b * 16 - w)) [
      | inl z ↦
          let e : b * 16 + (w - b * 16) ≡ w = omega (arith, z) in
          ap (λ m. get_or new m 0) (sym e) ∙ block (w - b * 16) (omega (arith, z, h)) (omega (arith, e, l)) ∙ ap f e
      | inr p ↦ stays w (omega (arith, p)) ∙ before w (omega (arith, p)) l
    ]

module _ (scale : ℕ) (cs x : List ℕ) where
  -- one more block of the m words
  pub block_more : (m : ℕ) (old new : List ℕ) (b : ℕ) → ((w : ℕ) → w < b * 16 → w < m → get_or old w 0 ≡ column_distance scale cs x w)
      → ((k : ℕ) → k < 16 → b * 16 + k < m → get_or new (b * 16 + k) 0 ≡ sum_below (length x) (λ i. squared_gap scale (get_or x i 0) (component cs (b * (32 * pairs_of (length x))) k i)))
      → ((w : ℕ) → w < b * 16 → get_or new w 0 ≡ get_or old w 0) → (w : ℕ) → w < (b + 1) * 16 → w < m → get_or new w 0 ≡ column_distance scale cs x w
  block_more m old new b before block stays w h l =
      words_more (column_distance scale cs x) m old new b before
      (λ k s t. block k s t ∙ place cs (length x) b k s (λ g. sum_below (length x) (λ i. squared_gap scale (get_or x i 0) (g i)))) stays w h l

  -- distances are small
  pub all_small : (found : List ℕ) → scale ≤ 8 → length x ≤ 1024 → ((i : ℕ) → Fits w8 (get_or x i 0)) → ((i : ℕ) → Fits w16 (get_or cs i 0))
      → ((w : ℕ) → w < length found → get_or found w 0 ≡ column_distance scale cs x w) → (w : ℕ) → get_or found w 0 ≤ 4397912294400
  all_small found low short bytes fits each w =
      elim (eq-zero-or-pos (length found - w)) [
        | inl z ↦ omega (arith, get_or-eq_default found 0 {n = w} (omega (arith, z)))
        | inr p ↦
            let most : column_distance scale cs x w ≤ length x * 4294836225 =
            sum_below-bounded (length x) (λ i. squared_gap scale (get_or x i 0) (component_of cs (length x) w i)) 4294836225 (λ i h.
            squared_le (get_or x i 0 * 2 ^ scale) (component_of cs (length x) w i) 65535
            (omega (arith, scaled_le (get_or x i 0) scale (omega (arith, (bytes i).fits)) low))
            (omega (arith, component_lt cs fits (w / 16 * (32 * pairs_of (length x))) (w % 16) i))) in
            omega (arith, each w (omega (arith, p)), most, short)
      ]
