-- Squares of what is left, by squares and products.
use Rattle.std.proofs.Common.{◌≡◌, ℕ, zero, suc, ◌+◌, ◌-◌, ◌*◌, ◌/◌, ◌%◌, ◌^◌, ◌<◌, ◌≤◌, List, get_or, length, refl, ap, ap₂, ◌∙◌, arith, bit_xor, inl, inr, eq-zero-or-pos, w8, w16, Fits}
use Rattle.std.proofs.Math.ListN.{get_or-eq_default}
use Rattle.std.specs.Int.{abs_diff}
use Rattle.book_model.specs.Sums.{sum_below}
use Rattle.book_model.proofs.SumLemmas.{sum_below-same, sum_below-bounded}
use Rattle.book_model.proofs.Gaps.{scaled_le, squared_le}
use Rattle.word_columns.specs.Columns.{less_half, signed, squared, component, component_of, pairs_of, AreColumns}
use Rattle.word_columns.specs.Left.{rest_gap, column_rest, lifted, high_of, low_of, start_of, IsSplit}
use Rattle.word_columns.proofs.Squares.{square_of_gap}
use Rattle.word_columns.proofs.Signed.{mended}
use Rattle.word_columns.proofs.Sums.{component_lt}
use Rattle.word_columns.proofs.Places.{place}

-- a gap, by what is left
pub gap_is : (f x c u : ℕ) → c ≤ 65535 → rest_gap f x c u ≡ squared (abs_diff (lifted f x c) (u + 32768))
gap_is f x c u small =
    let same : abs_diff (x * 2 ^ f + 32768) (c + u) ≡ abs_diff (lifted f x c) (u + 32768) = omega (arith, small) in
    ap squared same

gap_split : (t u : ℕ) → squared (abs_diff t (u + 32768)) + 2 * (t * u) ≡ squared (abs_diff t 32768) + squared u + 65536 * u
gap_split t u = omega (arith, square_of_gap t (u + 32768), square_of_gap t 32768)

parts_of : (t : ℕ) → t + 128 ≡ 256 * high_of t + low_of t
parts_of t = omega arith

module _ (t u : ℕ → ℕ) where
  squares_split : (n : ℕ) → sum_below n (λ i. squared (abs_diff (t i) (u i + 32768))) + 2 * sum_below n (λ i. t i * u i) ≡ sum_below n (λ i. squared (abs_diff (t i) 32768)) + sum_below n (λ i. squared (u i)) + 65536 * sum_below n u
  squares_split zero = refl
  squares_split (suc n) = omega (arith, squares_split n, gap_split (t n) (u n))

  one_split : (i : ℕ) → t i * u i + 128 * u i ≡ 256 * (u i * high_of (t i)) + u i * low_of (t i)
  one_split i =
      let whole : (t i + 128) * u i ≡ (256 * high_of (t i) + low_of (t i)) * u i = ap (λ m. m * u i) (parts_of (t i)) in
      omega (arith, whole)

  products_split : (n : ℕ) → sum_below n (λ i. t i * u i) + 128 * sum_below n u ≡ 256 * sum_below n (λ i. u i * high_of (t i)) + sum_below n (λ i. u i * low_of (t i))
  products_split zero = refl
  products_split (suc n) = omega (arith, products_split n, one_split n)

  -- what a lane comes to, from the sums of products with both numbers
  pub lane_is : (n base norm high low high_start low_start : ℕ) → n ≤ 128 → ((i : ℕ) → i < n → u i < 65536) → ((i : ℕ) → i < n → t i < 131072)
      → base ≡ sum_below n (λ i. squared (abs_diff (t i) 32768)) → norm ≡ sum_below n (λ i. squared (u i))
      → high_start ≡ start_of n (sum_below n (λ i. high_of (t i))) → low_start ≡ start_of n (sum_below n (λ i. low_of (t i)))
      → high ≡ (high_start + sum_below n (λ i. less_half (u i) * less_half (high_of (t i) + 32640))) % 4294967296
      → low ≡ (low_start + sum_below n (λ i. less_half (u i) * less_half (low_of (t i) + 32640))) % 4294967296
      → sum_below n (λ i. squared (abs_diff (t i) (u i + 32768))) + 2 * (high * 256 + low) ≡ base + 551903297536 + norm
  lane_is n base norm high low high_start low_start short small within eb en eh el rh rl =
      let a = mended u (λ i. high_of (t i)) n high high_start short small (λ i l. omega (arith, within i l)) eh rh in
      let b = mended u (λ i. low_of (t i)) n low low_start short small (λ i l. omega arith) el rl in
      omega (arith, a, b, eb, en, squares_split n, products_split n)

-- the sum of products of a lane, word by word
lane_sum : (cs ys : List ℕ) (n b k : ℕ) (m : ℕ → ℕ) → k < 16 → ((i : ℕ) → i < n → bit_xor (get_or ys i 0) 32768 ≡ m i + 32640)
    → sum_below n (λ i. less_half (component cs (b * (32 * (n / 2 + n % 2))) k i) * signed (get_or ys i 0)) ≡ sum_below n (λ i. less_half (component_of cs n (b * 16 + k) i) * less_half (m i + 32640))
lane_sum cs ys n b k m h is =
    sum_below-same n _ _ (λ i l. ap₂ (λ a c. less_half a * less_half c)
    (ap (λ p. component cs (b * (32 * p)) k i) {x = n / 2 + n % 2} {y = pairs_of n} (omega arith) ∙ place cs n b k h (λ g. g i)) (is i l))

module _ (f : ℕ) (x c : List ℕ) (low : f ≤ 8) (bytes : (i : ℕ) → Fits w8 (get_or x i 0)) (small : (i : ℕ) → Fits w16 (get_or c i 0)) where
  -- what is left of component i
  abbrev left : ℕ → ℕ
  left i = lifted f (get_or x i 0) (get_or c i 0)

  left_le : (i : ℕ) → left i ≤ 130816
  left_le i = omega (arith, scaled_le (get_or x i 0) f (omega (arith, (bytes i).fits)) low)

  -- the sum of squares is small
  pub squares_le : (high lows : List ℕ) (base hs ls : ℕ) → IsSplit f x c high lows base hs ls → base ≤ length x * 17112825856
  squares_le high lows base hs ls is =
      omega (arith, is.squares, sum_below-bounded (length x) (λ i. squared (abs_diff (left i) 32768)) 17112825856 (λ i _. squared_le (left i) 32768 130816 (left_le i) (omega arith)))

  -- a distance, from the sums of products of its lane
  pub block_lane : (high lows cs norms : List ℕ) (base hs ls count b k first second norm : ℕ) → length x ≤ 128 → ((i : ℕ) → Fits w16 (get_or cs i 0))
      → IsSplit f x c high lows base hs ls → AreColumns (length x) cs norms count → b * 16 < count → k < 16
      → first ≡ (hs + sum_below (length x) (λ i. less_half (component cs (b * (32 * (length x / 2 + length x % 2))) k i) * signed (get_or high i 0))) % 4294967296
      → second ≡ (ls + sum_below (length x) (λ i. less_half (component cs (b * (32 * (length x / 2 + length x % 2))) k i) * signed (get_or lows i 0))) % 4294967296
      → norm ≡ get_or norms (b * 16 + k) 0
      → column_rest f cs x c (b * 16 + k) + 2 * (first * 256 + second) ≡ base + 551903297536 + norm
  block_lane high lows cs norms base hs ls count b k first second norm short fits is are some h e1 e2 en =
      let n = length x in
      let u : ℕ → ℕ = component_of cs n (b * 16 + k) in
      let gaps : column_rest f cs x c (b * 16 + k) ≡ sum_below n (λ i. squared (abs_diff (left i) (u i + 32768))) =
      sum_below-same n _ _ (λ i _. gap_is f (get_or x i 0) (get_or c i 0) (u i) (omega (arith, (small i).fits))) in
      ap (λ m. m + 2 * (first * 256 + second)) gaps
      ∙ lane_is left u n base norm first second hs ls short (λ i _. component_lt cs fits ((b * 16 + k) / 16 * (32 * pairs_of n)) ((b * 16 + k) % 16) i) (λ i _. omega (arith, left_le i)) is.squares
      (en ∙ are.squares (b * 16 + k) (omega arith)) is.high_start is.low_start
      (e1 ∙ ap (λ m. (hs + m) % 4294967296) (lane_sum cs high n b k (λ i. high_of (left i)) h is.highs)) (e2 ∙ ap (λ m. (ls + m) % 4294967296) (lane_sum cs lows n b k (λ i. low_of (left i)) h is.lows))

  -- distances are small
  rest_small : (cs : List ℕ) (w : ℕ) → length x ≤ 128 → ((i : ℕ) → Fits w16 (get_or cs i 0)) → column_rest f cs x c w ≤ 2198956147200
  rest_small cs w short fits =
      let n = length x in
      omega (
        arith,
        short,
        sum_below-bounded n (λ i. rest_gap f (get_or x i 0) (get_or c i 0) (component_of cs n w i)) 17179344900 (λ i _.
            squared_le (get_or x i 0 * 2 ^ f + 32768) (get_or c i 0 + component_of cs n w i) 131070 (omega (arith, scaled_le (get_or x i 0) f (omega (arith, (bytes i).fits)) low))
            (omega (arith, (small i).fits, component_lt cs fits (w / 16 * (32 * pairs_of n)) (w % 16) i))),
      )

  pub all_small : (cs found : List ℕ) → length x ≤ 128 → ((i : ℕ) → Fits w16 (get_or cs i 0)) → ((w : ℕ) → w < length found → get_or found w 0 ≡ column_rest f cs x c w) → (w : ℕ) → get_or found w 0 ≤ 2198956147200
  all_small cs found short fits each w =
      elim (eq-zero-or-pos (length found - w)) [
        | inl z ↦ omega (arith, get_or-eq_default found 0 {n = w} (omega (arith, z)))
        | inr p ↦ omega (arith, each w (omega (arith, p)), rest_small cs w short fits)
      ]
