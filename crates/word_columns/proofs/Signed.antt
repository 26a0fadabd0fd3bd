-- Sums of products of signed numbers that wrap, and what they come to.
use Rattle.std.proofs.Common.{◌≡◌, ℕ, zero, suc, ◌+◌, ◌*◌, ◌%◌, ◌<◌, ◌≤◌, Bool, true, false, ltb, List, get_or, refl, ap, ap₂, ◌∙◌, arith, ltb-true, ltb-false, bit_xor}
use Rattle.std.proofs.lemmas.Nat.{mul-le}
use Rattle.std.proofs.lemmas.Simd.{get_or-chunk}
use lib.Lanes.{chunk}
use Rattle.book_model.specs.Sums.{sum_below}
use Rattle.word_columns.specs.Columns.{less_half, signed, component}
use Rattle.word_columns.specs.Left.{start_of}
use Rattle.word_columns.proofs.Sums.{dots_more, dots_last, loaded}

module _ (cs ys : List ℕ) (at start k : ℕ) (h : k < 16) where
  -- what component i adds
  abbrev pub term : ℕ → ℕ
  term i = less_half (component cs at k i) * signed (get_or ys i 0)

  -- what a lane holds after m components
  abbrev pub held : ℕ → ℕ
  held m = (start + sum_below m term) % 4294967296

  first_of : (p : ℕ) → bit_xor (get_or (chunk (at + 32 * p) 32 cs) (2 * k) 0) 32768 ≡ component cs at k (2 * p)
  first_of p =
      ap (λ j. bit_xor (get_or (chunk (at + 32 * p) 32 cs) j 0) 32768) {x = 2 * k} {y = 2 * k + 0} (omega arith) ∙ loaded cs at k p 0 h (omega arith) ∙ ap (component cs at k) {x = 2 * p + 0} {y = 2 * p} (omega arith)

  pub pair_more : (p s r : ℕ) → s ≡ held (2 * p)
      → r ≡ (s + (less_half (bit_xor (get_or (chunk (at + 32 * p) 32 cs) (2 * k) 0) 32768) * signed (get_or (chunk (2 * p) 2 ys) 0 0) + less_half (bit_xor (get_or (chunk (at + 32 * p) 32 cs) (2 * k + 1) 0) 32768) * signed (get_or (chunk (2 * p) 2 ys) 1 0))) % 4294967296
      → r ≡ held (2 * (p + 1))
  pair_more p s r es er =
      let number : get_or (chunk (2 * p) 2 ys) 0 0 ≡ get_or ys (2 * p) 0 = get_or-chunk (2 * p) 2 ys 0 0 (omega arith) ∙ ap (λ j. get_or ys j 0) {x = 2 * p + 0} {y = 2 * p} (omega arith) in
      er ∙ dots_more start p term s _ _ es (ap₂ (λ a b. less_half a * signed b) (first_of p) number)
      (ap₂ (λ a b. less_half a * signed b) (loaded cs at k p 1 h (omega arith)) (get_or-chunk (2 * p) 2 ys 1 0 (omega arith)))

  pub pair_last : (p q s r z : ℕ) → s ≡ held (2 * p) → q ≡ p
      → r ≡ (s + (less_half (bit_xor (get_or (chunk (at + 32 * q) 32 cs) (2 * k) 0) 32768) * signed (get_or ys (2 * q) 0) + z * signed 0)) % 4294967296
      → r ≡ held (2 * p + 1)
  pair_last p q s r z es is er =
      let first : bit_xor (get_or (chunk (at + 32 * q) 32 cs) (2 * k) 0) 32768 ≡ component cs at k (2 * p) = ap (λ m. bit_xor (get_or (chunk (at + 32 * m) 32 cs) (2 * k) 0) 32768) is ∙ first_of p in
      er ∙ dots_last start p term s _ _ es (ap₂ (λ a b. less_half a * signed b) first (ap (λ m. get_or ys (2 * m) 0) is)) (omega arith)

-- ---- what the sums that wrap are

-- a product of two numbers that are less by 32768 and 128, of which each wraps or not
step : (e f a b u n : ℕ) → a + 32768 ≡ u + 4294967296 * e → b + 128 ≡ n + 4294967296 * f
    → (a * b + 32768 * n + 128 * u) + 4294967296 * (32768 * f + 128 * e) ≡ (u * n + 4194304) + 4294967296 * (u * f + e * n + 4294967296 * (e * f))
step e f a b u n p q =
    let whole : (a + 32768) * (b + 128) ≡ (u + 4294967296 * e) * (n + 4294967296 * f) = ap₂ (λ x y. x * y) p q in
    omega (arith, whole, p, q)

wraps : (x y p q : ℕ) → x + 4294967296 * p ≡ y + 4294967296 * q → x % 4294967296 ≡ y % 4294967296
wraps x y p q e = omega (arith, e)

less_is : (u : ℕ) → u < 65536 → (e : ℕ) × (less_half u + 32768 ≡ u + 4294967296 * e)
less_is u small = go (ltb u 32768) refl
  where
    go : (t : Bool) → ltb u 32768 ≡ t → (e : ℕ) × (less_half u + 32768 ≡ u + 4294967296 * e)
    go true is = (1, omega (arith, ltb-true _ _ is))
    go false is = (0, omega (arith, ltb-false _ _ is))

signed_is : (n : ℕ) → n < 512 → (f : ℕ) × (less_half (n + 32640) + 128 ≡ n + 4294967296 * f)
signed_is n small = go (ltb n 128) refl
  where
    go : (t : Bool) → ltb n 128 ≡ t → (f : ℕ) × (less_half (n + 32640) + 128 ≡ n + 4294967296 * f)
    go true is = (1, omega (arith, ltb-true _ _ is))
    go false is = (0, omega (arith, ltb-false _ _ is))

pub one_wraps : (u n : ℕ) → u < 65536 → n < 512 → (less_half u * less_half (n + 32640) + 32768 * n + 128 * u) % 4294967296 ≡ (u * n + 4194304) % 4294967296
one_wraps u n su sn =
    let a = less_is u su in
    let b = signed_is n sn in
    wraps _ _ _ _ (step a.0 b.0 (less_half u) (less_half (n + 32640)) u n a.1 b.1)

module _ (u h : ℕ → ℕ) where
  all_wrap : (n : ℕ) → ((i : ℕ) → i < n → u i < 65536) → ((i : ℕ) → i < n → h i < 512)
      → (sum_below n (λ i. less_half (u i) * less_half (h i + 32640)) + 32768 * sum_below n h + 128 * sum_below n u) % 4294967296 ≡ (sum_below n (λ i. u i * h i) + n * 4194304) % 4294967296
  all_wrap zero small low = refl
  all_wrap (suc n) small low =
      omega (arith, all_wrap n (λ i l. small i (omega arith)) (λ i l. low i (omega arith)), one_wraps (u n) (h n) (small n (omega arith)) (low n (omega arith)))

  sum_le : (n : ℕ) → ((i : ℕ) → i < n → u i < 65536) → sum_below n u ≤ n * 65535
  sum_le zero small = omega arith
  sum_le (suc n) small = omega (arith, sum_le n (λ i l. small i (omega arith)), small n (omega arith))

  products_le : (n : ℕ) → ((i : ℕ) → i < n → h i < 512) → sum_below n (λ i. u i * h i) ≤ sum_below n u * 511
  products_le zero low = omega arith
  products_le (suc n) low = omega (arith, products_le n (λ i l. low i (omega arith)), mul-le (u n) (h n) (u n) 511 (omega arith) (omega (arith, low n (omega arith))))

  -- a lane that begins above 0 does not wrap
  pub mended : (n r start : ℕ) → n ≤ 128 → ((i : ℕ) → i < n → u i < 65536) → ((i : ℕ) → i < n → h i < 512) → start ≡ start_of n (sum_below n h)
      → r ≡ (start + sum_below n (λ i. less_half (u i) * less_half (h i + 32640))) % 4294967296
      → r + 128 * sum_below n u ≡ sum_below n (λ i. u i * h i) + 1073741824
  mended n r start short small low es er = omega (arith, es, er, short, all_wrap n small low, sum_le n small, products_le n low)
