-- Quotients by a fixed step, from its inverse.
use Rattle.std.proofs.Common.{◌≡◌, ℕ, ◌+◌, ◌-◌, ◌*◌, ◌/◌, ◌<◌, ◌≤◌, min, lit≤, subst, sym, ap, ◌∙◌, inl, inr, arith, eq-zero-or-pos}
use Rattle.std.proofs.Math.Nat.{div-mul-le_self, lt-div-mul-add, mul-le-mul_left, mul-le-mul_right, le_of_mul-le-mul_right, mul-div_cancel}
use Rattle.std.proofs.lemmas.Nat.{div-mul-add, div_below}

-- q steps fit, and no more
pub quotient_is : (gap step q : ℕ) → q * step ≤ gap → gap < q * step + step → gap / step ≡ q
quotient_is gap step q fits less =
    let parts : gap ≡ q * step + (gap - q * step) = omega arith in
    ap (λ n. n / step) parts ∙ div-mul-add q step (gap - q * step) (omega arith)

-- a gap times the inverse is the quotient or one less
module _ (step whole gap : ℕ) (some : 1 ≤ step) (within : gap ≤ whole) (real : 1 ≤ whole) where
  pub low_fits : gap * (whole / step) / whole * step ≤ gap
  low_fits =
      let m = whole / step in
      let low = gap * m / whole in
      let a : m * step ≤ whole = div-mul-le_self whole step in
      let b : low * whole ≤ gap * m = div-mul-le_self (gap * m) whole in
      let c : low * whole * step ≤ gap * m * step = mul-le-mul_right step b in
      let d : gap * (m * step) ≤ gap * whole = mul-le-mul_left gap a in
      le_of_mul-le-mul_right {m = low * step} {n = gap} {k = whole} (omega (arith, c, d)) real

  pub low_near : gap < gap * (whole / step) / whole * step + step + step
  low_near =
      let m = whole / step in
      let low = gap * m / whole in
      let a : whole ≤ m * step + step = omega (arith, lt-div-mul-add {a = whole} {b = step} some) in
      let b : gap * m + 1 ≤ low * whole + whole = omega (arith, lt-div-mul-add {a = gap * m} {b = whole} real) in
      let c : (gap * m + 1) * step ≤ (low * whole + whole) * step = mul-le-mul_right step b in
      let d : gap * whole ≤ gap * (m * step + step) = mul-le-mul_left gap a in
      let e : gap * step ≤ whole * step = mul-le-mul_right step within in
      elim (eq-zero-or-pos (low * step + step + step - gap)) [
        | inl past ↦
            let f : (low * step + step + step) * whole ≤ gap * whole = mul-le-mul_right whole (omega (arith, past)) in
            absurd (omega (arith, c, d, e, f, some))
        | inr ok ↦ omega (arith, ok)
      ]

many_fit : (gap step : ℕ) → 1 ≤ step → 255 * step ≤ gap → 255 ≤ gap / step
many_fit gap step some le = elim (eq-zero-or-pos (255 - gap / step)) [
  | inl enough ↦ omega (arith, enough)
  | inr few ↦
      let near : gap < gap / step * step + step = lt-div-mul-add {a = gap} {b = step} some in
      let most : (gap / step + 1) * step ≤ 255 * step = mul-le-mul_right step (omega (arith, few)) in
      absurd (omega (arith, near, most, le))
]

-- a gap cut at 255 steps has as many steps as it, or 255
pub cut_is : (step gap most cut : ℕ) → 1 ≤ step → gap < 18446744073709551615 → most ≡ min 18446744073709551615 (255 * step) → cut ≡ min gap most → cut / step ≡ min 255 (gap / step)
cut_is step gap most cut some small most_is is = elim (eq-zero-or-pos (255 * step - gap)) [
  | inl past ↦
      let whole : cut ≡ 255 * step = omega (arith, past, most_is, is, small) in
      let many : 255 ≤ gap / step = many_fit gap step some (omega (arith, past)) in
      ap (λ n. n / step) whole ∙ mul-div_cancel 255 some ∙ omega (arith, many)
  | inr below ↦
      let same : cut ≡ gap = omega (arith, below, most_is, is, small) in
      let few : gap / step < 255 = div_below gap step 255 some (omega (arith, below)) in
      ap (λ n. n / step) same ∙ omega (arith, few)
]

-- the product with the inverse has room
pub product_small : (step whole cut : ℕ) → cut ≤ 255 * step → cut * (whole / step) ≤ 255 * whole
product_small step whole cut le =
    let m = whole / step in
    let a : cut * m ≤ 255 * step * m = mul-le-mul_right m le in
    let b : m * step ≤ whole = div-mul-le_self whole step in
    omega (arith, a, b)

-- the answers of the division: one more where another step fits, else the estimate
module _ (step most inverse gap cut : ℕ) (some : 1 ≤ step) (most_is : most ≡ min 18446744073709551615 (255 * step)) (inverse_is : inverse ≡ 72057594037927936 / step)
    (small : gap ≤ 72057594037927936) (is : cut ≡ min gap most) where
  within : cut ≤ 72057594037927936
  within = omega (arith, is, small)

  pub estimate_fits : cut * inverse / 72057594037927936 * step ≤ cut
  estimate_fits = subst (λ m. cut * m / 72057594037927936 * step ≤ cut) (sym inverse_is) (low_fits step 72057594037927936 cut some within (lit≤ tt))

  estimate_near : cut < cut * inverse / 72057594037927936 * step + step + step
  estimate_near = subst (λ m. cut < cut * m / 72057594037927936 * step + step + step) (sym inverse_is) (low_near step 72057594037927936 cut some within (lit≤ tt))

  steps_of_cut : cut / step ≡ min 255 (gap / step)
  steps_of_cut = cut_is step gap most cut some (omega (arith, small)) most_is is

  pub one_more : step ≤ cut - cut * inverse / 72057594037927936 * step → cut * inverse / 72057594037927936 + 1 ≡ min 255 (gap / step)
  one_more fits =
      let low : ℕ = cut * inverse / 72057594037927936 in
      sym (quotient_is cut step (low + 1) (omega (arith, estimate_fits, fits)) (omega (arith, estimate_near))) ∙ steps_of_cut

  pub no_more : cut - cut * inverse / 72057594037927936 * step < step → cut * inverse / 72057594037927936 ≡ min 255 (gap / step)
  no_more less = sym (quotient_is cut step (cut * inverse / 72057594037927936) estimate_fits (omega (arith, estimate_fits, less))) ∙ steps_of_cut
