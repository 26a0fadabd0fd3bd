-- Masks of lanes, bit by bit.
use Rattle.std.proofs.Common.{◌≡◌, ℕ, zero, suc, ◌+◌, ◌-◌, ◌*◌, ◌/◌, ◌%◌, ◌^◌, ◌<◌, ◌≤◌, Bool, true, false, cond, List, [], ◌∷◌, ◌++◌, length, refl, sym, ap, ◌∙◌, inl, inr, arith, add-one, length-append, eq-zero-or-pos}
use Rattle.std.specs.Prelude.{◌==◌}
use Rattle.std.specs.Int.{bit_at}
use lib.Bits.{bit_and}
use lib.Count.{ones}
use lib.Lanes.{mask_l}
use Rattle.std.proofs.Math.Nat.{div-div-eq-div-mul, pow-suc}
use Rattle.std.proofs.lemmas.Bool.{cases_Bool, eqb-true, eqb-false}
use Rattle.std.proofs.lemmas.Nat.{pow-add, mod-pow-add}
use Rattle.std.proofs.lemmas.Nat.Bits.{bit_at-lt, bit_at_and}
use Rattle.std.proofs.lemmas.Simd.{ones-mask_l_cons}
use Rattle.cell_store.specs.declared.Slot.{Slot}
use Rattle.prune_scan.specs.LaneMasks.{is_set}
use Rattle.prune_scan.specs.Blocks.{lane_row, marked_rows}
use Rattle.prune_scan.proofs.Adding.{marked_set, marked_clear}

pub set_from : (mask i : ℕ) → bit_at mask i ≡ 1 → is_set mask i ≡ true
unfolding is_set
set_from mask i is = ap (λ (b : ℕ). b == 1) is

pub clear_from : (mask i : ℕ) → bit_at mask i ≡ 0 → is_set mask i ≡ false
unfolding is_set
clear_from mask i is = ap (λ (b : ℕ). b == 1) is

pub bit_of_set : (mask i : ℕ) → is_set mask i ≡ true → bit_at mask i ≡ 1
unfolding is_set
bit_of_set mask i is = eqb-true (bit_at mask i) 1 is

pub bit_of_clear : (mask i : ℕ) → is_set mask i ≡ false → bit_at mask i ≡ 0
unfolding is_set
bit_of_clear mask i is =
    let never : (bit_at mask i ≡ 1 → ⊥) = eqb-false (bit_at mask i) 1 is in
    omega (arith, bit_at-lt mask i, never)

-- two masks with the same bit
pub same_bit : (mask other i : ℕ) → bit_at mask i ≡ bit_at other i → is_set mask i ≡ is_set other i
unfolding is_set
same_bit mask other i is = ap (λ (b : ℕ). b == 1) is

-- lanes of two masks
pub both_set : (a b i : ℕ) → is_set (bit_and a b) i ≡ true → (is_set a i ≡ true) × (is_set b i ≡ true)
both_set a b i is =
    let bit = bit_of_set (bit_and a b) i is in
    (set_from a i (omega (arith, bit, bit_at_and a b i, bit_at-lt a i, bit_at-lt b i)), set_from b i (omega (arith, bit, bit_at_and a b i, bit_at-lt a i, bit_at-lt b i)))

pub other_clear : (a b i : ℕ) → is_set (bit_and a b) i ≡ false → is_set a i ≡ true → is_set b i ≡ false
other_clear a b i is set =
    clear_from b i (omega (arith, bit_of_clear (bit_and a b) i is, bit_of_set a i set, bit_at_and a b i, bit_at-lt b i))

-- a mask without its first lanes
pub bit_at-shr : (mask at i : ℕ) → bit_at (mask / 2 ^ at) i ≡ bit_at mask (at + i)
bit_at-shr mask at i =
    ap (λ (n : ℕ). n % 2) (div-div-eq-div-mul mask (2 ^ at) (2 ^ i)) ∙ ap (λ (n : ℕ). mask / n % 2) (sym (pow-add 2 at i))

pub set_after : (mask at i : ℕ) → bit_at (mask / 2 ^ at) i ≡ 1 → is_set mask (at + i) ≡ true
set_after mask at i is = set_from mask (at + i) (sym (bit_at-shr mask at i) ∙ is)

pub clear_after : (mask at k : ℕ) → at ≤ k → bit_at (mask / 2 ^ at) (k - at) ≡ 0 → is_set mask k ≡ false
clear_after mask at k le is =
    ap (is_set mask) {x = k} {y = at + (k - at)} (omega arith) ∙ clear_from mask (at + (k - at)) (sym (bit_at-shr mask at (k - at)) ∙ is)

-- a number from a truth value, and back
pub one_if : (b : Bool) → (cond b 1 0 == 1) ≡ b
one_if true = refl
one_if false = refl

-- the first n bits of a mask
bits_of : ℕ → ℕ → List Bool
bits_of mask zero = []
bits_of mask (suc n) = bits_of mask n ++ is_set mask n ∷ []

length-bits : (mask n : ℕ) → length (bits_of mask n) ≡ n
unfolding bits_of
length-bits mask zero = refl
length-bits mask (suc n) = omega (arith, length-append (bits_of mask n) (is_set mask n ∷ []), length-bits mask n)

mask_l-push : (bs : List Bool) (b : Bool) → mask_l (bs ++ b ∷ []) ≡ mask_l bs + cond b (2 ^ length bs) 0
mask_l-push [] true = refl
mask_l-push [] false = refl
mask_l-push (c ∷ bs) true = omega (arith, mask_l-push bs true, pow-suc 2 (length bs))
mask_l-push (c ∷ bs) false = omega (arith, mask_l-push bs false)

ones-push : (bs : List Bool) (b : Bool) → ones (mask_l (bs ++ b ∷ [])) ≡ ones (mask_l bs) + cond b 1 0
unfolding ones
ones-push [] true = refl
ones-push [] false = refl
ones-push (c ∷ bs) b = omega (arith, ones-mask_l_cons c (bs ++ b ∷ []), ones-mask_l_cons c bs, ones-push bs b)

top_bit : (mask n : ℕ) → mask / 2 ^ n % 2 * 2 ^ n ≡ cond (is_set mask n) (2 ^ n) 0
top_bit mask n = elim (cases_Bool (is_set mask n)) [
  | inl set ↦ ap (λ (b : ℕ). b * 2 ^ n) (bit_of_set mask n set) ∙ omega (arith, ap {B = ℕ} (λ b. cond b (2 ^ n) 0) set)
  | inr clear ↦ ap (λ (b : ℕ). b * 2 ^ n) (bit_of_clear mask n clear) ∙ omega (arith, ap {B = ℕ} (λ b. cond b (2 ^ n) 0) clear)
]

low_bits : (mask n : ℕ) → mask % 2 ^ n ≡ mask_l (bits_of mask n)
unfolding bits_of
low_bits mask zero = omega arith
low_bits mask (suc n) =
    let low : mask % 2 ^ suc n ≡ mask / 2 ^ n % 2 * 2 ^ n + mask % 2 ^ n = ap (λ (k : ℕ). mask % 2 ^ k) {x = suc n} {y = 1 + n} (omega arith) ∙ mod-pow-add mask 1 n in
    let long : cond (is_set mask n) (2 ^ length (bits_of mask n)) 0 ≡ cond (is_set mask n) (2 ^ n) 0 = ap (λ (k : ℕ). cond (is_set mask n) (2 ^ k) 0) (length-bits mask n) in
    omega (arith, low, top_bit mask n, long, low_bits mask n, mask_l-push (bits_of mask n) (is_set mask n))

-- as many rows are marked as bits are set
module _ (widths : List ℕ) (cell : ℕ) (slots : List Slot) (codes : List (List ℕ)) where
  marked_size : (mask n : ℕ) → length (marked_rows widths cell slots mask codes (n + 1)) ≡ length (marked_rows widths cell slots mask codes n) + cond (is_set mask n) 1 0
  marked_size mask n = elim (cases_Bool (is_set mask n)) [
    | inl set ↦ omega (arith, ap length (marked_set widths cell slots mask codes n set), length-append (marked_rows widths cell slots mask codes n) (lane_row widths cell slots codes n ∷ []), ap {B = ℕ} (λ b. cond b 1 0) set)
    | inr clear ↦ omega (arith, ap length (marked_clear widths cell slots mask codes n clear), ap {B = ℕ} (λ b. cond b 1 0) clear)
  ]

  ones_marked : (mask n : ℕ) → ones (mask_l (bits_of mask n)) ≡ length (marked_rows widths cell slots mask codes n)
  unfolding bits_of marked_rows ones
  ones_marked mask zero = refl
  ones_marked mask (suc n) =
      omega (arith, ones-push (bits_of mask n) (is_set mask n), ones_marked mask n, marked_size mask n, ap (λ k. length (marked_rows widths cell slots mask codes k)) (add-one n))

  pub ones_below : (mask n : ℕ) → ones (mask % 2 ^ n) ≡ length (marked_rows widths cell slots mask codes n)
  ones_below mask n = ap ones (low_bits mask n) ∙ ones_marked mask n

-- a lane of a mask that has none from n on
pub lane_below : (mask n i : ℕ) → ((k : ℕ) → n ≤ k → is_set mask k ≡ false) → is_set mask i ≡ true → i < n
lane_below mask n i rest set = elim (eq-zero-or-pos (n - i)) [
  | inl past ↦ absurd (let broken : true ≡ false = sym set ∙ rest i (omega (arith, past)) in cc)
  | inr there ↦ omega (arith, there)
]
