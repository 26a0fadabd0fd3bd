-- The vector operations, lane by lane.
use Rattle.std.proofs.Common.{◌≡◌, ℕ, zero, suc, ◌+◌, ◌-◌, ◌*◌, ◌%◌, ◌^◌, ◌<◌, min, Bool, true, false, ◌&&◌, cond, leb, ltb, eqb, T, List, [], ◌∷◌, ◌++◌, map, length, get_or, set, replicate, refl, sym, ap, ◌∙◌, subst, inl, inr, arith, w8, Fits, ltb-true, ltb-false, eqb→eq, eq-zero-or-pos, take, ◌≤◌}
use Rattle.std.proofs.lemmas.List.{get_or-map, get_or_append_left}
use Rattle.std.proofs.lemmas.Simd.{get_or-zip2, get_or-replicate, length-zip2, tops_compared, length-sel_l, get_or-sel_l}
use lib.Ieee.Fits.{and_l, and_r}
use lib.Lanes.{zip2, sel_l, top, Each1, pick_l}
use Rattle.lane_kernels.specs.Lanes.{HasLanes}

-- a test that holds of each number below n
abbrev all_below : (ℕ → Bool) → ℕ → Bool
all_below p zero = true
all_below p (suc n) = p n && all_below p n

every_below : (p : ℕ → Bool) (n : ℕ) → T (all_below p n) → (i : ℕ) → i < n → T (p i)
every_below p zero h i l = absurd (omega arith)
every_below p (suc n) h i l =
    elim (eq-zero-or-pos (n - i)) [
      | inl z ↦ let e : n ≡ i = omega arith in subst (λ x. T (p x)) e (and_l _ _ h)
      | inr g ↦ every_below p n (and_r (p n) _ h) i (omega arith)
    ]

pub lanes_of : (f : ℕ → ℕ → ℕ) (xs ys : List ℕ) → length xs ≡ 32 → length ys ≡ 32 → HasLanes (zip2 f xs ys) (λ i. f (get_or xs i 0) (get_or ys i 0))
lanes_of f xs ys p q = record { long = length-zip2 f xs ys (p ∙ sym q) ∙ p; each = λ i h. get_or-zip2 f xs ys i 0 0 0 (omega arith) (omega arith) }

pub lanes_with : (f : ℕ → ℕ → ℕ) (xs : List ℕ) (y : ℕ) → length xs ≡ 32 → HasLanes (zip2 f xs (replicate 32 y)) (λ i. f (get_or xs i 0) y)
lanes_with f xs y p =
    let l = lanes_of f xs (replicate 32 y) p refl in record { long = l.long; each = λ i h. l.each i h ∙ ap (f (get_or xs i 0)) (get_or-replicate 32 i y 0 h) }

-- ---- a table twice over

abbrev pub places : List ℕ
places = 0 ∷ 1 ∷ 2 ∷ 3 ∷ 4 ∷ 5 ∷ 6 ∷ 7 ∷ 8 ∷ 9 ∷ 10 ∷ 11 ∷ 12 ∷ 13 ∷ 14 ∷ 15 ∷ 0 ∷ 1 ∷ 2 ∷ 3 ∷ 4 ∷ 5 ∷ 6 ∷ 7 ∷ 8 ∷ 9 ∷ 10 ∷ 11 ∷ 12 ∷ 13 ∷ 14 ∷ 15 ∷ []

pub doubled : (t : List ℕ) → length t ≡ 16 → HasLanes (pick_l 0 (t ++ t) places) (λ k. get_or t (k % 16) 0)
doubled t long = record {
  long = refl;
  each = λ k h.
      let e : get_or places k 0 ≡ k % 16 = eqb→eq _ _ (every_below (λ i. eqb (get_or places i 0) (i % 16)) 32 tt k h) in
      get_or-map (λ i. get_or (t ++ t) i 0) places k 0 0 h ∙ ap (λ i. get_or (t ++ t) i 0) e ∙ get_or_append_left t t 0 (k % 16) (omega arith);
}

-- ---- a sum that stops at 255

abbrev pub plus : ℕ → ℕ → ℕ
plus a b = (a + b) % 2 ^ 8

abbrev pub flip : ℕ → ℕ
flip a = (2 ^ 8 - 1) - a

abbrev pub below_mask : ℕ → ℕ → ℕ
below_mask a b = cond (ltb a b) 255 0

one_capped : (a b : ℕ) → a < 256 → b < 256 → plus a (cond (top 7 (below_mask b (flip a))) b (flip a)) ≡ min 255 (a + b)
one_capped a b A B = go (ltb b (flip a)) refl
  where
    go : (t : Bool) → ltb b (flip a) ≡ t → plus a (cond (top 7 (cond t 255 0)) b (flip a)) ≡ min 255 (a + b)
    go true e = omega (arith, ltb-true _ _ e)
    go false e = omega (arith, ltb-false _ _ e)

capped_at : (xs ys : List ℕ) (i : ℕ) → i < length xs → i < length ys → Each1 (Fits w8) xs → Each1 (Fits w8) ys
    → get_or (zip2 plus xs (sel_l (map (top 7) (zip2 below_mask ys (map flip xs))) ys (map flip xs))) i 0 ≡ min 255 (get_or xs i 0 + get_or ys i 0)
capped_at [] ys i p q f g = absurd (omega arith)
capped_at (x ∷ xs) [] i p q f g = absurd (omega arith)
capped_at (x ∷ xs) (y ∷ ys) zero p q f g = one_capped x y f.0.fits g.0.fits
capped_at (x ∷ xs) (y ∷ ys) (suc i) p q f g = capped_at xs ys i (omega arith) (omega arith) f.1 g.1

capped_len : (xs ys : List ℕ) → length xs ≡ length ys → length (zip2 plus xs (sel_l (map (top 7) (zip2 below_mask ys (map flip xs))) ys (map flip xs))) ≡ length xs
capped_len [] ys e = refl
capped_len (x ∷ xs) [] e = absurd (omega arith)
capped_len (x ∷ xs) (y ∷ ys) e = ap suc (capped_len xs ys (omega arith))

pub capped : (xs ys : List ℕ) → (length xs ≡ 32) × Each1 (Fits w8) xs → (length ys ≡ 32) × Each1 (Fits w8) ys
    → HasLanes (zip2 plus xs (sel_l (map (top 7) (zip2 below_mask ys (map flip xs))) ys (map flip xs))) (λ k. min 255 (get_or xs k 0 + get_or ys k 0))
capped xs ys p q = record { long = capped_len xs ys (p.0 ∙ sym q.0) ∙ p.0; each = λ k h. capped_at xs ys k (omega (arith, p.0)) (omega (arith, q.0)) p.1 q.1 }

-- ---- a choice at each lane

abbrev pub up : ℕ → ℕ → ℕ
up a b = a * 2 ^ b % 2 ^ 8

abbrev pub at_most : ℕ → ℕ → ℕ
at_most a b = cond (leb a b) 255 0

pub chosen : (v a b : List ℕ) (s : ℕ) → length v ≡ 32 → length a ≡ 32 → length b ≡ 32
    → HasLanes (sel_l (map (top 7) (zip2 at_most (replicate 32 128) (zip2 up v (replicate 32 s)))) b a) (λ k. cond (leb 128 (get_or v k 0 * 2 ^ s % 256)) (get_or b k 0) (get_or a k 0))
chosen v a b s lv la lb =
    let shifted = zip2 up v (replicate 32 s) in
    let moved = lanes_with up v s lv in
    let is = ap (λ ms. sel_l ms b a) (tops_compared w8 leb (replicate 32 128) shifted) in
    let tests = length-zip2 leb (replicate 32 128) shifted (sym moved.long) in
    record {
      long = ap length is ∙ length-sel_l (zip2 leb (replicate 32 128) shifted) b a (tests ∙ sym lb) (tests ∙ sym la) ∙ tests;
      each = λ k h.
          ap (λ l. get_or l k 0) is ∙ get_or-sel_l (zip2 leb (replicate 32 128) shifted) b a k 0 (omega arith) (omega arith) (omega arith)
          ∙ ap (λ t. cond t (get_or b k 0) (get_or a k 0))
          (get_or-zip2 leb (replicate 32 128) shifted k 0 0 false (omega arith) (omega (arith, moved.long)) ∙ ap (λ n. leb n (get_or shifted k 0)) (get_or-replicate 32 k 128 0 h) ∙ ap (leb 128) (moved.each k h));
    }

pub meets : (es : List ℕ) (t : Bool) (hi lo to : ℕ) → (t ≡ true → hi ≡ to) → (t ≡ false → lo ≡ to) → cond t (get_or es hi 0) (get_or es lo 0) ≡ get_or es to 0
meets es true hi lo to a b = ap (λ j. get_or es j 0) (a refl)
meets es false hi lo to a b = ap (λ j. get_or es j 0) (b refl)

pub take_of_splat : (n m a : ℕ) → n ≤ m → take n (replicate m a) ≡ replicate n a
take_of_splat zero m a le = refl
take_of_splat (suc n) zero a le = absurd (omega arith)
take_of_splat (suc n) (suc m) a le = ap (λ l. a ∷ l) (take_of_splat n m a (omega arith))

pub take-set_within : (n : ℕ) (xs : List ℕ) (i a : ℕ) → i < n → take n (set xs i a) ≡ set (take n xs) i a
take-set_within zero xs i a h = absurd (omega arith)
take-set_within (suc n) [] i a h = refl
take-set_within (suc n) (x ∷ xs) zero a h = refl
take-set_within (suc n) (x ∷ xs) (suc i) a h = ap (λ l. x ∷ l) (take-set_within n xs i a (omega arith))
